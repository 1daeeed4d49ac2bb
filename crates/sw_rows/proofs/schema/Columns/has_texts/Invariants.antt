use Rattle.std.proofs.Common.{◌≡◌, drop}
use Rattle.sw_rows.specs.Header.{has_texts}
use Rattle.sw_rows.proofs.schema.Columns.has_texts.Given as goal

abbrev pub invariant-loop-attr : goal.invariant-loop-attr
invariant-loop-attr l = has_texts (drop l.attr l.self) ≡ has_texts l.self
