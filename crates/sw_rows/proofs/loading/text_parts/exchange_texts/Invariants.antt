use Rattle.std.proofs.Common.{◌≡◌, map, take}
use Rattle.sw_rows.specs.Header.{kinds_of}
use Rattle.sw_rows.specs.Parts.{row_exchanged}
use Rattle.sw_rows.proofs.loading.text_parts.exchange_texts.Given as goal

abbrev pub invariant-loop-attr : goal.invariant-loop-attr
invariant-loop-attr l = l.rows ≡ record l.initial.rows { items = map (row_exchanged (take l.attr (kinds_of l.columns)) l.codes) l.initial.rows.items }
