use Rattle.std.proofs.Common.{◌≡◌, take}
use Rattle.std.specs.Prelude.{not}
use Rattle.sw_rows.specs.Parts.{has_no_quote}
use Rattle.sw_rows.proofs.loading.cuts.has_no_quote.Given as goal

abbrev pub invariant-loop-c : goal.invariant-loop-c
invariant-loop-c l = not l.found ≡ has_no_quote (take l.c-index l.bytes)
