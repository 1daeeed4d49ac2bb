use Rattle.std.proofs.Common.{◌≡◌, replicate, []}
use Rattle.sw_lang.proofs.reading.cuts.Cuts.none.Given as goal

abbrev pub invariant-loop : goal.invariant-loop
invariant-loop l = l.lists.items ≡ replicate l.counter []
