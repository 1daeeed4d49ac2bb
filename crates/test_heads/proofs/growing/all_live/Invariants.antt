use Rattle.std.proofs.Common.{◌≡◌, ◌∷◌, replicate, true, false}
use Rattle.test_heads.proofs.growing.all_live.Given as goal

abbrev pub invariant-loop-turn : goal.invariant-loop-turn
invariant-loop-turn l = l.live.items ≡ false ∷ replicate l._turn true
