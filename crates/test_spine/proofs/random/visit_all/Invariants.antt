use Rattle.test_spine.specs.Benches.{IsAtRest}
use Rattle.test_spine.proofs.random.visit_all.Given as goal

abbrev pub invariant-loop-turn : goal.invariant-loop-turn
invariant-loop-turn l = IsAtRest l.spine l.rows.items
