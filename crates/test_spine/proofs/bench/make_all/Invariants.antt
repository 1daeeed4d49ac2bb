use Rattle.test_spine.specs.Benches.{IsAtRest}
use Rattle.test_spine.proofs.bench.make_all.Given as goal

abbrev pub invariant-loop-step : goal.invariant-loop-step
invariant-loop-step l = IsAtRest l.spine l.rows.items
