use Rattle.std.proofs.Common.{◌≡◌}
use Rattle.test_small.proofs.hall.enter_often.Given as goal

-- the thread counted once each turn
abbrev pub invariant-loop-done : goal.invariant-loop-done
invariant-loop-done g l = (l.mine ≡ l._done) × (l.times ≡ l.fn.times)
