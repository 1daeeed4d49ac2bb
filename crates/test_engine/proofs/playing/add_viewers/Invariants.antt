use Rattle.std.proofs.Common.{All, length}
use Rattle.sw_spine.specs.History.{CallsBelow}
use Rattle.test_engine.proofs.playing.add_viewers.Given as goal

abbrev pub invariant-loop : goal.invariant-loop
invariant-loop g l = All (λ s. All (λ c. CallsBelow (length g.J.Naming.columns) c) s.calls.now) l.sides.items
