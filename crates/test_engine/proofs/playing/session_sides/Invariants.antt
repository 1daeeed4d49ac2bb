use Rattle.std.proofs.Common.{All, length}
use Rattle.sw_spine.specs.History.{CallsBelow}
use Rattle.test_engine.proofs.playing.session_sides.Given as goal

abbrev pub invariant-loop-ticket : goal.invariant-loop-ticket
invariant-loop-ticket g l = All (λ s. All (λ c. CallsBelow (length g.J.Naming.columns) c) s.calls.now) l.sides.items
