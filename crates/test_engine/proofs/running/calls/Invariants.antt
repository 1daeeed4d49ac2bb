use Rattle.std.proofs.Common.{length, All}
use Rattle.sw_spine.specs.History.{CallsBelow}
use Rattle.test_engine.proofs.running.calls.Given as goal

abbrev pub invariant-loop-line : goal.invariant-loop-line
invariant-loop-line l = All (λ c. CallsBelow (length l.schema) c) l.calls.items
