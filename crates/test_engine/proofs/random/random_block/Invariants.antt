use Rattle.std.proofs.Common.{length, All}
use Rattle.sw_spine.specs.History.{CallsBelow}
use Rattle.test_engine.proofs.random.random_block.Given as goal

abbrev pub invariant-loop : goal.invariant-loop
invariant-loop l = All (λ c. CallsBelow (length l.schema) c) l.calls.items
