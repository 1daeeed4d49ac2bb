use Rattle.std.proofs.Common.{length, All}
use Rattle.sw_spine.specs.History.{CallsBelow}
use Rattle.test_engine.proofs.running.blocks.Given as goal

abbrev pub invariant-loop-block : goal.invariant-loop-block
invariant-loop-block l = All (λ b. All (λ c. CallsBelow (length l.schema) c) b.items) l.blocks.items
