use Rattle.std.proofs.Common.{length, All}
use Rattle.sw_spine.specs.History.{CallsBelow}
use Rattle.test_engine.proofs.random.random_blocks.Given as goal

abbrev pub invariant-loop-place : goal.invariant-loop-place
invariant-loop-place l = All (λ b. All (λ c. CallsBelow (length l.schema) c) b.items) l.blocks.items
