use Rattle.std.proofs.Common.{◌≡◌, ◌*◌}
use Rattle.sw_bits.specs.Places.{places}
use Rattle.sw_bits.proofs.Words.{trues}
use Rattle.sw_bits.proofs.vector.Bits.count.Given as goal

-- the true places of the words so far
abbrev pub invariant-loop-word : goal.invariant-loop-word
invariant-loop-word l = l.count ≡ trues (places l.word-items 0 (64 * l.word-index))
