use Rattle.std.proofs.Common.{◌≡◌, take}
use Rattle.sw_set.specs.Choice.{chosen, placed}
use Rattle.sw_set.proofs.reply.replies.found_keys.Given as goal

-- the chosen keys so far
abbrev pub invariant-loop-place : goal.invariant-loop-place
invariant-loop-place g l = (l.found.items ≡ chosen l.choice.bits (take l.place (placed l.from l.fn.keys))) × (l.keys ≡ l.fn.keys)
