use Rattle.std.proofs.Common.{◌≡◌, take}
use Rattle.sw_query.specs.Replies.{evenly}
use Rattle.sw_query.proofs.reply.labels.listed.Given as goal

-- the keys so far
abbrev pub invariant-loop-key : goal.invariant-loop-key
invariant-loop-key l = l.labels.items ≡ evenly l.many (take l.key-index l.keys)
