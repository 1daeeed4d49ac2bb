use Rattle.std.proofs.Common.{◌≡◌, ◌+◌, length, take}
use Rattle.sw_chunks.specs.Heads.{ArePartsOf}
use Rattle.sw_chunks.proofs.dealing.deal.Given as goal

abbrev pub invariant-loop-at : goal.invariant-loop-at
invariant-loop-at l = (length l.parts.items ≡ length l.by.cuts.now + 1) × ArePartsOf l.by.attribute l.by.cuts.now (take l.at l.rows.items) l.parts.items
