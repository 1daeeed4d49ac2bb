use Rattle.std.proofs.Common.{◌≡◌, ◌≤◌, ◌+◌, ℕ, get_or, length, map, take}
use Rattle.sw_chunks.specs.Cuts.{Interval, intervals}
use Rattle.sw_chunks.specs.Heads.{opened_area, part_of}
use Rattle.sw_chunks.proofs.dealing.areas_of.Given as goal

-- areas of the parts before this one, and the other parts as they were dealt
abbrev pub invariant-loop-k : goal.invariant-loop-k
invariant-loop-k g l =
    (l.areas.items ≡ map (opened_area l.by.attribute l.fn.rows.items) (take l.k (intervals l.by.cuts.now)))
    × (length l.parts.items ≡ length l.by.cuts.now + 1)
    × ((j : ℕ) (d : _) (i : Interval) → l.k ≤ j → j ≤ length l.by.cuts.now → (get_or l.parts.items j d).items ≡ part_of l.by.attribute l.fn.rows.items (get_or (intervals l.by.cuts.now) j i))
