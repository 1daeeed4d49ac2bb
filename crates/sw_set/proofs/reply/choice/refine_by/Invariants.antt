use Rattle.std.proofs.Common.{◌≡◌, ℕ, ◌<◌, ◌≤◌, ◌&&◌, pos, false, get_or, length}
use Rattle.sw_query.specs.Bounds.{is_within}
use Rattle.sw_set.proofs.reply.choice.refine_by.Given as goal

-- the places so far are refined, the others are as they were
abbrev pub invariant-loop-place : goal.invariant-loop-place
invariant-loop-place g l =
    (l.window ≡ l.fn.window) × (length l.bits ≡ length l.fn.bits) ×
    ((k : ℕ) → k < l.place → get_or l.bits k false ≡ (get_or l.fn.bits k false && is_within l.cond.lower l.cond.upper (get_or l.fn.window k (pos 0)))) ×
    ((k : ℕ) → l.place ≤ k → get_or l.bits k false ≡ get_or l.fn.bits k false)
