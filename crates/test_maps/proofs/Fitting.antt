-- What a map may replay, from what its looks tell.
use Rattle.std.proofs.Common.{◌≡◌, ℕ, ◌-◌, ◌<◌, ◌≤◌, ◌^◌, false, List, length, All, Option, arith}
use Rattle.sw_query.specs.declared.bound.Bound.{Bound}
use Rattle.sw_table.specs.declared.row.Row.{Row}
use Rattle.sw_kernel.specs.Replay.{loaded, inserted, removed, ranged}
use Rattle.sw_map.specs.Held.{Held, pairs_in}
use Rattle.sw_map.proofs.Replays.{after-pairs}
use Rattle.test_maps.specs.Steps.{CanReplay}

-- it was begun, it stands early, and its pairs have room
pub record IsFit (m : Held) : Type 0 where
  pub begun : m.is_blank ≡ false
  pub early : m.cursor < 4096
  pub room : pairs_in m ≤ m.cells

-- a fit map that has replayed nothing may load rows that it has room for, whose keys fit a signed cell
pub can-load : (m : Held) (rows : List Row) → IsFit m → m.cursor ≡ 0 → length rows ≤ m.cells - pairs_in m → All (λ (r : Row). r.key < 2 ^ 63) rows → CanReplay (loaded rows) m
can-load m rows fit first room keys =
    let after = after-pairs m (loaded rows) first in
    let r = fit.room in
    record { begun = fit.begun; early = fit.early; next = first; keys = keys; room = omega (arith, after, r, room) }

-- a fit map with room for one pair more may insert a row whose key fits a signed cell
pub can-insert : (m : Held) (row : Row) → IsFit m → pairs_in m < m.cells → row.key < 2 ^ 63 → CanReplay (inserted row) m
can-insert m row fit room key =
    let after = after-pairs m (inserted row) tt in
    record { begun = fit.begun; early = fit.early; next = tt; keys = λ k d lt. search (arith, key); room = omega (arith, after, room) }

-- a fit map may remove a place of its pairs
pub can-remove : (m : Held) (place : ℕ) → IsFit m → place < pairs_in m → CanReplay (removed place) m
can-remove m place fit within =
    let after = after-pairs m (removed place) within in
    let r = fit.room in
    record { begun = fit.begun; early = fit.early; next = within; keys = λ k d lt. absurd (omega (arith, lt)); room = omega (arith, after, r) }

-- a fit map may replay any range
pub can-range : (m : Held) (lower upper : Option Bound) → IsFit m → CanReplay (ranged lower upper) m
can-range m lower upper fit =
    let after = after-pairs m (ranged lower upper) tt in
    let r = fit.room in
    record { begun = fit.begun; early = fit.early; next = tt; keys = λ k d lt. absurd (omega (arith, lt)); room = omega (arith, after, r) }
