-- Laws of steps and tapes, over rows and whatever value of a row is its head.
use Rattle.std.specs.Prelude.{◌≡◌, ℤ, List, length, map, All}
use Rattle.sw_query.specs.declared.bound.Bound.{Bound}
use Rattle.sw_table.specs.declared.row.Row.{Row}
use Rattle.sw_kernel.specs.declared.mark.Mark.{Mark}
use Rattle.sw_kernel.specs.Partition.{head_of}
use Rattle.sw_kernel.specs.Arrangement.{Arrangement, joined, bounds, has_bound}
use Rattle.sw_kernel.specs.Replay.{Step, step, replay, shown, shown_step, pair_of}
use Rattle.sw_kernel.specs.Flat.{marks_from}
use Rattle.sw_kernel.specs.Tapes.{IsTape, IsRising, IsSound, is_marked, count_from, live_rows, BringsKeysOnce, HoldsOnce}

-- a step on rows, then showing each as its pair, is showing them, then the step: it depends on heads alone
abbrev pub StepSeenLaw : Type 0
StepSeenLaw =
    (value tail : Row → ℤ) (e : Step Row) (a : Arrangement Row) →
    shown (pair_of value tail) (step value e a)
    ≡ step head_of (shown_step (pair_of value tail) e) (shown (pair_of value tail) a)

-- the same of a whole replay
abbrev pub ReplaySeenLaw : Type 0
ReplaySeenLaw =
    (value tail : Row → ℤ) (es : List (Step Row)) →
    shown (pair_of value tail) (replay value es) ≡ replay head_of (map (shown_step (pair_of value tail)) es)

-- the bounds of a replay rise strictly
abbrev pub RisingLaw : Type 0
RisingLaw = (value : Row → ℤ) (es : List (Step Row)) → IsRising (bounds (replay value es))

-- the bounds of a replay are just those that stand in ranges
abbrev pub MarkedLaw : Type 0
MarkedLaw = (value : Row → ℤ) (es : List (Step Row)) (b : Bound) → has_bound b (replay value es) ≡ is_marked b es

-- after a tape, each mark parts all items
abbrev pub SoundLaw : Type 0
SoundLaw =
    (value : Row → ℤ) (es : List (Step Row)) → IsTape es →
    All (λ (m : Mark). IsSound value (joined (replay value es)) m) (marks_from 0 (replay value es))

-- after a tape there are as many items as its steps say
abbrev pub CountLaw : Type 0
CountLaw = (value : Row → ℤ) (es : List (Step Row)) → IsTape es → length (joined (replay value es)) ≡ count_from 0 es

-- a tape that brings no key twice leaves each live row once
abbrev pub OnceLaw : Type 0
OnceLaw =
    (value : Row → ℤ) (es : List (Step Row)) → IsTape es → BringsKeysOnce (λ (r : Row). r.key) es →
    HoldsOnce (λ (r : Row). r.key) (joined (replay value es)) (live_rows value (λ (r : Row). r.key) es)
