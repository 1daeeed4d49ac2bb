-- Which lists of steps are tapes, and what a tape says of rows, bounds and lengths.
use Rattle.std.specs.Prelude.{◌≡◌, ℤ, ℕ, Bool, true, false, not, ◌||◌, nat_eq, ◌<◌, ◌+◌, ◌-◌, max, List, [], ◌∷◌, ◌++◌, length, map, filter, take, drop, All, Contains, Option, None, Some, zero, suc}
use Rattle.std.specs.List.{IsDistinct}
use Rattle.sw_query.specs.declared.bound.Bound.{Bound}
use Rattle.sw_query.specs.Bounds.{bound_below, same_bound}
use Rattle.sw_kernel.specs.declared.mark.Mark.{Mark}
use Rattle.sw_kernel.specs.Partition.{goes_left}
use Rattle.sw_kernel.specs.Arrangement.{Arrangement, last, joined}
use Rattle.sw_kernel.specs.Replay.{Step, loaded, inserted, removed, ranged, step}

-- how many items there are after a step, from how many there were
abbrev pub count_after : {A : Type 0} → ℕ → Step A → ℕ
count_after n (loaded xs) = n + length xs
count_after n (inserted x) = n + 1
count_after n (removed place) = n - 1
count_after n (ranged lower upper) = n

-- the number after several steps
abbrev pub count_from : {A : Type 0} → ℕ → List (Step A) → ℕ
count_from n [] = n
count_from n (e ∷ es) = count_from (count_after n e) es

-- the greatest number after any of the steps
abbrev pub peak_from : {A : Type 0} → ℕ → List (Step A) → ℕ
peak_from n [] = 0
peak_from n (e ∷ es) = max (count_after n e) (peak_from (count_after n e) es)

-- what may come after the load, where there are n items: no load, and no removal of a place that there isn't
abbrev pub MayFollow : {A : Type 0} → ℕ → Step A → Type 0
MayFollow n (loaded xs) = ⊥
MayFollow n (inserted x) = Unit {0}
MayFollow n (removed place) = place < n
MayFollow n (ranged lower upper) = Unit {0}

abbrev pub AllFollow : {A : Type 0} → ℕ → List (Step A) → Type 0
AllFollow n [] = Unit {0}
AllFollow n (e ∷ es) = MayFollow n e × AllFollow (count_after n e) es

-- a tape: one load, and then steps that may follow it
abbrev pub Begins : {A : Type 0} → Step A → List (Step A) → Type 0
Begins (loaded xs) es = AllFollow (length xs) es
Begins (inserted x) es = ⊥
Begins (removed place) es = ⊥
Begins (ranged lower upper) es = ⊥

abbrev pub IsTape : {A : Type 0} → List (Step A) → Type 0
IsTape [] = ⊥
IsTape (e ∷ es) = Begins e es

-- whether this is the bound
abbrev pub is_bound : Bound → Option Bound → Bool
is_bound b None = false
is_bound b (Some c) = same_bound b c

-- whether the bound stands in a range
abbrev pub ranges_at : {A : Type 0} → Bound → Step A → Bool
ranges_at b (loaded xs) = false
ranges_at b (inserted x) = false
ranges_at b (removed place) = false
ranges_at b (ranged lower upper) = is_bound b lower || is_bound b upper

-- whether the bound stands in a range of the tape
abbrev pub is_marked : {A : Type 0} → Bound → List (Step A) → Bool
is_marked b [] = false
is_marked b (e ∷ es) = ranges_at b e || is_marked b es

-- the bound is below all these
abbrev pub IsBelowAll : Bound → List Bound → Type 0
IsBelowAll b [] = Unit {0}
IsBelowAll b (c ∷ cs) = (bound_below b c ≡ true) × IsBelowAll b cs

-- each bound is below all later ones
abbrev pub IsRising : List Bound → Type 0
IsRising [] = Unit {0}
IsRising (b ∷ bs) = IsBelowAll b bs × IsRising bs

-- what lies before a mark is left of its bound, what lies behind is not
pub record IsSound {A : Type 0} (value : A → ℤ) (xs : List A) (m : Mark) : Type 0 where
  pub before : All (λ (x : A). goes_left value m.bound x ≡ true) (take m.at xs)
  pub behind : All (λ (x : A). goes_left value m.bound x ≡ false) (drop m.at xs)

-- the rows without those of the key that the item at a place has
abbrev pub without_place : {A : Type 0} → (A → ℕ) → List A → ℕ → List A → List A
without_place key [] place rows = rows
without_place key (x ∷ xs) zero rows = filter (λ r. not (nat_eq (key r) (key x))) rows
without_place key (x ∷ xs) (suc place) rows = without_place key xs place rows

-- the live rows after a step on an arrangement of these items
abbrev pub live_after : {A : Type 0} → (A → ℕ) → List A → Step A → List A → List A
live_after key items (loaded xs) rows = rows ++ xs
live_after key items (inserted x) rows = rows ++ x ∷ []
live_after key items (removed place) rows = without_place key items place rows
live_after key items (ranged lower upper) rows = rows

abbrev pub live_from : {A : Type 0} → (A → ℤ) → (A → ℕ) → Arrangement A → List (Step A) → List A → List A
live_from value key a [] rows = rows
live_from value key a (e ∷ es) rows = live_from value key (step value e a) es (live_after key (joined a) e rows)

-- the live rows of a tape: those loaded and inserted, in order, less those whose key stood at a removed place
abbrev pub live_rows : {A : Type 0} → (A → ℤ) → (A → ℕ) → List (Step A) → List A
live_rows value key es = live_from value key (last []) es []

-- all rows that a tape brings
abbrev pub brought_by : {A : Type 0} → Step A → List A
brought_by (loaded xs) = xs
brought_by (inserted x) = x ∷ []
brought_by (removed place) = []
brought_by (ranged lower upper) = []

abbrev pub brought : {A : Type 0} → List (Step A) → List A
brought [] = []
brought (e ∷ es) = brought_by e ++ brought es

-- no key is brought twice
abbrev pub BringsKeysOnce : {A : Type 0} → (A → ℕ) → List (Step A) → Type 0
BringsKeysOnce key es = IsDistinct nat_eq (map key (brought es))

-- the items are just these rows, and no key is there twice
pub record HoldsOnce {A : Type 0} (key : A → ℕ) (items rows : List A) : Type 0 where
  pub no_more : (x : A) → Contains items x → Contains rows x
  pub no_less : (x : A) → Contains rows x → Contains items x
  pub once : IsDistinct nat_eq (map key items)
