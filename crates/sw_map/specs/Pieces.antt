-- A map's flat lists as pieces between bounds, and what they always keep.
use Rattle.std.specs.Prelude.{◌≡◌, ◌<◌, ◌≤◌, ℤ, ℕ, List, [], ◌∷◌, ◌++◌, ◌-◌, count_by, map, length, take, drop, zip, Option, None, Some, Bool, cond, Result, MatchResult, HoldsAt, true, vec_len, vec_capacity}
use Rattle.std.specs.Global.{Vec}
use Rattle.sw_query.specs.Outcomes.{IsRefused}
use Rattle.sw_query.specs.declared.refusal.Refusal.{Refusal}
use Rattle.sw_query.specs.declared.bound.Bound.{Bound}
use Rattle.sw_table.specs.declared.row.Row.{Row}
use Rattle.sw_query.specs.Bounds.{same_bound}
use Rattle.sw_kernel.specs.declared.mark.Mark.{Mark}
use Rattle.sw_kernel.specs.Partition.{partition, head_of}
use Rattle.sw_kernel.specs.Arrangement.{Arrangement, last, piece, joined, crack}
use Rattle.sw_kernel.specs.Replay.{Step, loaded, inserted, removed, ranged, crack_at, step}
use Rattle.sw_kernel.specs.Flat.{InOrder, Pairs}
use Rattle.sw_kernel.specs.Tapes.{IsRising}

-- the arrangement of these items, of which the first stands at i, cut at these marks
abbrev pub pieces_between : {A : Type 0} → ℕ → List A → List Mark → Arrangement A
pieces_between i xs [] = last xs
pieces_between i xs (m ∷ ms) = piece (take (m.at - i) xs) m.bound (pieces_between m.at (drop (m.at - i) xs) ms)

abbrev pub bounds_of : List Mark → List Bound
bounds_of ms = map (λ m. m.bound) ms

-- the place of the bound's mark, if it has one
abbrev pub mark_of : Bound → List Mark → Option ℕ
mark_of b [] = None
mark_of b (m ∷ ms) = cond (same_bound b m.bound) (Some m.at) (mark_of b ms)

-- there is a mark before the k-th piece, and it has the bound
abbrev pub IsBefore : ℕ → Bound → List Mark → Type 0
IsBefore k b marks = (0 < k) × HoldsAt (λ m. same_bound b m.bound ≡ true) marks (k - 1)

-- zs with the places from s up to e partitioned
abbrev pub parted : {A : Type 0} → (A → Bool) → ℕ → ℕ → List A → List A
parted p s e zs = take s zs ++ (partition p (take (e - s) (drop s zs)) ++ drop e zs)

-- these items and marks are this arrangement; the marks' places never fall and their bounds rise
pub record IsLaidOut {A : Type 0} (a : Arrangement A) (items : List A) (marks : List Mark) : Type 0 where
  pub pieces : pieces_between 0 items marks ≡ a
  pub order : InOrder 0 (length items) marks
  pub rising : IsRising (bounds_of marks)

-- how many items of the places from s up to e pass a test
abbrev pub count_between : {A : Type 0} → (A → Bool) → ℕ → ℕ → List A → ℕ
count_between p s e zs = count_by p (take (e - s) (drop s zs))

-- the pairs of two lists, in the pieces that the marks make
abbrev pub pieces_of : Vec ℤ → Vec ℤ → List Mark → Pairs
pieces_of head tail marks = pieces_between 0 (zip head.items tail.items) marks

-- the pairs of two lists
abbrev pub zipped : Vec ℤ → Vec ℤ → List (ℤ × ℤ)
zipped head tail = zip head.items tail.items

-- a crack of pairs, and then another at a bound that may be missing
abbrev pub cut_twice : Bound → Option Bound → Pairs → Pairs
cut_twice b c a = crack_at head_of c (crack head_of b a)

-- two lists and their marks are now what f makes of their pieces
abbrev pub AreCut : (Pairs → Pairs) → Vec ℤ → Vec ℤ → Vec Mark → Vec ℤ → Vec ℤ → Vec Mark → Type 0
AreCut f head tail marks head' tail' marks' =
    IsLaidOut (f (pieces_of head tail marks.items)) (zip head'.items tail'.items) marks'.items

-- pairs in their pieces, and for how many pairs there is room
pub record Table : Type 0 where
  pub pieces : Arrangement (ℤ × ℤ)
  pub room : ℕ

-- a step on the pairs; the room stays
abbrev pub stepped : Step (ℤ × ℤ) → Table → Table
stepped e t = record { pieces = step head_of e t.pieces; room = t.room }

-- there is room for the pairs that there are after a step
abbrev pub HasRoomAfter : Step (ℤ × ℤ) → Table → Type 0
HasRoomAfter e t = length (joined (stepped e t).pieces) ≤ t.room

-- the table after it was to make a step; or it was refused for want of memory, and is as it was
abbrev pub HasSteppedOr : {A : Type 0} → Result A Refusal → Step (ℤ × ℤ) → Table → Table → Type 0
HasSteppedOr r e t t' = MatchResult r (λ _. t' ≡ stepped e t) (IsRefused t t')

-- a removed place is one of the pairs'
abbrev pub HasPlace : Step (ℤ × ℤ) → Table → Type 0
HasPlace (loaded xs) t = Unit {0}
HasPlace (inserted x) t = Unit {0}
HasPlace (removed place) t = place < length (joined t.pieces)
HasPlace (ranged lower upper) t = Unit {0}

-- every entry but a range is replayed without memory
abbrev pub TakesNoMemory : Step Row → Type 0
TakesNoMemory (loaded rows) = Unit {0}
TakesNoMemory (inserted row) = Unit {0}
TakesNoMemory (removed place) = Unit {0}
TakesNoMemory (ranged lower upper) = ⊥

-- the two lists and the marks as a table with so much room
abbrev pub table_of : Vec ℤ → Vec ℤ → List Mark → ℕ → Table
table_of head tail marks room = record { pieces = pieces_of head tail marks; room = room }

-- what they always keep
pub record IsTable (head tail : Vec ℤ) (marks : List Mark) (room : ℕ) : Type 0 where
  pub lengths : vec_len head ≡ vec_len tail
  pub order : InOrder 0 (vec_len head) marks
  pub rising : IsRising (bounds_of marks)
  pub heads : room ≤ vec_capacity head
  pub tails : room ≤ vec_capacity tail
