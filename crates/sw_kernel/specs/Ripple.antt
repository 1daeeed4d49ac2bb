-- The ripples as the loops over marks make them.
use Rattle.std.specs.Prelude.{◌≡◌, ℤ, pos, ℕ, cond, List, [], ◌∷◌, ◌++◌, length, map, nat_lt, ◌+◌, ◌-◌, suc, take, drop, zip, slice_index_or, slice_set}
use Rattle.sw_query.specs.Bounds.{is_left}
use Rattle.sw_kernel.specs.declared.mark.Mark.{Mark}
use Rattle.sw_kernel.specs.Flat.{end_before}

-- how many marks stand before the first that the value lies left of
abbrev pub piece_of : List Mark → ℤ → ℕ
piece_of [] v = 0
piece_of (m ∷ ms) v = cond (is_left m.bound v) 0 (suc (piece_of ms v))

abbrev pub later : Mark → Mark
later m = record m { at = m.at + 1 }

-- the marks from the p-th on stand one place later
abbrev pub later_from : ℕ → List Mark → List Mark
later_from p ms = take p ms ++ map later (drop p ms)

-- a piece's first item, or x where the piece has none
abbrev pub first_or : {A : Type 0} → ℕ → ℕ → A → List A → A
first_or at end x zs = cond (nat_lt at end) (slice_index_or zs at x) x

-- x in a piece's first place, where the piece has one
abbrev pub put_first : {A : Type 0} → ℕ → ℕ → A → List A → List A
put_first at end x zs = cond (nat_lt at end) (slice_set zs at x) zs

-- an item is carried from piece to piece: it takes the first place of each that is not
-- empty, and that one's item is carried on
abbrev pub carried : {A : Type 0} → List Mark → ℕ → A → List A → List A
carried [] n x zs = zs ++ x ∷ []
carried (m ∷ ms) n x zs =
    carried ms n (first_or m.at (end_before ms n) x zs) (put_first m.at (end_before ms n) x zs)

-- x was carried on from the p-th mark, over pairs of two lists, and y is the one that is left
abbrev pub AreCarried : ℕ → List Mark → ℤ × ℤ → List ℤ → List ℤ → List ℤ → List ℤ → ℤ × ℤ → Type 0
AreCarried p ms x hs ts hs' ts' y = zip hs' ts' ++ y ∷ [] ≡ carried (drop p ms) (length hs) x (zip hs ts)

-- the index of the piece that has the place: how many marks stand at or before it
abbrev pub holder_of : List Mark → ℕ → ℕ
holder_of [] i = 0
holder_of (m ∷ ms) i = cond (nat_lt i m.at) 0 (suc (holder_of ms i))

abbrev pub earlier : Mark → Mark
earlier m = record m { at = m.at - 1 }

-- the marks from the p-th on stand one place earlier
abbrev pub earlier_from : ℕ → List Mark → List Mark
earlier_from p ms = take p ms ++ map earlier (drop p ms)

-- the item of one place in another place too
abbrev pub moved : {A : Type 0} → A → ℕ → ℕ → List A → List A
moved d to from zs = slice_set zs to (slice_index_or zs from d)

-- a hole moves on to the end of each piece: the last item of the piece fills it
abbrev pub closed_up : {A : Type 0} → A → List Mark → ℕ → ℕ → List A → List A
closed_up d [] n hole zs = moved d hole (n - 1) zs
closed_up d (m ∷ ms) n hole zs = closed_up d ms n (m.at - 1) (moved d hole (m.at - 1) zs)

abbrev pub origin : ℤ × ℤ
origin = (pos 0, pos 0)

-- a hole among pairs is closed up from the p-th mark on
abbrev pub closed_up_from : ℕ → List Mark → ℕ → ℕ → List (ℤ × ℤ) → List (ℤ × ℤ)
closed_up_from p ms n hole zs = closed_up origin (drop p ms) n hole zs
