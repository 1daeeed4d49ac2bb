-- Pieces between bounds, over items that show a head value: what a crack and the two ripples make of them.
use Rattle.std.specs.Prelude.{ℤ, ℕ, Bool, false, ◌||◌, cond, List, [], ◌∷◌, ◌++◌, reverse, length, nat_lt, ◌-◌, zero, suc}
use Rattle.sw_query.specs.declared.bound.Bound.{Bound}
use Rattle.sw_query.specs.Bounds.{bound_below, same_bound}
use Rattle.sw_kernel.specs.Partition.{left_part, right_part, goes_left}

-- one piece, or a piece, a bound and the pieces after it
pub data Arrangement (A : Type 0) : Type 0 where
  last : List A → Arrangement A
  piece : List A → Bound → Arrangement A → Arrangement A

-- all items, in order
abbrev pub joined : {A : Type 0} → Arrangement A → List A
joined (last xs) = xs
joined (piece xs b rest) = xs ++ joined rest

-- a bound that is there changes nothing; otherwise the piece that it falls into is partitioned
abbrev pub crack : {A : Type 0} → (A → ℤ) → Bound → Arrangement A → Arrangement A
crack value b (last xs) = piece (left_part (goes_left value b) xs) b (last (right_part (goes_left value b) xs))
crack value b (piece xs c rest) =
    cond (same_bound b c) (piece xs c rest)
    (cond (bound_below b c)
    (piece (left_part (goes_left value b) xs) b (piece (right_part (goes_left value b) xs) c rest))
    (piece xs c (crack value b rest)))

-- the first item goes to the end
abbrev pub first_to_end : {A : Type 0} → List A → List A
first_to_end [] = []
first_to_end (x ∷ xs) = xs ++ x ∷ []

-- the last item comes to the front
abbrev pub last_to_front : {A : Type 0} → List A → List A
last_to_front xs = reverse (first_to_end (reverse xs))

-- the item at a place goes out, and the last one takes its place
abbrev pub take_out : {A : Type 0} → List A → ℕ → List A
take_out [] n = []
take_out (x ∷ xs) zero = last_to_front xs
take_out (x ∷ xs) (suc n) = x ∷ take_out xs n

-- each piece changed by f
abbrev pub each_piece : {A : Type 0} → (List A → List A) → Arrangement A → Arrangement A
each_piece f (last xs) = last (f xs)
each_piece f (piece xs b rest) = piece (f xs) b (each_piece f rest)

-- an item goes to the end of its piece; in each later piece the first item goes to the end
abbrev pub ripple_insert : {A : Type 0} → (A → ℤ) → A → Arrangement A → Arrangement A
ripple_insert value x (last xs) = last (xs ++ x ∷ [])
ripple_insert value x (piece xs b rest) =
    cond (goes_left value b x)
    (piece (xs ++ x ∷ []) b (each_piece first_to_end rest))
    (piece xs b (ripple_insert value x rest))

-- the last item of the piece takes the place; in each later piece the last item comes to the front
abbrev pub ripple_remove : {A : Type 0} → ℕ → Arrangement A → Arrangement A
ripple_remove n (last xs) = last (take_out xs n)
ripple_remove n (piece xs b rest) =
    cond (nat_lt n (length xs))
    (piece (take_out xs n) b (each_piece last_to_front rest))
    (piece xs b (ripple_remove (n - length xs) rest))

-- the bounds, in order
abbrev pub bounds : {A : Type 0} → Arrangement A → List Bound
bounds (last xs) = []
bounds (piece xs b rest) = b ∷ bounds rest

-- whether a bound is among them
abbrev pub has_bound : {A : Type 0} → Bound → Arrangement A → Bool
has_bound b (last xs) = false
has_bound b (piece xs c rest) = same_bound b c || has_bound b rest
