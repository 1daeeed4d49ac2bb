-- The steps that a tape logs, their replay from one empty piece, and an arrangement
-- with its items shown as something else.
use Rattle.std.specs.Prelude.{ℤ, ℕ, List, [], ◌∷◌, ◌++◌, map, Option, None, Some}
use Rattle.sw_query.specs.declared.bound.Bound.{Bound}
use Rattle.sw_kernel.specs.Arrangement.{Arrangement, last, piece, crack, ripple_insert, ripple_remove}

-- what a tape logs, over items
pub data Step (A : Type 0) : Type 0 where
  loaded : List A → Step A
  inserted : A → Step A
  removed : ℕ → Step A
  ranged : Option Bound → Option Bound → Step A

-- a crack at a bound that may be missing
abbrev pub crack_at : {A : Type 0} → (A → ℤ) → Option Bound → Arrangement A → Arrangement A
crack_at value None a = a
crack_at value (Some b) a = crack value b a

-- items come to the end of the last piece
abbrev pub load : {A : Type 0} → List A → Arrangement A → Arrangement A
load ys (last xs) = last (xs ++ ys)
load ys (piece xs b rest) = piece xs b (load ys rest)

-- one entry of a tape
abbrev pub step : {A : Type 0} → (A → ℤ) → Step A → Arrangement A → Arrangement A
step value (loaded xs) a = load xs a
step value (inserted x) a = ripple_insert value x a
step value (removed n) a = ripple_remove n a
step value (ranged l u) a = crack_at value u (crack_at value l a)

-- the entries in order, from one empty piece
abbrev pub replay_from : {A : Type 0} → (A → ℤ) → Arrangement A → List (Step A) → Arrangement A
replay_from value a [] = a
replay_from value a (e ∷ es) = replay_from value (step value e a) es

abbrev pub replay : {A : Type 0} → (A → ℤ) → List (Step A) → Arrangement A
replay value es = replay_from value (last []) es

-- an arrangement with each item shown by f
abbrev pub shown : {A B : Type 0} → (A → B) → Arrangement A → Arrangement B
shown f (last xs) = last (map f xs)
shown f (piece xs b rest) = piece (map f xs) b (shown f rest)

-- a step on items shown by f
abbrev pub shown_step : {A B : Type 0} → (A → B) → Step A → Step B
shown_step f (loaded xs) = loaded (map f xs)
shown_step f (inserted x) = inserted (f x)
shown_step f (removed n) = removed n
shown_step f (ranged l u) = ranged l u

-- a row as the pair of its head and one other value
abbrev pub pair_of : {A : Type 0} → (A → ℤ) → (A → ℤ) → A → ℤ × ℤ
pair_of value tail x = (value x, tail x)
