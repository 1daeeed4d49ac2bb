-- The rows that pass a test, in key order, from items that hold each row once.
use Rattle.std.proofs.Common.{◌≡◌, ◌≢◌, ℕ, suc, ◌+◌, ◌<◌, ◌≤◌, ℤ, pos, ◌+ℤ◌, Bool, true, false, cond, List, [], ◌∷◌, length, map, filter, fold, get_or, Option, None, Some, IsPermutation, inl, inr, refl, ap, sym, ◌∙◌, arith}
use Rattle.std.specs.List.{AllByRecursion}
use Rattle.std.specs.List.Sorted.{IsNonDecreasingBy}
use Rattle.std.specs.Int.{int_min, int_max}
use Rattle.std.proofs.lemmas.Int.{ints}
use Rattle.std.proofs.lemmas.List.Sorted.{IsPermutation-sym}
use Rattle.sw_query.specs.Scan.{total, least, greatest}
use Rattle.sw_kernel.proofs.Members.{Mem, mem-permutation, all-mem, mem-filter, mem-filtered}
use Rattle.sw_set.specs.Shelf.{Rises}
use Rattle.sw_set.proofs.Replying.Gathered.{Apart, Same, gathered, gathered-same, count_in, count-swaps, total-swaps, min-swaps, max-swaps, lesser_of, larger_of}

-- ---- strictly rising lists of the same members are one list

rises-heads : {X : Type 0} (k : X → ℕ) (x : X) (xs : List X) (y : X) (ys : List X) → Rises k (x ∷ xs) → Rises k (y ∷ ys) → Mem x (y ∷ ys) → Mem y (x ∷ xs) → x ≡ y
rises-heads k x xs y ys r s (inl e) n = e
rises-heads k x xs y ys r s (inr m) (inl e) = sym e
rises-heads k x xs y ys r s (inr m) (inr n) =
    let a : k y < k x = all-mem (λ v. k y < k v) ys x s.0 m in
    let b : k x < k y = all-mem (λ v. k x < k v) xs y r.0 n in
    absurd (omega arith)

rises-tail : {X : Type 0} (k : X → ℕ) (x : X) (xs : List X) (y : X) (ys : List X) → x ≡ y → Rises k (x ∷ xs) → (v : X) → Mem v xs → Mem v (y ∷ ys) → Mem v ys
rises-tail k x xs y ys e r v m (inl q) =
    let a : k x < k v = all-mem (λ w. k x < k w) xs v r.0 m in
    let same : k v ≡ k x = ap k (q ∙ sym e) in
    absurd (omega arith)
rises-tail k x xs y ys e r v m (inr n) = n

-- two lists that rise strictly and have the same members are the same list
pub rising-unique : {X : Type 0} (k : X → ℕ) (xs ys : List X) → Rises k xs → Rises k ys → ((x : X) → Mem x xs → Mem x ys) → ((x : X) → Mem x ys → Mem x xs) → xs ≡ ys
rising-unique k [] [] r s to back = refl
rising-unique k [] (y ∷ ys) r s to back = absurd (back y (inl refl))
rising-unique k (x ∷ xs) [] r s to back = absurd (to x (inl refl))
rising-unique k (x ∷ xs) (y ∷ ys) r s to back =
    let e = rises-heads k x xs y ys r s (to x (inl refl)) (back y (inl refl)) in
    let rest = rising-unique k xs ys r.1 s.1 (λ v m. rises-tail k x xs y ys e r v m (to v (inr m))) (λ v m. rises-tail k y ys x xs (sym e) s v m (back v (inr m))) in
    cc

rises-all : {X : Type 0} (P : X → Type 0) (p : X → Bool) (xs : List X) → AllByRecursion P xs → AllByRecursion P (filter p xs)
rises-all P p [] a = tt
rises-all P p (x ∷ xs) a = elim (p x) as (λ b. AllByRecursion P (cond b (x ∷ filter p xs) (filter p xs))) [ true ↦ (a.0, rises-all P p xs a.1) | false ↦ rises-all P p xs a.1 ]

-- the items of a rising list that pass a test rise
pub rises-filter : {X : Type 0} (k : X → ℕ) (p : X → Bool) (xs : List X) → Rises k xs → Rises k (filter p xs)
rises-filter k p [] r = tt
rises-filter k p (x ∷ xs) r = elim (p x) as (λ b. Rises k (cond b (x ∷ filter p xs) (filter p xs))) [ true ↦ (rises-all (λ y. k x < k y) p xs r.0, rises-filter k p xs r.1) | false ↦ rises-filter k p xs r.1 ]

-- ---- a list of distinct numbers that does not fall rises

apart-filter-head : {X : Type 0} (key : X → ℕ) (p : X → Bool) (x : X) (xs : List X) → ((y : X) → Mem y xs → key y ≢ key x) → (y : X) → Mem y (filter p xs) → key y ≢ key x
apart-filter-head key p x xs h y m = h y (mem-filtered p xs y m).0

-- where no two items have the same number, no two of those that pass a test have
pub apart-filter : {X : Type 0} (key : X → ℕ) (p : X → Bool) (xs : List X) → Apart key xs → Apart key (filter p xs)
apart-filter key p [] a = tt
apart-filter key p (x ∷ xs) a = elim (p x) as (λ b. Apart key (cond b (x ∷ filter p xs) (filter p xs))) [ true ↦ (apart-filter-head key p x xs a.0, apart-filter key p xs a.1) | false ↦ apart-filter key p xs a.1 ]

strictly : {X : Type 0} (k : X → ℕ) (n : ℕ) (xs : List X) → ((j : ℕ) (d : X) → j < length xs → n ≤ k (get_or xs j d)) → ((y : X) → Mem y xs → k y ≢ n) → AllByRecursion (λ y. n < k y) xs
strictly k n [] le d = tt
strictly k n (x ∷ xs) le d =
    let a = le 0 x (omega arith) in
    let b = d x (inl refl) in
    (omega arith, strictly k n xs (λ j e lt. le (suc j) e (omega arith)) (λ y m. d y (inr m)))

-- a list that does not fall and in which no number is there twice rises
pub rises-sorted : {X : Type 0} (k : X → ℕ) (xs : List X) → IsNonDecreasingBy k xs → Apart k xs → Rises k xs
rises-sorted k [] s a = tt
rises-sorted k (x ∷ xs) s a = (
  strictly k (k x) xs (λ j e lt. s 0 (suc j) e (omega arith) (omega arith)) a.0,
  rises-sorted k xs (λ i j e le lt. s (suc i) (suc j) e (omega arith) (omega arith)) a.1,
)

apart-moved-head : {X : Type 0} (key : X → ℕ) (xs ys : List X) → IsPermutation xs ys → (P : X → Type 0) → ((y : X) → Mem y xs → P y) → (y : X) → Mem y ys → P y
apart-moved-head key xs ys p P h y m = h y (mem-permutation ys xs (IsPermutation-sym xs ys p) y m)

-- THE LAW: items that pass, put in key order, are the rows that pass
pub in_key_order : {X : Type 0} (key : X → ℕ) (p : X → Bool) (items rows sorted : List X) → Same key items rows → Rises key rows → IsPermutation (filter p items) sorted → Rises key sorted → sorted ≡ filter p rows
in_key_order key p items rows sorted same rises moved rise =
    rising-unique key sorted (filter p rows) rise (rises-filter key p rows rises)
    (λ y m. let f = mem-filtered p items y (mem-permutation sorted (filter p items) (IsPermutation-sym _ _ moved) y m) in mem-filter p rows y (same.to y f.0) f.1)
    (λ y m. let f = mem-filtered p rows y m in mem-permutation (filter p items) sorted moved y (mem-filter p items y (same.back y f.0) f.1))

-- ---- number, sum, least and greatest of those that pass

total-from : (a : ℤ) (zs : List ℤ) → fold ◌+ℤ◌ a zs ≡ a +ℤ total zs
total-from a [] = omega (arith, ints)
total-from a (z ∷ zs) =
    let h = total-from (a +ℤ z) zs in
    let k = total-from (pos 0 +ℤ z) zs in
    h ∙ (let e : (a +ℤ z) +ℤ total zs ≡ a +ℤ ((pos 0 +ℤ z) +ℤ total zs) = omega (arith, ints) in e) ∙ ap (λ v. a +ℤ v) (sym k)

total-front : (z : ℤ) (zs : List ℤ) → total (z ∷ zs) ≡ z +ℤ total zs
total-front z zs = total-from (pos 0 +ℤ z) zs ∙ (let e : (pos 0 +ℤ z) +ℤ total zs ≡ z +ℤ total zs = omega (arith, ints) in e)

min-assoc : (a b c : ℤ) → int_min (int_min a b) c ≡ int_min a (int_min b c)
min-assoc a b c = grind (arith, ints)

max-assoc : (a b c : ℤ) → int_max (int_max a b) c ≡ int_max a (int_max b c)
max-assoc a b c = grind (arith, ints)

min-from : (a z : ℤ) (zs : List ℤ) → fold int_min (int_min a z) zs ≡ int_min a (fold int_min z zs)
min-from a z [] = refl
min-from a z (y ∷ zs) = ap (λ v. fold int_min v zs) (min-assoc a z y) ∙ min-from a (int_min z y) zs

max-from : (a z : ℤ) (zs : List ℤ) → fold int_max (int_max a z) zs ≡ int_max a (fold int_max z zs)
max-from a z [] = refl
max-from a z (y ∷ zs) = ap (λ v. fold int_max v zs) (max-assoc a z y) ∙ max-from a (int_max z y) zs

least-front : (z : ℤ) (zs : List ℤ) → least (z ∷ zs) ≡ lesser_of z (least zs)
least-front z [] = refl
least-front z (y ∷ zs) = ap Some (min-from z y zs)

greatest-front : (z : ℤ) (zs : List ℤ) → greatest (z ∷ zs) ≡ larger_of z (greatest zs)
greatest-front z [] = refl
greatest-front z (y ∷ zs) = ap Some (max-from z y zs)

lesser-swaps : (a b : ℤ) (o : Option ℤ) → lesser_of a (lesser_of b o) ≡ lesser_of b (lesser_of a o)
lesser-swaps a b None = ap Some (let e : int_min a b ≡ int_min b a = grind (arith, ints) in e)
lesser-swaps a b (Some c) = ap Some (min-swaps a b c)

larger-swaps : (a b : ℤ) (o : Option ℤ) → larger_of a (larger_of b o) ≡ larger_of b (larger_of a o)
larger-swaps a b None = ap Some (let e : int_max a b ≡ int_max b a = grind (arith, ints) in e)
larger-swaps a b (Some c) = ap Some (max-swaps a b c)

module _ {X : Type 0} (f : X → ℤ) (p : X → Bool) where
  length-gathered : (xs : List X) → length (filter p xs) ≡ gathered count_in 0 (λ (_ : X). 1) p xs
  length-gathered [] = refl
  length-gathered (x ∷ xs) = elim (p x) as (λ b. length (cond b (x ∷ filter p xs) (filter p xs)) ≡ cond b (1 + gathered count_in 0 (λ (_ : X). 1) p xs) (gathered count_in 0 (λ (_ : X). 1) p xs)) [ true ↦ (let h = length-gathered xs in omega (arith, h)) | false ↦ length-gathered xs ]

  total-gathered : (xs : List X) → total (map f (filter p xs)) ≡ gathered ◌+ℤ◌ (pos 0) f p xs
  total-gathered [] = refl
  total-gathered (x ∷ xs) = elim (p x) as (λ b. total (map f (cond b (x ∷ filter p xs) (filter p xs))) ≡ cond b (f x +ℤ gathered ◌+ℤ◌ (pos 0) f p xs) (gathered ◌+ℤ◌ (pos 0) f p xs)) [ true ↦ total-front (f x) (map f (filter p xs)) ∙ ap (λ z. f x +ℤ z) (total-gathered xs) | false ↦ total-gathered xs ]

  least-gathered : (xs : List X) → least (map f (filter p xs)) ≡ gathered lesser_of None f p xs
  least-gathered [] = refl
  least-gathered (x ∷ xs) = elim (p x) as (λ b. least (map f (cond b (x ∷ filter p xs) (filter p xs))) ≡ cond b (lesser_of (f x) (gathered lesser_of None f p xs)) (gathered lesser_of None f p xs)) [ true ↦ least-front (f x) (map f (filter p xs)) ∙ ap (lesser_of (f x)) (least-gathered xs) | false ↦ least-gathered xs ]

  greatest-gathered : (xs : List X) → greatest (map f (filter p xs)) ≡ gathered larger_of None f p xs
  greatest-gathered [] = refl
  greatest-gathered (x ∷ xs) = elim (p x) as (λ b. greatest (map f (cond b (x ∷ filter p xs) (filter p xs))) ≡ cond b (larger_of (f x) (gathered larger_of None f p xs)) (gathered larger_of None f p xs)) [ true ↦ greatest-front (f x) (map f (filter p xs)) ∙ ap (larger_of (f x)) (greatest-gathered xs) | false ↦ greatest-gathered xs ]

  -- of two lists of the same members, none twice in either, as many items pass
  pub count-same : (key : X → ℕ) (xs ys : List X) → Same key xs ys → length (filter p xs) ≡ length (filter p ys)
  count-same key xs ys s = length-gathered xs ∙ gathered-same count_in 0 (λ (_ : X). 1) p count-swaps key xs ys s ∙ sym (length-gathered ys)

  -- of two lists of the same members, none twice in either, the items that pass have the same sum
  pub total-same : (key : X → ℕ) (xs ys : List X) → Same key xs ys → total (map f (filter p xs)) ≡ total (map f (filter p ys))
  total-same key xs ys s = total-gathered xs ∙ gathered-same ◌+ℤ◌ (pos 0) f p total-swaps key xs ys s ∙ sym (total-gathered ys)

  -- of two lists of the same members, none twice in either, the items that pass have the same least
  pub least-same : (key : X → ℕ) (xs ys : List X) → Same key xs ys → least (map f (filter p xs)) ≡ least (map f (filter p ys))
  least-same key xs ys s = least-gathered xs ∙ gathered-same lesser_of None f p lesser-swaps key xs ys s ∙ sym (least-gathered ys)

  -- of two lists of the same members, none twice in either, the items that pass have the same greatest
  pub greatest-same : (key : X → ℕ) (xs ys : List X) → Same key xs ys → greatest (map f (filter p xs)) ≡ greatest (map f (filter p ys))
  greatest-same key xs ys s = greatest-gathered xs ∙ gathered-same larger_of None f p larger-swaps key xs ys s ∙ sym (greatest-gathered ys)
