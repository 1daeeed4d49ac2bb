-- What is gathered from the items that pass a test is the same for two lists that hold the same items, each once.
use Rattle.std.proofs.Common.{◌≡◌, ◌≢◌, ℕ, ◌+◌, ◌<◌, ℤ, ◌+ℤ◌, Bool, true, false, cond, nat_eq, List, [], ◌∷◌, ◌++◌, map, Option, None, Some, ◌⊎◌, inl, inr, refl, ap, sym, ◌∙◌, arith, subst}
use Rattle.std.specs.List.{IsDistinct, AllByRecursion}
use Rattle.std.specs.Int.{int_min, int_max}
use Rattle.std.proofs.lemmas.Bool.Decides.{nat_tests}
use Rattle.std.proofs.lemmas.Int.{ints}
use Rattle.sw_kernel.specs.Tapes.{HoldsOnce}
use Rattle.sw_kernel.proofs.Members.{Mem, all-mem}
use Rattle.sw_kernel.proofs.Once.{held-from_once}
use Rattle.sw_set.specs.Shelf.{Rises}

-- ---- members of lists in which no number is there twice

-- no two items have the same number
abbrev pub Apart : {X : Type 0} → (X → ℕ) → List X → Type 0
Apart key [] = Unit {0}
Apart {X} key (x ∷ xs) = ((y : X) → Mem y xs → key y ≢ key x) × Apart key xs

-- a member, and what stands before and behind it
pub record Within {X : Type 0} (x : X) (xs : List X) : Type 0 where
  pub before : List X
  pub behind : List X
  pub whole : xs ≡ before ++ x ∷ behind

-- a member of a list has what stands before it and behind it
pub within-mem : {X : Type 0} (x : X) (xs : List X) → Mem x xs → Within x xs
within-mem x [] m = absurd m
within-mem x (y ∷ ys) (inl e) = record { before = []; behind = ys; whole = ap (λ v. v ∷ ys) (sym e) }
within-mem x (y ∷ ys) (inr m) = let w = within-mem x ys m in record { before = y ∷ w.before; behind = w.behind; whole = ap (λ v. y ∷ v) w.whole }

-- what stands in the middle of a list is a member
pub mem-middle : {X : Type 0} (us : List X) (x : X) (vs : List X) → Mem x (us ++ x ∷ vs)
mem-middle [] x vs = inl refl
mem-middle (u ∷ us) x vs = inr (mem-middle us x vs)

-- a member of the whole is the one in the middle or another
pub mem-others : {X : Type 0} (us : List X) (x : X) (vs : List X) (y : X) → Mem y (us ++ x ∷ vs) → (y ≡ x) ⊎ Mem y (us ++ vs)
mem-others [] x vs y (inl e) = inl e
mem-others [] x vs y (inr m) = inr m
mem-others (u ∷ us) x vs y (inl e) = inr (inl e)
mem-others (u ∷ us) x vs y (inr m) = elim (mem-others us x vs y m) [ inl e ↦ inl e | inr n ↦ inr (inr n) ]

-- what is a member without the one in the middle is a member with it
pub mem-again : {X : Type 0} (us : List X) (x : X) (vs : List X) (y : X) → Mem y (us ++ vs) → Mem y (us ++ x ∷ vs)
mem-again [] x vs y m = inr m
mem-again (u ∷ us) x vs y (inl e) = inl e
mem-again (u ∷ us) x vs y (inr m) = inr (mem-again us x vs y m)

-- where no number is there twice, none is without the one in the middle
pub apart-others : {X : Type 0} (key : X → ℕ) (us : List X) (x : X) (vs : List X) → Apart key (us ++ x ∷ vs) → Apart key (us ++ vs)
apart-others key [] x vs a = a.1
apart-others key (u ∷ us) x vs a = (λ y m. a.0 y (mem-again us x vs y m), apart-others key us x vs a.1)

-- where no number is there twice, no other member has that of the one in the middle
pub apart-middle : {X : Type 0} (key : X → ℕ) (us : List X) (x : X) (vs : List X) → Apart key (us ++ x ∷ vs) → (y : X) → Mem y (us ++ vs) → key y ≢ key x
apart-middle key [] x vs a y m = a.0 y m
apart-middle key (u ∷ us) x vs a y (inl e) = λ same. a.0 x (mem-middle us x vs) (sym same ∙ ap key e)
apart-middle key (u ∷ us) x vs a y (inr m) = apart-middle key us x vs a.1 y m

-- two lists of the same members, none of them twice
pub record Same {X : Type 0} (key : X → ℕ) (xs ys : List X) : Type 0 where
  pub to : (x : X) → Mem x xs → Mem x ys
  pub back : (x : X) → Mem x ys → Mem x xs
  pub left : Apart key xs
  pub right : Apart key ys

-- ---- the walk

-- what is gathered of the items that pass, from the end
abbrev pub gathered : {X V Z : Type 0} → (V → Z → Z) → Z → (X → V) → (X → Bool) → List X → Z
gathered put start f p [] = start
gathered put start f p (x ∷ xs) = cond (p x) (put (f x) (gathered put start f p xs)) (gathered put start f p xs)

module _ {X V Z : Type 0} (put : V → Z → Z) (start : Z) (f : X → V) (p : X → Bool) (swaps : (a b : V) (z : Z) → put a (put b z) ≡ put b (put a z)) where
  both-ways : (b c : Bool) (u x : X) (z : Z) → cond b (put (f u) (cond c (put (f x) z) z)) (cond c (put (f x) z) z) ≡ cond c (put (f x) (cond b (put (f u) z) z)) (cond b (put (f u) z) z)
  both-ways true true u x z = swaps (f u) (f x) z
  both-ways true false u x z = refl
  both-ways false true u x z = refl
  both-ways false false u x z = refl

  -- the item in the middle may as well stand in front
  gathered-middle : (us : List X) (x : X) (vs : List X) → gathered put start f p (us ++ x ∷ vs) ≡ gathered put start f p (x ∷ (us ++ vs))
  gathered-middle [] x vs = refl
  gathered-middle (u ∷ us) x vs =
      ap (λ z. cond (p u) (put (f u) z) z) (gathered-middle us x vs) ∙ both-ways (p u) (p x) u x (gathered put start f p (us ++ vs))

  -- of two lists of the same members, none twice in either, the same is gathered
  pub gathered-same : (key : X → ℕ) (xs ys : List X) → Same key xs ys → gathered put start f p xs ≡ gathered put start f p ys
  gathered-same key [] [] s = refl
  gathered-same key [] (y ∷ ys) s = absurd (s.back y (inl refl))
  gathered-same key (x ∷ xs) ys s =
      let w = within-mem x ys (s.to x (inl refl)) in
      let right = subst (Apart key) w.whole s.right in
      let rest = gathered-same key xs (w.before ++ w.behind) (rest-same x xs w.before w.behind (λ y m. subst (λ (v : List X). Mem y v) w.whole (s.to y m)) (λ y m. s.back y (subst (λ (v : List X). Mem y v) (sym w.whole) m)) s.left right) in
      ap (λ z. cond (p x) (put (f x) z) z) rest ∙ sym (gathered-middle w.before x w.behind) ∙ ap (gathered put start f p) (sym w.whole)
    where
      other : (x : X) (us vs : List X) (y : X) → key y ≢ key x → (y ≡ x) ⊎ Mem y (us ++ vs) → Mem y (us ++ vs)
      other x us vs y d (inl e) = absurd (d (ap key e))
      other x us vs y d (inr m) = m

      kept-in : (x : X) (xs : List X) (y : X) → key y ≢ key x → Mem y (x ∷ xs) → Mem y xs
      kept-in x xs y d (inl e) = absurd (d (ap key e))
      kept-in x xs y d (inr m) = m

      rest-same : (x : X) (xs us vs : List X) → ((y : X) → Mem y (x ∷ xs) → Mem y (us ++ x ∷ vs)) → ((y : X) → Mem y (us ++ x ∷ vs) → Mem y (x ∷ xs)) → Apart key (x ∷ xs) → Apart key (us ++ x ∷ vs) → Same key xs (us ++ vs)
      rest-same x xs us vs to back left right = record {
        to = λ y m. other x us vs y (left.0 y m) (mem-others us x vs y (to y (inr m)));
        back = λ y m. kept-in x xs y (apart-middle key us x vs right y m) (back y (mem-again us x vs y m));
        left = left.1;
        right = apart-others key us x vs right;
      }

-- ---- from the tape's law

apart-all : {X : Type 0} (key : X → ℕ) (n : ℕ) (xs : List X) → AllByRecursion (λ m. nat_eq n m ≡ false) (map key xs) → (y : X) → Mem y xs → key y ≢ n
apart-all key n [] a y m = absurd m
apart-all key n (x ∷ xs) a y (inl e) = λ same. differs n (key x) a.0 (sym same ∙ ap key e)
  where
    differs : (m k : ℕ) → nat_eq m k ≡ false → m ≢ k
    differs m k e = grind (arith, nat_tests)
apart-all key n (x ∷ xs) a y (inr m) = apart-all key n xs a.1 y m

-- where the numbers of items are distinct, no two items have the same number
pub apart-distinct : {X : Type 0} (key : X → ℕ) (xs : List X) → IsDistinct nat_eq (map key xs) → Apart key xs
unfolding IsDistinct
apart-distinct key [] d = tt
apart-distinct key (x ∷ xs) d = (apart-all key (key x) xs d.0, apart-distinct key xs d.1)

-- in a list that rises by number no two items have the same number
pub apart-rises : {X : Type 0} (key : X → ℕ) (xs : List X) → Rises key xs → Apart key xs
apart-rises key [] r = tt
apart-rises key (x ∷ xs) r = (λ y m. let lt : key x < key y = all-mem (λ v. key x < key v) xs y r.0 m in λ same. omega arith, apart-rises key xs r.1)

-- items that are just these rising rows, each once, have the same members, none of them twice
pub same-once : {X : Type 0} (key : X → ℕ) (items rows : List X) → HoldsOnce key items rows → Rises key rows → Same key items rows
same-once key items rows h r =
    let w = held-from_once key items rows h in
    record { to = w.no_more; back = w.no_less; left = apart-distinct key items h.once; right = apart-rises key rows r }

-- ---- count, sum, least and greatest are gathered

-- a count with one item more, whichever it is
abbrev pub count_in : ℕ → ℕ → ℕ
count_in one n = 1 + n

-- the least so far, with one number more
abbrev pub lesser_of : ℤ → Option ℤ → Option ℤ
lesser_of z None = Some z
lesser_of z (Some l) = Some (int_min z l)

-- the greatest so far, with one number more
abbrev pub larger_of : ℤ → Option ℤ → Option ℤ
larger_of z None = Some z
larger_of z (Some l) = Some (int_max z l)

-- two items may be counted in either order
pub count-swaps : (a b n : ℕ) → count_in a (count_in b n) ≡ count_in b (count_in a n)
count-swaps a b n = refl

-- two numbers may be added to a sum in either order
pub total-swaps : (a b z : ℤ) → a +ℤ (b +ℤ z) ≡ b +ℤ (a +ℤ z)
total-swaps a b z = omega (arith, ints)

-- two numbers may be taken into a least in either order
pub min-swaps : (a b c : ℤ) → int_min a (int_min b c) ≡ int_min b (int_min a c)
min-swaps a b c = grind (arith, ints)

-- two numbers may be taken into a greatest in either order
pub max-swaps : (a b c : ℤ) → int_max a (int_max b c) ≡ int_max b (int_max a c)
max-swaps a b c = grind (arith, ints)
