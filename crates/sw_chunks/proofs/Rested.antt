-- One area after the other is asked as it stands.
use Rattle.std.proofs.Common.{◌≡◌, ℕ, ◌+◌, ◌<◌, Bool, true, false, nat_eq, List, length, get_or, drop, refl, sym, ap, ◌∙◌, arith, subst, Option, Some, IfSome}
use Rattle.std.proofs.lemmas.Bool.Decides.{nat_tests}
use Rattle.sw_query.specs.declared.query.Query.{Query}
use Rattle.sw_query.specs.declared.reply.Reply.{Reply}
use Rattle.sw_set.specs.Resting.{IsToldWhere}
use Rattle.sw_set.specs.Shelf.{AreaState}
use Rattle.sw_chunks.specs.Asked.{AreasFit, RestsIfTouched, with_all, with_area}
use Rattle.sw_chunks.proofs.Asking.{get-any, rest-all, rest-fits}

-- the areas before a place are at rest, where the query touches them
abbrev pub RestBefore : Query → ℕ → List AreaState → Type 0
RestBefore q k xs = (j : ℕ) (d : AreaState) → j < k → j < length xs → RestsIfTouched q (get_or xs j d)

same-place : (j k : ℕ) → nat_eq j k ≡ true → j ≡ k
same-place j k q = grind (arith, nat_tests, q)

lower-place : (j k : ℕ) → nat_eq j k ≡ false → j < k + 1 → j < k
lower-place j k q lt = grind (arith, nat_tests, q, lt)

-- and one more
before-next : (q : Query) (k : ℕ) (xs : List AreaState) (area : AreaState) → k < length xs → get_or xs k area ≡ area → RestsIfTouched q area → RestBefore q k xs → RestBefore q (k + 1) xs
before-next q k xs area lt here rests before j d below l = by (nat_eq j k) refl
  where
    by : (b : Bool) → nat_eq j k ≡ b → RestsIfTouched q (get_or xs j d)
    by true p =
        subst (λ (n : ℕ). RestsIfTouched q (get_or xs n d)) (sym (same-place j k p))
        (subst (λ (x : AreaState). RestsIfTouched q x) (sym (get-any xs k d area lt ∙ here)) rests)
    by false p = before j d (lower-place j k p below) l

-- the reply of an area at rest is added to those before it
pub rested-next : (q : Query) (k : ℕ) (xs : List AreaState) (first both whole : Reply) (area : AreaState) (told : Option Reply) → k < length xs → get_or xs k area ≡ area → told ≡ Some both → IfSome told (λ r. r ≡ with_area q first area) → IsToldWhere (RestsIfTouched q area) told → with_all q first (drop k xs) ≡ whole → AreasFit q first (drop k xs) → RestBefore q k xs → (with_all q both (drop (k + 1) xs) ≡ whole) × AreasFit q both (drop (k + 1) xs) × RestBefore q (k + 1) xs
rested-next q k xs first both whole area told lt here is answered rests all fits before = (
  ap (λ r. with_all q r (drop (k + 1) xs)) (sym next) ∙ (rest-all q first xs k area lt ∙ all),
  subst (λ (r : Reply). AreasFit q r (drop (k + 1) xs)) next (rest-fits q first xs k area lt fits),
  before-next q k xs area lt here (subst (λ (o : Option Reply). IsToldWhere (RestsIfTouched q area) o) is rests) before,
)
  where
    reply_is : both ≡ with_area q first area
    reply_is = subst (λ (o : Option Reply). IfSome o (λ r. r ≡ with_area q first area)) is answered

    next : with_area q first (get_or xs k area) ≡ both
    next = ap (with_area q first) here ∙ sym reply_is
