-- Lists of batches, and their updates.
use Rattle.std.proofs.Common.{◌≡◌, ◌∙◌, ◌⊎◌, ⊎_elim, ℕ, ◌<◌, ◌≤◌, zero, suc, Bool, true, false, List, [], ◌∷◌, ◌++◌, length, drop, get_or, Some, refl, ap, sym, subst, arith, inl, inr, length-append}
use Rattle.std.specs.Prelude.{MatchBool, leb, slice_get}
use Rattle.std.proofs.lemmas.Bool.{leb-true, leb-false}
use Rattle.std.proofs.lemmas.List.{append-nil}
use Rattle.std.proofs.lemmas.List.Concat.{flat_map-append}
use mathlib.Core.List.{IsPrefix}
use Rattle.sw_table.specs.declared.row.Update.{Update}
use Rattle.sw_versions.specs.Pending.{HasBookedOr}
use Rattle.sw_versions.specs.Rules.{AreFilled, updates_in}
use Rattle.sw_versions.proofs.Prefixes.{prefix_rest, prefix_self}

-- where there are batches more, there are their updates more
pub all_begins : (xs ys : List (List Update)) → IsPrefix xs ys → IsPrefix (updates_in xs) (updates_in ys)
all_begins xs ys p = (updates_in p.0, sym (flat_map-append (λ (us : List Update). us) xs p.0) ∙ ap updates_in p.1)

-- the updates of one batch more come after all others
pub all_added : (batches : List (List Update)) (us : List Update) → updates_in (batches ++ us ∷ []) ≡ updates_in batches ++ us
all_added batches us = flat_map-append (λ (l : List Update). l) batches (us ∷ []) ∙ ap (λ l. updates_in batches ++ l) (append-nil us)

-- one more that is not empty
pub filled_more : (batches : List (List Update)) (us : List Update) → AreFilled batches → 0 < length us → AreFilled (batches ++ us ∷ [])
filled_more [] us filled some = (some, tt)
filled_more (b ∷ batches) us filled some = (filled.0, filled_more batches us filled.1 some)

-- of two beginnings of one list the one with no more updates begins the other
pub fewer_begins : (xs ys zs : List (List Update)) → IsPrefix xs zs → IsPrefix ys zs → AreFilled xs → length (updates_in xs) ≤ length (updates_in ys) → IsPrefix xs ys
fewer_begins [] ys zs p q filled le = (ys, refl)
fewer_begins (x ∷ xs) [] zs p q filled le = absurd (omega (arith, filled.0, le, length-append x (updates_in xs)))
fewer_begins (x ∷ xs) (y ∷ ys) [] p q filled le = absurd (cc (p.1))
fewer_begins (x ∷ xs) (y ∷ ys) (z ∷ zs) p q filled le =
    let heads : x ≡ y = cc (p.1, q.1) in
    let same : length x ≡ length y = ap (λ (l : List Update). length l) heads in
    let fewer : length (updates_in xs) ≤ length (updates_in ys) = omega (arith, le, same, length-append x (updates_in xs), length-append y (updates_in ys)) in
    let rest = fewer_begins xs ys zs (p.0, cc (p.1)) (q.0, cc (q.1)) filled.1 fewer in
    (rest.0, cc (heads, rest.1))

-- one list begins the other, or is longer
pub either_begins : (xs ys both : List (List Update)) → IsPrefix xs both → IsPrefix ys both → AreFilled xs → AreFilled ys → (m n : ℕ) → m ≡ length (updates_in xs) → n ≡ length (updates_in ys) → (b : Bool) → leb m n ≡ b
    → MatchBool b (IsPrefix xs ys) (IsPrefix ys xs × (length (updates_in ys) < length (updates_in xs)))
either_begins xs ys both p q f g m n is is' true t = let h = leb-true m n t in fewer_begins xs ys both p q f (omega (arith, h, is, is'))
either_begins xs ys both p q f g m n is is' false t = let h = leb-false m n t in (fewer_begins ys xs both q p g (omega (arith, h, is, is')), omega (arith, h, is, is'))

-- a beginning with as many updates as the whole is the whole
pub same_many : (xs ys : List (List Update)) → IsPrefix xs ys → AreFilled ys → length (updates_in ys) ≤ length (updates_in xs) → xs ≡ ys
same_many [] [] p filled le = refl
same_many [] (y ∷ ys) p filled le = absurd (omega (arith, filled.0, le, length-append y (updates_in ys)))
same_many (x ∷ xs) [] p filled le = absurd (cc (p.1))
same_many (x ∷ xs) (y ∷ ys) p filled le =
    let heads : x ≡ y = cc (p.1) in
    let same : length x ≡ length y = ap (λ (l : List Update). length l) heads in
    let fewer : length (updates_in ys) ≤ length (updates_in xs) = omega (arith, le, same, length-append x (updates_in xs), length-append y (updates_in ys)) in
    let rest = same_many xs ys (p.0, cc (p.1)) filled.1 fewer in cc (heads, rest)

-- ---- what is handed to the writer

-- what comes next in the book is what comes next of all updates
next_at : (us all : List Update) (n : ℕ) (d : Update) → IsPrefix us all → n < length us → slice_get us n ≡ Some (get_or all n d)
next_at [] all n d p less = absurd (omega (arith, less))
next_at (x ∷ us) [] n d p less = absurd (cc (p.1))
next_at (x ∷ us) (y ∷ all) zero d p less = cc (p.1)
next_at (x ∷ us) (y ∷ all) (suc n) d p less = next_at us all n d (p.0, cc (p.1)) (omega (arith, less))

-- a beginning with what comes next
next_begins : (xs us : List Update) (u : Update) → IsPrefix xs us → slice_get us (length xs) ≡ Some u → IsPrefix (xs ++ u ∷ []) us
next_begins [] [] u p at = absurd cc
next_begins [] (y ∷ us) u p at = let is : y ≡ u = cc at in (us, cc is)
next_begins (x ∷ xs) [] u p at = absurd (cc (p.1))
next_begins (x ∷ xs) (y ∷ us) u p at =
    let heads : x ≡ y = cc (p.1) in
    let rest = next_begins xs us u (p.0, cc (p.1)) at in (rest.0, cc (heads, rest.1))

-- what was handed on, with the next update or without, begins the updates of the book
pub handed_begins : (b : Bool) (xs ys us all : List Update) (n : ℕ) (d : Update) → IsPrefix us all → IsPrefix xs us → n ≡ length xs → n < length us
    → MatchBool b (ys ≡ xs ++ get_or all n d ∷ []) (ys ≡ xs) → IsPrefix ys us
handed_begins true xs ys us all n d p q is less more =
    subst (λ (zs : List Update). IsPrefix zs us) (sym more) (next_begins xs us (get_or all n d) q (ap (λ k. slice_get us k) (sym is) ∙ next_at us all n d p less))
handed_begins false xs ys us all n d p q is less same = subst (λ (zs : List Update). IsPrefix zs us) (sym same) q

-- ---- what is booked

-- it begins what is booked then
pub booked_begins : (updates : List Update) (old new : List (List Update)) → HasBookedOr updates old new → IsPrefix old new
booked_begins updates old new booked = ⊎_elim
    (λ same. subst (λ (l : List (List Update)). IsPrefix old l) (sym same) (prefix_self old))
    (λ more. (drop (length (updates_in old)) updates ∷ [], sym more))
    booked

-- a batch of all that was lacking makes the book whole
pub booked_updates : (updates : List Update) (old new : List (List Update)) → IsPrefix (updates_in old) updates → HasBookedOr updates old new → (new ≡ old) ⊎ (updates_in new ≡ updates)
booked_updates updates old new begins booked = ⊎_elim
    inl
    (λ more. inr (ap updates_in more ∙ (all_added old (drop (length (updates_in old)) updates) ∙ prefix_rest (updates_in old) updates begins)))
    booked

-- what is booked then begins all updates still
pub all_booked : (updates : List Update) (old new : List (List Update)) → IsPrefix (updates_in old) updates → HasBookedOr updates old new → IsPrefix (updates_in new) updates
all_booked updates old new begins booked = ⊎_elim
    (λ same. subst (λ (l : List (List Update)). IsPrefix (updates_in l) updates) (sym same) begins)
    (λ full. subst (λ (l : List Update). IsPrefix l updates) (sym full) (prefix_self updates))
    (booked_updates updates old new begins booked)
