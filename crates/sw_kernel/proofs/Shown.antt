-- Showing changes items and nothing else.
use Rattle.std.proofs.Common.{◌≡◌, ℕ, ◌+◌, ◌||◌, List, ◌∷◌, ◌++◌, length, map, refl, sym, ap, ◌∙◌}
use Rattle.std.proofs.lemmas.List.{map-append, length-map}
use Rattle.sw_query.specs.declared.bound.Bound.{Bound}
use Rattle.sw_query.specs.Bounds.{same_bound}
use Rattle.sw_kernel.specs.declared.mark.Mark.{Mark}
use Rattle.sw_kernel.specs.Arrangement.{Arrangement, last, piece, joined, bounds, has_bound}
use Rattle.sw_kernel.specs.Replay.{shown}
use Rattle.sw_kernel.specs.Flat.{marks_from}

-- the items of a shown arrangement are the items, each shown
pub joined-shown : {A B : Type 0} (f : A → B) (a : Arrangement A) → joined (shown f a) ≡ map f (joined a)
joined-shown f (last xs) = refl
joined-shown f (piece xs b rest) = ap (λ l. map f xs ++ l) (joined-shown f rest) ∙ sym (map-append f xs (joined rest))

-- showing leaves the bounds as they are
pub bounds-shown : {A B : Type 0} (f : A → B) (a : Arrangement A) → bounds (shown f a) ≡ bounds a
bounds-shown f (last xs) = refl
bounds-shown f (piece xs b rest) = ap (λ l. b ∷ l) (bounds-shown f rest)

-- whether a bound is there does not change where items are shown
pub has-shown : {A B : Type 0} (f : A → B) (b : Bound) (a : Arrangement A) → has_bound b (shown f a) ≡ has_bound b a
has-shown f b (last xs) = refl
has-shown f b (piece xs c rest) = ap (λ t. same_bound b c || t) (has-shown f b rest)

-- showing leaves the marks where they are
pub marks-shown : {A B : Type 0} (f : A → B) (i : ℕ) (a : Arrangement A) → marks_from i (shown f a) ≡ marks_from i a
marks-shown f i (last xs) = refl
marks-shown f i (piece xs b rest) =
    let F : ℕ → List Mark = λ n. record { bound = b; at = i + n } ∷ marks_from (i + n) (shown f rest) in
    ap F (length-map xs f) ∙ ap (λ l. record { bound = b; at = i + length xs } ∷ l) (marks-shown f (i + length xs) rest)
