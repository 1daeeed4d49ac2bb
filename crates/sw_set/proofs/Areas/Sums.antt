-- Sums that stop at the greatest number.
use Rattle.std.proofs.Common.{◌≡◌, ◌∙◌, sym, ap, refl, suc, ℕ, ◌+◌, ◌<◌, List, [], ◌∷◌, ◌++◌, arith, get_or, length, map, take}
use Rattle.std.proofs.lemmas.List.{get_or-map, take_more}
use Rattle.std.proofs.lemmas.List.Sums.{sum_by-append}
use Rattle.std.specs.List.{sum_by}
use Rattle.sw_set.specs.Figures.{capped}

length_map : {A B : Type 0} (f : A → B) (xs : List A) → length (map f xs) ≡ length xs
length_map f [] = refl
length_map f (x ∷ xs) = ap suc (length_map f xs)

-- one element more
pub capped_more : {A : Type 0} (f : A → ℕ) (xs : List A) (i : ℕ) (x : A) (n k : ℕ) → i < length xs → x ≡ get_or xs i x → n ≡ capped (sum_by f (take i xs)) → k ≡ capped (n + f x) → k ≡ capped (sum_by f (take (i + 1) xs))
capped_more f xs i x n k lt is h e =
    let front : take (i + 1) xs ≡ take i xs ++ x ∷ [] = take_more xs i x lt ∙ ap (λ y. take i xs ++ y ∷ []) (sym is) in
    let s : sum_by f (take (i + 1) xs) ≡ sum_by f (take i xs) + sum_by f (x ∷ []) = ap (sum_by f) front ∙ sum_by-append f (take i xs) (x ∷ []) in
    omega (arith, h, e, s)

-- the same of images
pub capped_more_of : {A B : Type 0} (g : A → B) (f : B → ℕ) (xs : List A) (i : ℕ) (x : A) (n k : ℕ) → i < length xs → x ≡ get_or xs i x → n ≡ capped (sum_by f (take i (map g xs))) → k ≡ capped (n + f (g x)) → k ≡ capped (sum_by f (take (i + 1) (map g xs)))
capped_more_of g f xs i x n k lt is h e =
    let many = length_map g xs in
    capped_more f (map g xs) i (g x) n k (omega (arith, many, lt)) (ap g is ∙ sym (get_or-map g xs i x (g x) lt)) h e
