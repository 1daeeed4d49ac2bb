-- The tails that a query needs, one attribute after another.
use Rattle.std.proofs.Common.{◌≡◌, ℕ, zero, suc, ◌+◌, ◌<◌, length, Bool, true, false, cond, List, [], ◌∷◌, ◌++◌, get_or, map, filter, take, refl, ap, sym, ◌∙◌, arith, subst, ◌≤◌}
use Rattle.std.proofs.lemmas.List.{map-append, take_more, length-append, length-take-le}
use Rattle.sw_map.specs.declared.tail.Tail.{Tail}
use Rattle.sw_map.specs.declared.tail.Tail.TheVariants.{Key, Cell}
use Rattle.sw_set.specs.Needs.{attributes}

attribute-at : (b : ℕ) → b < 8 → get_or attributes b b ≡ b
attribute-at zero lt = refl
attribute-at (suc zero) lt = refl
attribute-at (suc (suc zero)) lt = refl
attribute-at (suc (suc (suc zero))) lt = refl
attribute-at (suc (suc (suc (suc zero)))) lt = refl
attribute-at (suc (suc (suc (suc (suc zero))))) lt = refl
attribute-at (suc (suc (suc (suc (suc (suc zero)))))) lt = refl
attribute-at (suc (suc (suc (suc (suc (suc (suc zero))))))) lt = refl
attribute-at (suc (suc (suc (suc (suc (suc (suc (suc b)))))))) lt = absurd (omega (arith, lt))

filter-more : {A : Type 0} (p : A → Bool) (xs ys : List A) → filter p (xs ++ ys) ≡ filter p xs ++ filter p ys
filter-more p [] ys = refl
filter-more p (x ∷ xs) ys = elim (p x) as (λ v. cond v (x ∷ filter p (xs ++ ys)) (filter p (xs ++ ys)) ≡ cond v (x ∷ filter p xs) (filter p xs) ++ filter p ys) [ true ↦ ap (λ t. x ∷ t) (filter-more p xs ys) | false ↦ filter-more p xs ys ]

taken-more : (b : ℕ) → b < 8 → take (b + 1) attributes ≡ take b attributes ++ b ∷ []
taken-more b lt = take_more attributes b b lt ∙ ap (λ v. take b attributes ++ v ∷ []) (attribute-at b lt)

-- the key's tail and those up to an attribute, with its own if it is needed, are those up to the next one
pub tails-more : (p : ℕ → Bool) (b : ℕ) (old new : List Tail) → b < 8 → old ≡ Key ∷ map Cell (filter p (take b attributes)) → new ≡ old ++ map Cell (filter p (b ∷ [])) → new ≡ Key ∷ map Cell (filter p (take (b + 1) attributes))
tails-more p b old new lt was is =
    let taken = taken-more b lt in
    is ∙ ap (λ v. v ++ map Cell (filter p (b ∷ []))) was
    ∙ ap (λ v. Key ∷ v) (sym (map-append Cell (filter p (take b attributes)) (filter p (b ∷ []))) ∙ ap (map Cell) (sym (filter-more p (take b attributes) (b ∷ []))) ∙ ap (λ v. map Cell (filter p v)) (sym taken))

-- and how many there are
count-more : (p : ℕ → Bool) (b many : ℕ) → b < 8 → many ≡ 1 + length (filter p (take b attributes)) → many + length (filter p (b ∷ [])) ≡ 1 + length (filter p (take (b + 1) attributes))
count-more p b many lt was =
    let more : filter p (take (b + 1) attributes) ≡ filter p (take b attributes) ++ filter p (b ∷ []) = ap (filter p) (taken-more b lt) ∙ filter-more p (take b attributes) (b ∷ []) in
    let long : length (filter p (take (b + 1) attributes)) ≡ length (filter p (take b attributes) ++ filter p (b ∷ [])) = ap length more in
    let both = length-append (filter p (take b attributes)) (filter p (b ∷ [])) in
    omega (arith, long, both, was)

-- an attribute that is needed counts one tail more
pub count-yes : (p : ℕ → Bool) (b many : ℕ) → b < 8 → p b ≡ true → many ≡ 1 + length (filter p (take b attributes)) → many + 1 ≡ 1 + length (filter p (take (b + 1) attributes))
count-yes p b many lt holds was = subst (λ (v : Bool). many + length (cond v (b ∷ []) []) ≡ 1 + length (filter p (take (b + 1) attributes))) holds (count-more p b many lt was)

-- an attribute that is not needed counts no tail more
pub count-no : (p : ℕ → Bool) (b many : ℕ) → b < 8 → p b ≡ false → many ≡ 1 + length (filter p (take b attributes)) → many ≡ 1 + length (filter p (take (b + 1) attributes))
count-no p b many lt fails was =
    let same : many + 0 ≡ 1 + length (filter p (take (b + 1) attributes)) = subst (λ (v : Bool). many + length (cond v (b ∷ []) []) ≡ 1 + length (filter p (take (b + 1) attributes))) fails (count-more p b many lt was) in
    omega (arith, same)

filter-few : {A : Type 0} (p : A → Bool) (xs : List A) → length (filter p xs) ≤ length xs
filter-few p [] = omega arith
filter-few p (x ∷ xs) = let few = filter-few p xs in elim (p x) as (λ v. length (cond v (x ∷ filter p xs) (filter p xs)) ≤ suc (length xs)) [ true ↦ omega (arith, few) | false ↦ omega (arith, few) ]

taken-few : (b : ℕ) → b < 8 → length (take b attributes) ≤ 8
taken-few b lt = let few = length-take-le b attributes (omega (arith, lt)) in omega (arith, few, lt)

-- there are at most nine tails, the key's among them
pub count-few : (p : ℕ → Bool) (b many : ℕ) → b < 8 → many ≡ 1 + length (filter p (take b attributes)) → many ≤ 9
count-few p b many lt was = let one = filter-few p (take b attributes) in let two = taken-few b lt in omega (arith, one, two, was)
