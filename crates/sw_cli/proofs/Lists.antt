-- Lists that grow at their end, and what is left of them.
use Rattle.std.proofs.Common.{◌≡◌, ℕ, zero, suc, ◌+◌, ◌<◌, List, [], ◌∷◌, ◌++◌, drop, length, take, map, get_or, refl, sym, ◌∙◌, ap, subst, arith, ⊎_elim}
use Rattle.std.proofs.lemmas.List.{drop_more, take_more}
use Rattle.std.proofs.lemmas.Bool.{cases_lt}
use Rattle.sw_engine.specs.Desk.{AreCounted}

-- numbers that count on do so with the next one at their end
pub counted_push : (n m : ℕ) (ks : List ℕ) (k : ℕ) → AreCounted n ks → n + length ks ≡ m → k ≡ m → AreCounted n (ks ++ k ∷ [])
counted_push n m [] k h is number = (number ∙ omega (arith, is), tt)
counted_push n m (x ∷ ks) k h is number = (h.0, counted_push (n + 1) m ks k h.1 (omega (arith, is)) number)

-- the number at a place is the first one and that place, added
pub counted_at : (n : ℕ) (ks : List ℕ) (i d : ℕ) → AreCounted n ks → i < length ks → get_or ks i d ≡ n + i
counted_at n [] i d h lt = absurd (omega (arith, lt))
counted_at n (k ∷ ks) zero d h lt = let e = h.0 in omega (arith, e)
counted_at n (k ∷ ks) (suc i) d h lt = let r = counted_at (n + 1) ks i d h.1 (omega (arith, lt)) in omega (arith, r)

-- a list with one item more at its end is longer by one
pub length_push : {A : Type 0} (xs : List A) (x : A) → length (xs ++ x ∷ []) ≡ length xs + 1
length_push [] x = refl
length_push (y ∷ xs) x = let h = length_push xs x in omega (arith, h)

-- a mapped list with one item more at its end has that one mapped
pub map_push : {A B : Type 0} (f : A → B) (xs : List A) (x : A) → map f (xs ++ x ∷ []) ≡ map f xs ++ f x ∷ []
map_push f [] x = refl
map_push f (y ∷ xs) x = ap (λ ys. f y ∷ ys) (map_push f xs x)

-- a mapped list is as long
pub length_map : {A B : Type 0} (f : A → B) (xs : List A) → length (map f xs) ≡ length xs
length_map f [] = refl
length_map f (x ∷ xs) = ap suc (length_map f xs)

-- the first n items, and the next one, are the first n + 1
pub take_push : {A : Type 0} (bs ys zs : List A) (d : A) (n : ℕ) → ys ≡ take n bs → n < length bs → zs ≡ ys ++ get_or bs n d ∷ [] → zs ≡ take (n + 1) bs
take_push bs ys zs d n is lt e = e ∙ (ap (λ us. us ++ get_or bs n d ∷ []) is ∙ sym (take_more bs n d lt))

-- a list of no items is empty
pub none_at : {A : Type 0} (xs : List A) → length xs ≡ 0 → xs ≡ []
none_at [] e = refl
none_at (x ∷ xs) e = absurd (omega (arith, e))

-- the element at a place
pub at_place : {A : Type 0} (xs : List A) (i : ℕ) → i < length xs → (x : A) × ((d : A) → get_or xs i d ≡ x)
at_place [] i lt = absurd (omega (arith, lt))
at_place (x ∷ xs) zero lt = (x, λ d. refl)
at_place (x ∷ xs) (suc i) lt = at_place xs i (omega (arith, lt))

get_or-before : {A : Type 0} (xs : List A) (x d : A) (i : ℕ) → i < length xs → get_or (xs ++ x ∷ []) i d ≡ get_or xs i d
get_or-before [] x d i lt = absurd (omega (arith, lt))
get_or-before (y ∷ xs) x d zero lt = refl
get_or-before (y ∷ xs) x d (suc i) lt = get_or-before xs x d i (omega (arith, lt))

get_or-last : {A : Type 0} (xs : List A) (x d : A) (i : ℕ) → i ≡ length xs → get_or (xs ++ x ∷ []) i d ≡ x
get_or-last [] x d i e = rw e refl
get_or-last (y ∷ xs) x d zero e = absurd (omega (arith, e))
get_or-last (y ∷ xs) x d (suc i) e = get_or-last xs x d i (omega (arith, e))

-- what holds of two lists place by place holds where each is one longer
pub pairs_push : {A B : Type 0} (R : A → B → Type 0) (xs : List A) (ys : List B) (x : A) (y : B) → length ys ≡ length xs → ((i : ℕ) (d : A) (e : B) → i < length xs → R (get_or xs i d) (get_or ys i e)) → R x y
    → (i : ℕ) (d : A) (e : B) → i < length (xs ++ x ∷ []) → R (get_or (xs ++ x ∷ []) i d) (get_or (ys ++ y ∷ []) i e)
pairs_push R xs ys x y same old one i d e lt = ⊎_elim
    (λ before.
    let fx = get_or-before xs x d i before in
    let fy = get_or-before ys y e i (omega (arith, before, same)) in
    subst (λ a. R a (get_or (ys ++ y ∷ []) i e)) (sym fx) (subst (λ b. R (get_or xs i d) b) (sym fy) (old i d e before)))
    (λ after.
    let k = length_push xs x in
    let here : i ≡ length xs = omega (arith, after, lt, k) in
    let there : i ≡ length ys = omega (arith, here, same) in
    subst (λ a. R a (get_or (ys ++ y ∷ []) i e)) (sym (get_or-last xs x d i here)) (subst (λ b. R x b) (sym (get_or-last ys y e i there)) one))
    (cases_lt i (length xs))

-- ---- what is left of two lists

-- lists that are the same from a place on are so from the next one on
pub same_later : {A : Type 0} (n : ℕ) (xs ys : List A) (d : A) → n < length xs → n < length ys → drop n xs ≡ drop n ys → drop (n + 1) xs ≡ drop (n + 1) ys
same_later n xs ys d lx ly e = ap (drop 1) (sym (drop_more xs n d lx) ∙ (e ∙ drop_more ys n d ly))

-- and have the same item there
pub same_at : {A : Type 0} (n : ℕ) (xs ys : List A) (d : A) → n < length xs → n < length ys → drop n xs ≡ drop n ys → get_or xs n d ≡ get_or ys n d
same_at n xs ys d lx ly e = ap (λ l. get_or l 0 d) (sym (drop_more xs n d lx) ∙ (e ∙ drop_more ys n d ly))
