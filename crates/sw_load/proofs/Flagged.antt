-- Flags that are false at the places that are gone.
use Rattle.std.proofs.Common.{◌≡◌, ◌∙◌, ap, sym, refl, ℕ, ◌+◌, ◌-◌, Bool, true, false, List, [], ◌∷◌, ◌++◌, length, get_or, replicate, take, drop, arith, length-append, length-drop}
use Rattle.std.proofs.lemmas.List.{drop-drop, drop_more, length-replicate, length-take-le, take-append-drop}
use Rattle.sw_table.specs.Kept.{kept}
use Rattle.sw_table.proofs.LiveLaws.{kept-fresh}
use Rattle.sw_load.specs.Gone.{ArePlaces, flags_without, without_places}
use Rattle.sw_load.proofs.Places.{places-le}

-- flags of some items, and then of others, keep of both what each keeps
kept-appended : {X : Type 0} (fs gs : List Bool) (xs ys : List X) → length fs ≡ length xs → kept (fs ++ gs) (xs ++ ys) ≡ kept fs xs ++ kept gs ys
kept-appended [] gs [] ys e = refl
kept-appended [] gs (x ∷ xs) ys e = absurd (omega (arith, e))
kept-appended (b ∷ fs) gs [] ys e = absurd (omega (arith, e))
kept-appended (true ∷ fs) gs (x ∷ xs) ys e = ap (λ v. x ∷ v) (kept-appended fs gs xs ys (omega (arith, e)))
kept-appended (false ∷ fs) gs (x ∷ xs) ys e = kept-appended fs gs xs ys (omega (arith, e))

-- there is a flag for each item
pub flags-many : (n m : ℕ) (gs : List ℕ) → ArePlaces n m gs → length (flags_without n m gs) ≡ m - n
flags-many n m [] a = length-replicate (m - n) true
flags-many n m (g ∷ gs) a =
    let le = places-le (g + 1) m gs a.1 in
    let both = length-append (replicate (g - n) true) (false ∷ flags_without (g + 1) m gs) in
    let first = length-replicate (g - n) true in
    let rest = flags-many (g + 1) m gs a.1 in
    omega (arith, le, both, first, rest, a.0)

-- the items whose flags are true are those that are left
pub flags-kept : {X : Type 0} (xs : List X) (n m : ℕ) (gs : List ℕ) → length xs ≡ m → ArePlaces n m gs → kept (flags_without n m gs) (drop n xs) ≡ without_places n gs xs
flags-kept xs n m [] long a = kept-fresh (m - n) (drop n xs) (omega (arith, length-drop n xs, long))
flags-kept [] n m (g ∷ gs) long a = let le = places-le (g + 1) m gs a.1 in absurd (omega (arith, le, long))
flags-kept {X = X} (x ∷ xs) n m (g ∷ gs) long a =
    let ys : List X = x ∷ xs in
    let le = places-le (g + 1) m gs a.1 in
    let to : n + (g - n) ≡ g = omega (arith, a.0) in
    let rest : drop (g - n) (drop n ys) ≡ get_or ys g x ∷ drop (g + 1) ys = drop-drop (g - n) n ys ∙ ap (λ k. drop k ys) to ∙ drop_more ys g x (omega (arith, le, long)) in
    let split : drop n ys ≡ take (g - n) (drop n ys) ++ (get_or ys g x ∷ drop (g + 1) ys) = sym (take-append-drop (g - n) (drop n ys)) ∙ ap (λ v. take (g - n) (drop n ys) ++ v) rest in
    let short : length (take (g - n) (drop n ys)) ≡ g - n = length-take-le (g - n) (drop n ys) (omega (arith, length-drop n ys, le, long)) in
    ap (kept (replicate (g - n) true ++ false ∷ flags_without (g + 1) m gs)) split
    ∙ kept-appended (replicate (g - n) true) (false ∷ flags_without (g + 1) m gs) (take (g - n) (drop n ys)) (get_or ys g x ∷ drop (g + 1) ys) (length-replicate (g - n) true ∙ sym short)
    ∙ ap (λ v. v ++ kept (flags_without (g + 1) m gs) (drop (g + 1) ys)) (kept-fresh (g - n) (take (g - n) (drop n ys)) (sym short))
    ∙ ap (λ v. take (g - n) (drop n ys) ++ v) (flags-kept ys (g + 1) m gs long a.1)
