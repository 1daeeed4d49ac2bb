-- The least and the greatest of two lists together.
use Rattle.std.proofs.Common.{◌≡◌, ◌∙◌, refl, ap, sym, ℤ, List, [], ◌∷◌, ◌++◌, fold, Some, append-nil, arith}
use Rattle.std.proofs.lemmas.Int.{ints}
use Rattle.std.proofs.lemmas.List.Sums.{fold-append}
use Rattle.std.specs.Int.{int_max, int_min}
use Rattle.sw_query.specs.Scan.{least, greatest}
use Rattle.sw_set.specs.Choice.{either_or}

-- a choice is taken out of the choices of a list
fold-out : (f : ℤ → ℤ → ℤ) → ((x y z : ℤ) → f x (f y z) ≡ f (f x y) z) → (a y : ℤ) (zs : List ℤ) → f a (fold f y zs) ≡ fold f (f a y) zs
fold-out f groups a y [] = refl
fold-out f groups a y (z ∷ zs) = fold-out f groups a (f y z) zs ∙ ap (λ (v : ℤ). fold f v zs) (groups a y z)

min-groups : (x y z : ℤ) → int_min x (int_min y z) ≡ int_min (int_min x y) z
min-groups x y z = grind (arith, ints)

max-groups : (x y z : ℤ) → int_max x (int_max y z) ≡ int_max (int_max x y) z
max-groups x y z = grind (arith, ints)

-- the lesser of the leasts of two lists is the least of both together
pub least-both : (xs ys : List ℤ) → either_or int_min (least xs) (least ys) ≡ least (xs ++ ys)
least-both [] ys = refl
least-both (x ∷ xs) [] = ap least (sym (append-nil (x ∷ xs)))
least-both (x ∷ xs) (y ∷ ys) = ap Some (fold-out int_min min-groups (fold int_min x xs) y ys ∙ sym (fold-append int_min x xs (y ∷ ys)))

-- the greater of the greatests of two lists is the greatest of both together
pub greatest-both : (xs ys : List ℤ) → either_or int_max (greatest xs) (greatest ys) ≡ greatest (xs ++ ys)
greatest-both [] ys = refl
greatest-both (x ∷ xs) [] = ap greatest (sym (append-nil (x ∷ xs)))
greatest-both (x ∷ xs) (y ∷ ys) = ap Some (fold-out int_max max-groups (fold int_max x xs) y ys ∙ sym (fold-append int_max x xs (y ∷ ys)))
