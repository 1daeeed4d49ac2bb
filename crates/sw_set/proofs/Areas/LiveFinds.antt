-- Parts of a rising list.
use Rattle.std.proofs.Common.{◌<◌, ℕ, List, [], ◌∷◌, ◌++◌}
use Rattle.std.specs.List.{AllByRecursion}
use Rattle.sw_table.specs.declared.row.Row.{Row}
use Rattle.sw_set.specs.Shelf.{Rises, key_of}

-- each part of a rising list rises
pub rises-front : (xs ys : List Row) → Rises key_of (xs ++ ys) → Rises key_of xs
rises-front [] ys r = tt
rises-front (x ∷ xs) ys r = (front-all x.key xs ys r.0, rises-front xs ys r.1)
  where
    front-all : (n : ℕ) (xs ys : List Row) → AllByRecursion (λ (r : Row). n < key_of r) (xs ++ ys) → AllByRecursion (λ (r : Row). n < key_of r) xs
    front-all n [] ys a = tt
    front-all n (x ∷ xs) ys a = (a.0, front-all n xs ys a.1)

-- what stands at the back of a rising list rises
pub rises-back : (xs ys : List Row) → Rises key_of (xs ++ ys) → Rises key_of ys
rises-back [] ys r = r
rises-back (x ∷ xs) ys r = rises-back xs ys r.1
