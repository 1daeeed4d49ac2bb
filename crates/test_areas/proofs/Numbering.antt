-- Rows numbered from 1 on: one more of them, and that their keys rise and are few.
use Rattle.std.proofs.Common.{◌≡◌, ◌<◌, ◌≤◌, ◌+◌, ◌^◌, ◌++◌, ◌∷◌, [], ℕ, ℤ, List, All, arith, ap, get_or, length, length-take, map, min, take, ◌∙◌}
use Rattle.std.specs.List.{AllByRecursion, enumerate_from}
use Rattle.std.proofs.lemmas.List.{length-take-le, take_more}
use Rattle.std.proofs.lemmas.List.Elements.{All-from_recursion}
use Rattle.sw_rows.specs.declared.table.TheConstants.{MOST_ROWS}
use Rattle.sw_table.specs.declared.row.Row.{Row}
use Rattle.sw_set.specs.Shelf.{Rises, key_of}
use Rattle.test_areas.specs.Opening.{numbered, row_of}

-- rows by the keys n, n + 1 and so on
abbrev rows_from : ℕ → List (List ℤ) → List Row
rows_from n cs = map row_of (enumerate_from n cs)

one-more : (n : ℕ) (cs : List (List ℤ)) (c : List ℤ) → rows_from n (cs ++ c ∷ []) ≡ rows_from n cs ++ row_of (n + length cs, c) ∷ []
one-more n [] c =
    let e : n ≡ n + 0 = omega arith in
    ap {B = List Row} (λ k. row_of (k, c) ∷ []) e
one-more n (x ∷ cs) c =
    let e : n + 1 + length cs ≡ n + length (x ∷ cs) = omega arith in
    ap {B = List Row} (λ r. row_of (n, x) ∷ r) (one-more (n + 1) cs c ∙ ap {B = List Row} (λ k. rows_from (n + 1) cs ++ row_of (k, c) ∷ []) e)

-- one row more
pub numbered-more : (cs : List (List ℤ)) (i : ℕ) (d : List ℤ) → i < length cs → numbered (take (i + 1) cs) ≡ numbered (take i cs) ++ row_of (i + 1, get_or cs i d) ∷ []
numbered-more cs i d lt =
    let long : length (take i cs) ≡ i = length-take-le i cs (omega arith) in
    let e : 1 + length (take i cs) ≡ i + 1 = omega (arith, long) in
    ap numbered (take_more cs i d lt) ∙ (one-more 1 (take i cs) (get_or cs i d) ∙ ap {B = List Row} (λ k. numbered (take i cs) ++ row_of (k, get_or cs i d) ∷ []) e)

from-lower : (n m : ℕ) (rows : List Row) → n ≤ m → AllByRecursion (λ (r : Row). m ≤ key_of r) rows → AllByRecursion (λ (r : Row). n ≤ key_of r) rows
from-lower n m [] le a = tt
from-lower n m (r ∷ rs) le a = (let p = a.0 in omega arith, from-lower n m rs le a.1)

past : (n : ℕ) (rows : List Row) → AllByRecursion (λ (r : Row). n + 1 ≤ key_of r) rows → AllByRecursion (λ (r : Row). n < key_of r) rows
past n [] a = tt
past n (r ∷ rs) a = (let p = a.0 in omega arith, past n rs a.1)

rising : (n : ℕ) (cs : List (List ℤ)) → Rises key_of (rows_from n cs) × AllByRecursion (λ (r : Row). n ≤ key_of r) (rows_from n cs)
rising n [] = (tt, tt)
rising n (c ∷ cs) =
    let rest = rising (n + 1) cs in
    ((past n _ rest.1, rest.0), (omega arith, from-lower n (n + 1) _ (omega arith) rest.1))

-- their keys rise
pub numbered-rise : (cs : List (List ℤ)) → Rises key_of (numbered cs)
numbered-rise cs = (rising 1 cs).0

few : (n m : ℕ) (cs : List (List ℤ)) → n + length cs ≤ m → AllByRecursion (λ (r : Row). r.key < m) (rows_from n cs)
few n m [] le = tt
few n m (c ∷ cs) le = (omega arith, few (n + 1) m cs (omega arith))

-- and fit a map
pub numbered-fit : (cs : List (List ℤ)) → All (λ (r : Row). r.key < 2 ^ 63) (numbered (take MOST_ROWS cs))
numbered-fit cs =
    let long : length (take MOST_ROWS cs) ≡ min MOST_ROWS (length cs) = length-take MOST_ROWS cs in
    All-from_recursion (λ (r : Row). r.key < 2 ^ 63) _ (few 1 (2 ^ 63) (take MOST_ROWS cs) (omega (arith, long)))

-- their keys are at most as many as they are
pub numbered-below : (cs : List (List ℤ)) → All (λ (r : Row). r.key < 1 + length cs) (numbered cs)
numbered-below cs = All-from_recursion (λ (r : Row). r.key < 1 + length cs) _ (few 1 (1 + length cs) cs (omega arith))
