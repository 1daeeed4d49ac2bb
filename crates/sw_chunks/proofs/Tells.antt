-- Rows that come, told one after the other.
use Rattle.std.proofs.Common.{◌≡◌, ◌<◌, ◌≤◌, ◌+◌, ◌++◌, ℕ, ℤ, zero, suc, pos, List, [], ◌∷◌, length, get_or, map, take, refl, sym, ap, ◌∙◌, arith, subst, All}
use Rattle.std.proofs.lemmas.Int.{ints}
use Rattle.std.proofs.lemmas.List.{append_assoc, map-append}
use Rattle.sw_table.specs.declared.row.Row.{Row}
use Rattle.sw_table.specs.declared.row.Update.{Update}
use Rattle.sw_table.specs.declared.row.Update.TheVariants.{Insert}
use Rattle.sw_chunks.specs.Heads.{IsCell}

next-is : (n : ℕ) → suc n ≡ n + 1
next-is n = omega arith

-- the elements before the next place
taken-suc : {A : Type 0} (xs : List A) (n : ℕ) (e : A) → n < length xs → take (suc n) xs ≡ take n xs ++ get_or xs n e ∷ []
taken-suc [] n e lt = absurd (omega (arith, lt))
taken-suc (x ∷ xs) zero e lt = refl
taken-suc (x ∷ xs) (suc n) e lt = ap (λ l. x ∷ l) (taken-suc xs n e (omega (arith, lt)))

-- the elements up to the next place are those before and the one there
pub taken-more : {A : Type 0} (xs : List A) (n : ℕ) (e : A) → n < length xs → take (n + 1) xs ≡ take n xs ++ get_or xs n e ∷ []
taken-more xs n e lt = subst (λ (m : ℕ). take m xs ≡ take n xs ++ get_or xs n e ∷ []) (next-is n) (taken-suc xs n e lt)

-- the elements before a place behind the last are all of them
pub taken-all : {A : Type 0} (xs : List A) (n : ℕ) → length xs ≤ n → take n xs ≡ xs
taken-all [] zero le = refl
taken-all [] (suc n) le = refl
taken-all (x ∷ xs) zero le = absurd (omega (arith, le))
taken-all (x ∷ xs) (suc n) le = ap (λ l. x ∷ l) (taken-all xs n (omega (arith, le)))

-- what holds of them
all-suc : {A : Type 0} (P : A → Type 0) (xs : List A) (n : ℕ) (e : A) → n < length xs → All P (take n xs) → P (get_or xs n e) → All P (take (suc n) xs)
all-suc P [] n e lt h p = absurd (omega (arith, lt))
all-suc P (x ∷ xs) zero e lt h p = λ k d le. first k d le
  where
    first : (k : ℕ) (d : _) → k < length (x ∷ []) → P (get_or (x ∷ []) k d)
    first zero d le = p
    first (suc k) d le = absurd (omega (arith, le))
all-suc P (x ∷ xs) (suc n) e lt h p = λ k d le. by k d le (all-suc P xs n e (omega (arith, lt)) (λ j f less. h (suc j) f (omega (arith, less))) p)
  where
    by : (k : ℕ) (d : _) → k < length (x ∷ take (suc n) xs) → All P (take (suc n) xs) → P (get_or (x ∷ take (suc n) xs) k d)
    by zero d le rest = h 0 d (omega arith)
    by (suc k) d le rest = rest k d (omega (arith, le))

-- what holds of the elements before a place and of the one there holds of one more
pub all-more : {A : Type 0} (P : A → Type 0) (xs : List A) (n : ℕ) (e : A) → n < length xs → All P (take n xs) → P (get_or xs n e) → All P (take (n + 1) xs)
all-more P xs n e lt h p = subst (λ (m : ℕ). All P (take m xs)) (next-is n) (all-suc P xs n e lt h p)

-- what holds of the elements before a place behind the last holds of all
pub all-taken : {A : Type 0} (P : A → Type 0) (xs : List A) (n : ℕ) → length xs ≤ n → All P (take n xs) → All P xs
all-taken P xs n le h = subst (All P) (taken-all xs n le) h

-- a list with one element more
pub told-more : {A : Type 0} (was now old xs : List A) (n : ℕ) (e : A) → n < length xs → was ≡ old ++ take n xs → now ≡ was ++ get_or xs n e ∷ [] → now ≡ old ++ take (n + 1) xs
told-more was now old xs n e lt h is =
    is ∙ (ap (λ l. l ++ get_or xs n e ∷ []) h ∙ (append_assoc old (take n xs) (get_or xs n e ∷ []) ∙ ap (λ l. old ++ l) (sym (taken-more xs n e lt))))

-- rows told as insertions, and one row more
pub inserted-more : (rows : List Row) (n : ℕ) (d : Row) (was now : List Update) (r : Row) → n < length rows → was ≡ map Insert (take n rows) → r ≡ get_or rows n d → now ≡ was ++ Insert r ∷ [] → now ≡ map Insert (take (n + 1) rows)
inserted-more rows n d was now r lt is at more =
    more ∙ ap (λ l. l ++ Insert r ∷ []) is ∙ ap (λ (x : Row). map Insert (take n rows) ++ Insert x ∷ []) at
    ∙ sym (map-append Insert (take n rows) (get_or rows n d ∷ [])) ∙ ap (map Insert) (sym (taken-more rows n d lt))

-- cells of 64 bits, and past them nothing
pub cell-at : (cells : List ℤ) → All IsCell cells → (a : ℕ) → IsCell (get_or cells a (pos 0))
cell-at [] h a = (omega (arith, ints), omega (arith, ints))
cell-at (x ∷ cells) h zero = h 0 x (omega arith)
cell-at (x ∷ cells) h (suc a) = cell-at cells (λ k d lt. h (suc k) d (omega (arith, lt))) a
