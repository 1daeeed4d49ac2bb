-- Lists of numbers: what is true of each, of each with each later one, and which stand in them.
use Rattle.std.proofs.Common.{◌≡◌, ◌<◌, ◌⊎◌, inl, inr, ap, refl, subst, ℕ, zero, suc, List, [], ◌∷◌, ◌++◌, Some, arith}
use Rattle.std.specs.List.{AllByRecursion, slice_get}
use Rattle.std.proofs.lemmas.Option.{same_Some}
use Rattle.sw_order_laws.specs.Beginnings.{IsIn}

-- ---- of each

-- from each place to all
pub all_given : (P : ℕ → Type 0) (xs : List ℕ) → ((p i : ℕ) → slice_get xs p ≡ Some i → P i) → AllByRecursion P xs
all_given P [] h = tt
all_given P (x ∷ xs) h = (h 0 x refl, all_given P xs (λ p i e. h (suc p) i e))

-- from all to a place
pub all_at : (P : ℕ → Type 0) (xs : List ℕ) → AllByRecursion P xs → (p i : ℕ) → slice_get xs p ≡ Some i → P i
all_at P [] a p i e = absurd (cc)
all_at P (x ∷ xs) a zero i e = subst P (same_Some x i e) a.0
all_at P (x ∷ xs) a (suc p) i e = all_at P xs a.1 p i e

-- of two lists in a row
pub all_join : (P : ℕ → Type 0) (xs ys : List ℕ) → AllByRecursion P xs → AllByRecursion P ys → AllByRecursion P (xs ++ ys)
all_join P [] ys a b = b
all_join P (x ∷ xs) ys a b = (a.0, all_join P xs ys a.1 b)

-- of either of them
pub all_split : (P : ℕ → Type 0) (xs ys : List ℕ) → AllByRecursion P (xs ++ ys) → AllByRecursion P xs × AllByRecursion P ys
all_split P [] ys a = (tt, a)
all_split P (x ∷ xs) ys a = let rest = all_split P xs ys a.1 in ((a.0, rest.0), rest.1)

-- what follows from it is true of all
pub all_weaker : (P Q : ℕ → Type 0) (xs : List ℕ) → ((x : ℕ) → P x → Q x) → AllByRecursion P xs → AllByRecursion Q xs
all_weaker P Q [] h a = tt
all_weaker P Q (x ∷ xs) h a = (h x a.0, all_weaker P Q xs h a.1)

-- ---- which stand in a list

-- with a number in front
pub in_front : (x : ℕ) (xs : List ℕ) (i : ℕ) → IsIn xs i → IsIn (x ∷ xs) i
in_front x xs i h = (suc h.0, h.1)

-- in the first of two
pub in_left : (xs ys : List ℕ) (i : ℕ) → IsIn xs i → IsIn (xs ++ ys) i
in_left [] ys i h = absurd (nowhere h.0 h.1)
  where
    nowhere : (p : ℕ) → slice_get [] p ≡ Some i → ⊥
    nowhere p e = absurd (cc)
in_left (x ∷ xs) ys i h = by_place (in_left xs ys i) h.0 h.1
  where
    by_place : (IsIn xs i → IsIn (xs ++ ys) i) → (p : ℕ) → slice_get (x ∷ xs) p ≡ Some i → IsIn (x ∷ (xs ++ ys)) i
    by_place later zero e = (0, e)
    by_place later (suc p) e = in_front x (xs ++ ys) i (later (p, e))

-- in the second
pub in_right : (xs ys : List ℕ) (i : ℕ) → IsIn ys i → IsIn (xs ++ ys) i
in_right [] ys i h = h
in_right (x ∷ xs) ys i h = in_front x (xs ++ ys) i (in_right xs ys i h)

-- in one of the two
pub in_either : (xs ys : List ℕ) (i : ℕ) → IsIn (xs ++ ys) i → IsIn xs i ⊎ IsIn ys i
in_either [] ys i h = inr h
in_either (x ∷ xs) ys i h = by_place (in_either xs ys i) h.0 h.1
  where
    later : IsIn xs i ⊎ IsIn ys i → IsIn (x ∷ xs) i ⊎ IsIn ys i
    later (inl a) = inl (in_front x xs i a)
    later (inr b) = inr b

    by_place : (IsIn (xs ++ ys) i → IsIn xs i ⊎ IsIn ys i) → (p : ℕ) → slice_get (x ∷ (xs ++ ys)) p ≡ Some i → IsIn (x ∷ xs) i ⊎ IsIn ys i
    by_place rest zero e = inl (0, e)
    by_place rest (suc p) e = later (rest (p, e))

-- the numbers of a list before and behind one that stands in it
pub record Around (xs : List ℕ) (i : ℕ) : Type 0 where
  pub before : List ℕ
  pub behind : List ℕ
  pub are : xs ≡ before ++ i ∷ behind

-- a list, parted at a number
pub around : (xs : List ℕ) (i p : ℕ) → slice_get xs p ≡ Some i → Around xs i
around [] i p e = absurd (cc)
around (x ∷ xs) i zero e = record { before = []; behind = xs; are = ap (λ (n : ℕ). n ∷ xs) (same_Some x i e) }
around (x ∷ xs) i (suc p) e = let rest = around xs i p e in record { before = x ∷ rest.before; behind = rest.behind; are = ap (λ (l : List ℕ). x ∷ l) rest.are }

-- ---- of each with each later one

-- true of each with each later one
abbrev pub Pairs : (ℕ → ℕ → Type 0) → List ℕ → Type 0
Pairs R [] = Unit {0}
Pairs R (x ∷ xs) = AllByRecursion (R x) xs × Pairs R xs

-- of each of one list with each of another
abbrev pub Cross : (ℕ → ℕ → Type 0) → List ℕ → List ℕ → Type 0
Cross R xs ys = AllByRecursion (λ x. AllByRecursion (R x) ys) xs

-- from places to pairs
pub pairs_given : (R : ℕ → ℕ → Type 0) (xs : List ℕ) → ((p q i j : ℕ) → p < q → slice_get xs p ≡ Some i → slice_get xs q ≡ Some j → R i j) → Pairs R xs
pairs_given R [] h = tt
pairs_given R (x ∷ xs) h = (all_given (R x) xs (λ p j e. h 0 (suc p) x j (omega arith) refl e), pairs_given R xs (λ p q i j lt a b. h (suc p) (suc q) i j (omega arith) a b))

-- from pairs to places
pub pairs_at : (R : ℕ → ℕ → Type 0) (xs : List ℕ) → Pairs R xs → (p q i j : ℕ) → p < q → slice_get xs p ≡ Some i → slice_get xs q ≡ Some j → R i j
pairs_at R [] a p q i j lt e f = absurd (cc)
pairs_at R (x ∷ xs) a zero zero i j lt e f = absurd (omega arith)
pairs_at R (x ∷ xs) a zero (suc q) i j lt e f = subst (λ n. R n j) (same_Some x i e) (all_at (R x) xs a.0 q j f)
pairs_at R (x ∷ xs) a (suc p) zero i j lt e f = absurd (omega arith)
pairs_at R (x ∷ xs) a (suc p) (suc q) i j lt e f = pairs_at R xs a.1 p q i j (omega arith) e f

-- of two lists in a row
pub pairs_join : (R : ℕ → ℕ → Type 0) (xs ys : List ℕ) → Pairs R xs → Pairs R ys → Cross R xs ys → Pairs R (xs ++ ys)
pairs_join R [] ys a b c = b
pairs_join R (x ∷ xs) ys a b c = (all_join (R x) xs ys a.0 c.0, pairs_join R xs ys a.1 b c.1)

-- of the first
pub pairs_first : (R : ℕ → ℕ → Type 0) (xs ys : List ℕ) → Pairs R (xs ++ ys) → Pairs R xs
pairs_first R [] ys a = tt
pairs_first R (x ∷ xs) ys a = ((all_split (R x) xs ys a.0).0, pairs_first R xs ys a.1)

-- of the second
pub pairs_last : (R : ℕ → ℕ → Type 0) (xs ys : List ℕ) → Pairs R (xs ++ ys) → Pairs R ys
pairs_last R [] ys a = a
pairs_last R (x ∷ xs) ys a = pairs_last R xs ys a.1

-- of each of the first with each of the second
pub pairs_cross : (R : ℕ → ℕ → Type 0) (xs ys : List ℕ) → Pairs R (xs ++ ys) → Cross R xs ys
pairs_cross R [] ys a = tt
pairs_cross R (x ∷ xs) ys a = ((all_split (R x) xs ys a.0).1, pairs_cross R xs ys a.1)

-- one that stands later is moved to the front of some
pub pairs_moved : (R : ℕ → ℕ → Type 0) (first between rest : List ℕ) (i : ℕ) → Pairs R (first ++ (between ++ i ∷ rest)) → AllByRecursion (R i) between → Pairs R (first ++ i ∷ (between ++ rest))
pairs_moved R first between rest i h front =
    let later = pairs_last R first (between ++ i ∷ rest) h in
    let behind = pairs_last R between (i ∷ rest) later in
    let across = pairs_cross R between (i ∷ rest) later in
    pairs_join R first (i ∷ (between ++ rest))
    (pairs_first R first (between ++ i ∷ rest) h)
    (all_join (R i) between rest front behind.0, pairs_join R between rest (pairs_first R between (i ∷ rest) later) behind.1 (all_weaker (λ x. AllByRecursion (R x) (i ∷ rest)) (λ x. AllByRecursion (R x) rest) between (λ x a. a.1) across))
    (all_weaker (λ x. AllByRecursion (R x) (between ++ i ∷ rest)) (λ x. AllByRecursion (R x) (i ∷ (between ++ rest))) first (λ x a. let s = all_split (R x) between (i ∷ rest) a in (s.1.0, all_join (R x) between rest s.0 s.1.1)) (pairs_cross R first (between ++ i ∷ rest) h))

-- one list changes places with another that has the same members
pub pairs_exchanged : (R : ℕ → ℕ → Type 0) (one other rest : List ℕ) → ((i : ℕ) → IsIn other i → IsIn one i) → Pairs R other → Pairs R (one ++ rest) → Pairs R (other ++ rest)
pairs_exchanged R one other rest within own h =
    pairs_join R other rest own (pairs_last R one rest h)
    (all_given (λ x. AllByRecursion (R x) rest) other (λ p i e. let there = within i (p, e) in all_at (λ x. AllByRecursion (R x) rest) one (pairs_cross R one rest h) there.0 i there.1))
