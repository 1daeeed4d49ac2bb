-- Keys that follow one another.
use Rattle.std.proofs.Common.{◌≡◌, ◌≤◌, take, drop, refl, ◌≢◌, ◌∙◌, ap, sym, ℕ, zero, suc, ◌+◌, ◌<◌, List, ◌∷◌, ◌++◌, length, map, get_or, All, ◌⊎◌, arith}
use Rattle.std.specs.List.{range_with_len}
use Rattle.std.proofs.lemmas.List.FromFn.{get_or-range_with_len, length-range_with_len}

-- n numbers that follow one another are n keys
pub numbers_many : (a n : ℕ) (ks : List ℕ) → range_with_len a n ≡ ks → n ≡ length ks
numbers_many a n ks is = sym (length-range_with_len a n) ∙ ap length is

-- the i-th of the keys from a on is a + i
pub numbers_at : (a n i d : ℕ) (ks : List ℕ) → range_with_len a n ≡ ks → i < n → a + i ≡ get_or ks i d
numbers_at a n i d ks is lt = sym (get_or-range_with_len a n i d lt) ∙ ap (λ (v : List ℕ). get_or v i d) is

-- a key that is below them or above is none of them
pub number-nowhere : (a n key : ℕ) (ks : List ℕ) → range_with_len a n ≡ ks → (key < a) ⊎ (a + n ≤ key) → All (λ (k : ℕ). k ≢ key) ks
number-nowhere a n key ks is outside i d lt same =
    let inside : i < n = omega (arith, lt, numbers_many a n ks is) in
    let at : a + i ≡ key = numbers_at a n i d ks is inside ∙ same in
    omega (arith, at, inside, outside)

-- the first of the numbers
pub numbers-cut : (a k n : ℕ) → k ≤ n → range_with_len a k ≡ take k (range_with_len a n)
numbers-cut a zero n le = refl
numbers-cut a (suc k) zero le = absurd (omega (arith, le))
numbers-cut a (suc k) (suc n) le = ap (λ v. a ∷ v) (numbers-cut (a + 1) k n (omega (arith, le)))

-- so many of the numbers from a place on
numbers-part : (a s m n : ℕ) → s + m ≤ n → range_with_len (a + s) m ≡ take m (drop s (range_with_len a n))
numbers-part a zero m n le = ap (λ (k : ℕ). range_with_len k m) (let e : a + 0 ≡ a = omega arith in e) ∙ numbers-cut a m n (omega (arith, le))
numbers-part a (suc s) m zero le = absurd (omega (arith, le))
numbers-part a (suc s) m (suc n) le = ap (λ (k : ℕ). range_with_len k m) (let e : a + suc s ≡ a + 1 + s = omega arith in e) ∙ numbers-part (a + 1) s m n (omega (arith, le))

-- a stretch of keys that follow one another is the numbers from its first one on
pub numbers_stretch : (a s m n : ℕ) (ks : List ℕ) → range_with_len a n ≡ ks → s + m ≤ n → range_with_len (a + s) m ≡ take m (drop s ks)
numbers_stretch a s m n ks is le = numbers-part a s m n le ∙ ap (λ (v : List ℕ). take m (drop s v)) is

-- the numbers after the first n of them
pub numbers-split : (a m n : ℕ) → range_with_len a (m + n) ≡ range_with_len a m ++ range_with_len (a + m) n
numbers-split a zero n = ap (range_with_len a) (let e : 0 + n ≡ n = omega arith in e) ∙ ap (λ (k : ℕ). range_with_len k n) (let e : a ≡ a + 0 = omega arith in e)
numbers-split a (suc m) n = ap (range_with_len a) (let e : suc m + n ≡ suc (m + n) = omega arith in e) ∙ ap (λ (v : List ℕ). a ∷ v) (numbers-split (a + 1) m n ∙ ap (λ (k : ℕ). range_with_len (a + 1) m ++ range_with_len k n) (let e : a + 1 + m ≡ a + suc m = omega arith in e))

numbers-raised : (m a n : ℕ) → range_with_len (m + a) n ≡ map (λ (k : ℕ). m + k) (range_with_len a n)
numbers-raised m a zero = refl
numbers-raised m a (suc n) = ap (λ (v : List ℕ). (m + a) ∷ v) (ap (λ (k : ℕ). range_with_len k n) (let e : m + a + 1 ≡ m + (a + 1) = omega arith in e) ∙ numbers-raised m (a + 1) n)

-- numbers behind so many others
pub numbers_behind : (m n : ℕ) (ks : List ℕ) → range_with_len 1 n ≡ ks → range_with_len (1 + m) n ≡ map (λ (k : ℕ). m + k) ks
numbers_behind m n ks is = ap (λ (k : ℕ). range_with_len k n) (let e : 1 + m ≡ m + 1 = omega arith in e) ∙ numbers-raised m 1 n ∙ ap (map (λ (k : ℕ). m + k)) is
