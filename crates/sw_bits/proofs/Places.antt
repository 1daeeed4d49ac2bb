use Rattle.std.proofs.Common.{◌≡◌, ◌≢◌, ℕ, zero, suc, ◌+◌, ◌<◌, ◌≤◌, ◌/◌, ◌%◌, Bool, true, false, ◌&&◌, eqb, List, length, get_or, set, refl, ap, sym, ◌∙◌, arith, ◌⊎◌, inl, inr, get_or-set_same, get_or-set_other}
use Rattle.std.specs.Int.{bit_at}
use Rattle.sw_bits.specs.Places.{holds, places}

-- the list of n places has n of them
pub length-places : (ws : List ℕ) (a n : ℕ) → length (places ws a n) ≡ n
length-places ws a zero = refl
length-places ws a (suc n) = ap suc (length-places ws (suc a) n)

-- the i-th of the places from a on is the place a + i
pub get_or-places : (ws : List ℕ) (a n i : ℕ) (d : Bool) → i < n → get_or (places ws a n) i d ≡ holds ws (a + i)
get_or-places ws a zero i d lt = let no : i < 0 = lt in absurd (omega arith)
get_or-places ws a (suc n) zero d lt = ap (holds ws) (let e : a ≡ a + 0 = omega arith in e)
get_or-places ws a (suc n) (suc i) d lt = get_or-places ws (suc a) n i d (omega arith) ∙ ap (holds ws) (let e : suc a + i ≡ a + suc i = omega arith in e)

same-places : (ws vs : List ℕ) (a n : ℕ) → ((k : ℕ) → a ≤ k → k < a + n → holds vs k ≡ holds ws k) → places vs a n ≡ places ws a n
same-places ws vs a zero h = refl
same-places ws vs a (suc n) h = let e = h a (omega arith) (omega arith) in let r = same-places ws vs (suc a) n (λ k l u. h k (omega arith) (omega arith)) in cc

-- one place changed, the others as they were
pub places-set : (ws vs : List ℕ) (a n i : ℕ) (v : Bool) → i < n → holds vs (a + i) ≡ v → ((k : ℕ) → k ≢ a + i → holds vs k ≡ holds ws k) → places vs a n ≡ set (places ws a n) i v
places-set ws vs a zero i v lt e h = let no : i < 0 = lt in absurd (omega arith)
places-set ws vs a (suc n) zero v lt e h =
    let e0 : holds vs a ≡ v = ap (holds vs) (let q : a ≡ a + 0 = omega arith in q) ∙ e in
    let r = same-places ws vs (suc a) n (λ k l u. h k (omega arith)) in cc
places-set ws vs a (suc n) (suc i) v lt e h =
    let e0 = h a (omega arith) in
    let r = places-set ws vs (suc a) n i v (omega arith) (ap (holds vs) (let q : suc a + i ≡ a + suc i = omega arith in q) ∙ e) (λ k ne. h k (omega arith)) in cc

eq_or : (m n : ℕ) → (m ≡ n) ⊎ (m ≢ n)
eq_or zero zero = inl refl
eq_or zero (suc n) = inr (λ e. omega arith)
eq_or (suc m) zero = inr (λ e. omega arith)
eq_or (suc m) (suc n) = elim (eq_or m n) [ inl e ↦ inl (ap suc e) | inr d ↦ inr (λ e. d (omega arith)) ]

-- the word at a place cleared at one bit
pub cleared-same : (ws : List ℕ) (i w : ℕ) → i / 64 < length ws → bit_at w (i % 64) ≡ 0 → holds (set ws (i / 64) w) i ≡ false
cleared-same ws i w lt z = ap (λ (v : ℕ). eqb (bit_at v (i % 64)) 1) (get_or-set_same ws (i / 64) w 0 lt) ∙ ap (λ (v : ℕ). eqb v 1) z

cleared-by : (ws : List ℕ) (i k w : ℕ) → (k / 64 ≡ i / 64) ⊎ (k / 64 ≢ i / 64) → k ≢ i → i / 64 < length ws → ((j : ℕ) → j < 64 → j ≢ i % 64 → bit_at w j ≡ bit_at (get_or ws (i / 64) 0) j) → holds (set ws (i / 64) w) k ≡ holds ws k
cleared-by ws i k w (inl e) d lt same =
    let ne : k % 64 ≢ i % 64 = λ r. d (omega arith) in
    ap (λ (j : ℕ). eqb (bit_at (get_or (set ws (i / 64) w) j 0) (k % 64)) 1) e ∙ ap (λ (v : ℕ). eqb (bit_at v (k % 64)) 1) (get_or-set_same ws (i / 64) w 0 lt) ∙ ap (λ (v : ℕ). eqb v 1) (same (k % 64) (omega arith) ne) ∙ ap (λ (j : ℕ). eqb (bit_at (get_or ws j 0) (k % 64)) 1) (sym e)
cleared-by ws i k w (inr n) d lt same = ap (λ (v : ℕ). eqb (bit_at v (k % 64)) 1) (get_or-set_other ws (i / 64) (k / 64) w 0 n)

-- a word put in place of one that differs from it in one bit at most leaves all other places as they are
pub cleared-other : (ws : List ℕ) (i k w : ℕ) → k ≢ i → i / 64 < length ws → ((j : ℕ) → j < 64 → j ≢ i % 64 → bit_at w j ≡ bit_at (get_or ws (i / 64) 0) j) → holds (set ws (i / 64) w) k ≡ holds ws k
cleared-other ws i k w d lt same = cleared-by ws i k w (eq_or (k / 64) (i / 64)) d lt same

-- `refine` by a word with one bit cleared
pub places-cleared : (ws : List ℕ) (n i w : ℕ) → i < n → i / 64 < length ws → bit_at w (i % 64) ≡ 0 → ((j : ℕ) → j < 64 → j ≢ i % 64 → bit_at w j ≡ bit_at (get_or ws (i / 64) 0) j) → places (set ws (i / 64) w) 0 n ≡ set (places ws 0 n) i false
places-cleared ws n i w lt lt' z same =
    places-set ws (set ws (i / 64) w) 0 n i false lt (ap (holds (set ws (i / 64) w)) (let e : 0 + i ≡ i = omega arith in e) ∙ cleared-same ws i w lt' z) (λ k ne. cleared-other ws i k w (λ e. ne (omega arith)) lt' same)

-- two tests of which the second fails do not both hold
pub and-false : (b x : Bool) → x ≡ false → (b && x) ≡ false
and-false true x h = h
and-false false x h = refl
