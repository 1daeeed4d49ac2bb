-- Places of whole words: how many are true, and the words of places that all are.
use Rattle.std.proofs.Common.{◌≡◌, ℕ, zero, suc, ◌+◌, ◌-◌, ◌<◌, ◌≤◌, ◌/◌, ◌%◌, ◌^◌, ◌*◌, Bool, true, false, cond, eqb, List, [], ◌∷◌, ◌++◌, length, get_or, replicate, refl, ap, sym, ◌∙◌, arith, count_ones, count_by, ◌⊎◌, inl, inr, length-append}
use Rattle.std.specs.Int.{bit_at}
use lib.Count.{ones_step}
use Rattle.std.proofs.Math.Nat.{pow-suc}
use Rattle.std.proofs.lemmas.Nat.Bits.{bit_at_lowest, bit_at-suc, bit_at-zero, bit_at_ones, bit_at_ones_above, bit_at-lt}
use Rattle.std.proofs.lemmas.Nat.{ones_le_self}
use Rattle.std.proofs.lemmas.List.{get_or-replicate, get_or_past, get_or_append_left, get_or-append_right, length-replicate}
use Rattle.std.proofs.lemmas.List.Sums.{sum_by-append, count_by-le-length}
use Rattle.sw_bits.specs.Places.{holds, places, AreWords, AreOnes}
use Rattle.sw_bits.proofs.Places.{length-places}

-- how many places are true
abbrev pub trues : List Bool → ℕ
trues bs = count_by (λ b. b) bs

-- m + n places are m places, and the n after them
pub places-append : (ws : List ℕ) (a m n : ℕ) → places ws a (m + n) ≡ places ws a m ++ places ws (a + m) n
places-append ws a zero n = ap (λ k. places ws a k) (let e : 0 + n ≡ n = omega arith in e) ∙ ap (λ k. places ws k n) (let e : a ≡ a + 0 = omega arith in e)
places-append ws a (suc m) n = ap (λ k. places ws a k) (let e : suc m + n ≡ suc (m + n) = omega arith in e) ∙ ap (λ bs. holds ws a ∷ bs) (places-append ws (suc a) m n ∙ ap (λ k. places ws (suc a) m ++ places ws k n) (let e : suc a + m ≡ a + suc m = omega arith in e))

-- n places that are all true are n times true
pub places-true : (ws : List ℕ) (a n : ℕ) → ((k : ℕ) → a ≤ k → k < a + n → holds ws k ≡ true) → places ws a n ≡ replicate n true
places-true ws a zero h = refl
places-true ws a (suc n) h =
    let e = h a (omega arith) (omega arith) in
    let r = places-true ws (suc a) n (λ k l u. h k (omega arith) (omega arith)) in
    cc

-- where no place from a on is true, none of n of them is
pub trues-none : (ws : List ℕ) (a n : ℕ) → ((k : ℕ) → a ≤ k → holds ws k ≡ false) → trues (places ws a n) ≡ 0
trues-none ws a zero h = refl
trues-none ws a (suc n) h =
    let e = h a (omega arith) in
    rw e (trues-none ws (suc a) n (λ k l. h k (omega arith)))

-- a bit as a place, counted
bit-counted : (b : ℕ) → b < 2 → cond (eqb b 1) 1 0 ≡ b
bit-counted zero h = refl
bit-counted (suc zero) h = refl
bit-counted (suc (suc b)) h = absurd (omega arith)

-- the true places of one word
pub trues-word : (ws : List ℕ) (a n w : ℕ) → ((j : ℕ) → j < n → holds ws (a + j) ≡ eqb (bit_at w j) 1) → w < 2 ^ n → trues (places ws a n) ≡ count_ones w
trues-word ws a zero w h fits = let e : w ≡ 0 = omega arith in let none : 0 ≡ count_ones 0 = omega (arith, ones_le_self 0) in none ∙ ap count_ones (sym e)
trues-word ws a (suc n) w h fits =
    let first : holds ws a ≡ eqb (bit_at w 0) 1 = ap (holds ws) (let e : a ≡ a + 0 = omega arith in e) ∙ h 0 (omega arith) in
    let one : cond (holds ws a) 1 0 ≡ w % 2 = ap (λ b. cond b 1 0) first ∙ bit-counted (bit_at w 0) (bit_at-lt w 0) ∙ bit_at_lowest w in
    let rest = trues-word ws (suc a) n (w / 2) (λ j l. ap (holds ws) (let e : suc a + j ≡ a + suc j = omega arith in e) ∙ h (suc j) (omega arith) ∙ ap (λ b. eqb b 1) (bit_at-suc w j)) (omega (arith, pow-suc 2 n)) in
    let parts : trues (places ws a (suc n)) ≡ (0 + cond (holds ws a) 1 0) + trues (places ws (suc a) n) = sum_by-append (λ (b : Bool). cond b 1 0) (holds ws a ∷ []) (places ws (suc a) n) in
    let both : trues (places ws a (suc n)) ≡ w % 2 + count_ones (w / 2) = omega (arith, parts, one, rest) in
    both ∙ sym (ones_step w)

-- the places of the word at an index
word-places : (ws : List ℕ) (k j : ℕ) → j < 64 → holds ws (64 * k + j) ≡ eqb (bit_at (get_or ws k 0) j) 1
word-places ws k j l =
    let d : (64 * k + j) / 64 ≡ k = omega arith in
    let m : (64 * k + j) % 64 ≡ j = omega arith in
    ap (λ i. eqb (bit_at (get_or ws i 0) ((64 * k + j) % 64)) 1) d ∙ ap (λ i. eqb (bit_at (get_or ws k 0) i) 1) m

-- one more word counted
pub trues-more : (ws : List ℕ) (k : ℕ) → get_or ws k 0 < 2 ^ 64 → trues (places ws 0 (64 * (k + 1))) ≡ trues (places ws 0 (64 * k)) + count_ones (get_or ws k 0)
trues-more ws k fits =
    let e : 64 * (k + 1) ≡ 64 * k + 64 = omega arith in
    ap (λ n. trues (places ws 0 n)) e ∙ ap trues (places-append ws 0 (64 * k) 64) ∙ ap (λ a. trues (places ws 0 (64 * k) ++ places ws a 64)) (let z : 0 + 64 * k ≡ 64 * k = omega arith in z) ∙ sum_by-append (λ (b : Bool). cond b 1 0) (places ws 0 (64 * k)) (places ws (64 * k) 64) ∙ ap (λ n. trues (places ws 0 (64 * k)) + n) (trues-word ws (64 * k) 64 (get_or ws k 0) (word-places ws k) fits)

-- the same of a count so far
pub trues-next : (ws : List ℕ) (k n : ℕ) → get_or ws k 0 < 2 ^ 64 → n ≡ trues (places ws 0 (64 * k)) → n + count_ones (get_or ws k 0) ≡ trues (places ws 0 (64 * (k + 1)))
trues-next ws k n fits e = ap (λ m. m + count_ones (get_or ws k 0)) e ∙ sym (trues-more ws k fits)

-- past the places of the vector none is true
pub trues-past : (ws : List ℕ) (n m : ℕ) → AreWords ws n → trues (places ws 0 (n + m)) ≡ trues (places ws 0 n)
trues-past ws n m h =
    ap trues (places-append ws 0 n m) ∙ ap (λ k. trues (places ws 0 n ++ places ws k m)) (let z : 0 + n ≡ n = omega arith in z) ∙ sum_by-append (λ (b : Bool). cond b 1 0) (places ws 0 n) (places ws n m) ∙ (let none = trues-none ws n m h.unused in omega (arith, none))

few-by : (ws : List ℕ) (n k : ℕ) → AreWords ws n → (k ≤ n) ⊎ (n ≤ k) → trues (places ws 0 k) ≤ n
few-by ws n k h (inl l) = omega (arith, count_by-le-length (λ (b : Bool). b) (places ws 0 k), length-places ws 0 k)
few-by ws n k h (inr l) =
    let e : k ≡ n + (k - n) = omega arith in
    let same = ap (λ m. trues (places ws 0 m)) e ∙ trues-past ws n (k - n) h in
    omega (arith, same, count_by-le-length (λ (b : Bool). b) (places ws 0 n), length-places ws 0 n)

either-way : (m n : ℕ) → (m ≤ n) ⊎ (n ≤ m)
either-way zero n = inl (omega arith)
either-way (suc m) zero = inr (omega arith)
either-way (suc m) (suc n) = elim (either-way m n) [ inl l ↦ inl (omega arith) | inr l ↦ inr (omega arith) ]

-- no more places are true than there are
pub trues-few : (ws : List ℕ) (n k : ℕ) → AreWords ws n → trues (places ws 0 k) ≤ n
trues-few ws n k h = few-by ws n k h (either-way k n)

-- all words counted
pub trues-all : (ws : List ℕ) (n : ℕ) → AreWords ws n → trues (places ws 0 (64 * length ws)) ≡ trues (places ws 0 n)
trues-all ws n h =
    let enough = h.enough in
    let e : 64 * length ws ≡ n + (64 * length ws - n) = omega arith in
    ap (λ m. trues (places ws 0 m)) e ∙ trues-past ws n (64 * length ws - n) h

-- ---- words of 1s

holds-past : (ws : List ℕ) (k : ℕ) → length ws ≤ k / 64 → holds ws k ≡ false
holds-past ws k l = ap (λ w. eqb (bit_at w (k % 64)) 1) (get_or_past ws (k / 64) 0 l) ∙ ap (λ b. eqb b 1) (bit_at-zero (k % 64))

-- a place of a known word
holds-of : (ws : List ℕ) (k w b : ℕ) → get_or ws (k / 64) 0 ≡ w → bit_at w (k % 64) ≡ b → holds ws k ≡ eqb b 1
holds-of ws k w b e f = ap (λ v. eqb (bit_at v (k % 64)) 1) e ∙ ap (λ v. eqb v 1) f

-- words of 1s are n places that are all true, where n places fill whole words
pub ones-whole : (ws : List ℕ) (n : ℕ) → n < 2 ^ 64 → ws ≡ replicate (n / 64) (2 ^ 64 - 1) → n % 64 ≤ 0 → AreOnes ws n
ones-whole ws n fits e none =
    let long : length ws ≡ n / 64 = ap length e ∙ length-replicate (n / 64) (2 ^ 64 - 1) in
    record {
      fitting = record { fits = fits; enough = omega arith; no_more = omega arith; unused = λ k l. holds-past ws k (omega arith) };
      ones = λ k l. holds-of ws k (2 ^ 64 - 1) 1 (ap (λ v. get_or v (k / 64) 0) e ∙ get_or-replicate (n / 64) (k / 64) (2 ^ 64 - 1) 0 (omega arith)) (bit_at_ones 64 (k % 64) (omega arith));
    }

last-word : (ws : List ℕ) (n k : ℕ) → ws ≡ replicate (n / 64) (2 ^ 64 - 1) ++ (2 ^ (n % 64) - 1) ∷ [] → k / 64 ≡ n / 64 → get_or ws (k / 64) 0 ≡ 2 ^ (n % 64) - 1
last-word ws n k e at =
    let long : length (replicate (n / 64) (2 ^ 64 - 1)) ≡ n / 64 = length-replicate (n / 64) (2 ^ 64 - 1) in
    ap (λ v. get_or v (k / 64) 0) e ∙ get_or-append_right (replicate (n / 64) (2 ^ 64 - 1)) ((2 ^ (n % 64) - 1) ∷ []) (n / 64) (k / 64) 0 long (omega arith) ∙ ap (λ i. get_or ((2 ^ (n % 64) - 1) ∷ []) i 0) (let z : k / 64 - n / 64 ≡ 0 = omega arith in z)

full-word : (ws : List ℕ) (n k : ℕ) → ws ≡ replicate (n / 64) (2 ^ 64 - 1) ++ (2 ^ (n % 64) - 1) ∷ [] → k / 64 < n / 64 → get_or ws (k / 64) 0 ≡ 2 ^ 64 - 1
full-word ws n k e at =
    let long : length (replicate (n / 64) (2 ^ 64 - 1)) ≡ n / 64 = length-replicate (n / 64) (2 ^ 64 - 1) in
    ap (λ v. get_or v (k / 64) 0) e ∙ get_or_append_left (replicate (n / 64) (2 ^ 64 - 1)) ((2 ^ (n % 64) - 1) ∷ []) 0 (k / 64) (omega arith) ∙ get_or-replicate (n / 64) (k / 64) (2 ^ 64 - 1) 0 at

ones-at : (ws : List ℕ) (n k : ℕ) → ws ≡ replicate (n / 64) (2 ^ 64 - 1) ++ (2 ^ (n % 64) - 1) ∷ [] → (k / 64 < n / 64) ⊎ (n / 64 ≤ k / 64) → k < n → holds ws k ≡ true
ones-at ws n k e (inl at) l = holds-of ws k (2 ^ 64 - 1) 1 (full-word ws n k e at) (bit_at_ones 64 (k % 64) (omega arith))
ones-at ws n k e (inr at) l = holds-of ws k (2 ^ (n % 64) - 1) 1 (last-word ws n k e (omega arith)) (bit_at_ones (n % 64) (k % 64) (omega arith))

none-at : (ws : List ℕ) (n k : ℕ) → ws ≡ replicate (n / 64) (2 ^ 64 - 1) ++ (2 ^ (n % 64) - 1) ∷ [] → length ws ≡ n / 64 + 1 → (k / 64 < n / 64 + 1) ⊎ (n / 64 + 1 ≤ k / 64) → n ≤ k → holds ws k ≡ false
none-at ws n k e long (inl at) l = holds-of ws k (2 ^ (n % 64) - 1) 0 (last-word ws n k e (omega arith)) (bit_at_ones_above (n % 64) (k % 64) (omega arith))
none-at ws n k e long (inr at) l = holds-past ws k (omega arith)

less-or-not : (m n : ℕ) → (m < n) ⊎ (n ≤ m)
less-or-not m zero = inr (omega arith)
less-or-not zero (suc n) = inl (omega arith)
less-or-not (suc m) (suc n) = elim (less-or-not m n) [ inl l ↦ inl (omega arith) | inr l ↦ inr (omega arith) ]

-- words of 1s, and a last one with a 1 for each place left over, are n places that are all true
pub ones-and-rest : (ws : List ℕ) (n : ℕ) → n < 2 ^ 64 → ws ≡ replicate (n / 64) (2 ^ 64 - 1) ++ (2 ^ (n % 64) - 1) ∷ [] → 0 < n % 64 → AreOnes ws n
ones-and-rest ws n fits e some =
    let long : length ws ≡ n / 64 + 1 = ap length e ∙ length-append (replicate (n / 64) (2 ^ 64 - 1)) ((2 ^ (n % 64) - 1) ∷ []) ∙ ap (λ m. m + 1) (length-replicate (n / 64) (2 ^ 64 - 1)) in
    record {
      fitting = record { fits = fits; enough = omega arith; no_more = omega arith; unused = λ k l. none-at ws n k e long (less-or-not (k / 64) (n / 64 + 1)) l };
      ones = λ k l. ones-at ws n k e (less-or-not (k / 64) (n / 64)) l;
    }
