-- A word whose bit at one place is kept or cleared.
use Rattle.std.proofs.Common.{◌≡◌, ◌≢◌, ℕ, ◌+◌, ◌-◌, ◌<◌, ◌/◌, ◌%◌, ◌^◌, ◌*◌, Bool, true, false, not, ◌&&◌, eqb, List, length, get_or, set, refl, ap, sym, ◌∙◌, arith, bit_and, min, w64, length-set, get_or-set_same}
use mir.Val.{bool_byte}
use Rattle.std.specs.Int.{bit_at}
use Rattle.std.proofs.lemmas.Nat.Bits.{bit_at_clear_same, bit_at_clear_other, bit_at_and, bit_at_ones, bit_at-lt}
use Rattle.sw_bits.specs.Places.{holds, places, AreWords}
use Rattle.sw_bits.proofs.Places.{places-set, cleared-other, get_or-places}

-- the word with its bit k kept where x holds, and else cleared
abbrev pub refined : ℕ → Bool → ℕ → ℕ
refined w x k = bit_and w (2 ^ 64 - 1 - bool_byte (not x) * 2 ^ k % 2 ^ 64)

least-one : (b : ℕ) → b < 2 → min b 1 ≡ b
least-one b h = omega arith

kept-bit : (w k j : ℕ) → j < 64 → bit_at (refined w true k) j ≡ bit_at w j
kept-bit w k j l =
    let z : 2 ^ 64 - 1 - 0 * 2 ^ k % 2 ^ 64 ≡ 2 ^ 64 - 1 = omega arith in
    ap (λ m. bit_at (bit_and w m) j) z ∙ bit_at_and w (2 ^ 64 - 1) j ∙ ap (λ b. min (bit_at w j) b) (bit_at_ones 64 j l) ∙ least-one (bit_at w j) (bit_at-lt w j)

refined-other : (w : ℕ) (x : Bool) (k j : ℕ) → k < 64 → j < 64 → j ≢ k → bit_at (refined w x k) j ≡ bit_at w j
refined-other w true k j l m d = kept-bit w k j m
refined-other w false k j l m d = bit_at_clear_other w64 w k l j m d

refined-place : (w : ℕ) (x : Bool) (k : ℕ) → k < 64 → eqb (bit_at (refined w x k) k) 1 ≡ (eqb (bit_at w k) 1 && x)
refined-place w true k l = ap (λ b. eqb b 1) (kept-bit w k k l) ∙ and-true (eqb (bit_at w k) 1)
  where
    and-true : (b : Bool) → b ≡ (b && true)
    and-true true = refl
    and-true false = refl
refined-place w false k l = ap (λ b. eqb b 1) (bit_at_clear_same w64 w k l) ∙ and-false (eqb (bit_at w k) 1)
  where
    and-false : (b : Bool) → false ≡ (b && false)
    and-false true = refl
    and-false false = refl

module _ (ws : List ℕ) (i r : ℕ) (x : Bool) (inside : i / 64 < length ws) (is : r ≡ get_or ws (i / 64) 0) where
  others : (k : ℕ) → k ≢ i → holds (set ws (i / 64) (refined r x (i % 64))) k ≡ holds ws k
  others k d =
      cleared-other ws i k (refined r x (i % 64)) d inside (λ j l n. refined-other r x (i % 64) j (omega arith) l n ∙ ap (λ w. bit_at w j) is)

  here : holds (set ws (i / 64) (refined r x (i % 64))) i ≡ (holds ws i && x)
  here =
      ap (λ w. eqb (bit_at w (i % 64)) 1) (get_or-set_same ws (i / 64) (refined r x (i % 64)) 0 inside) ∙ refined-place r x (i % 64) (omega arith) ∙ ap (λ w. eqb (bit_at w (i % 64)) 1 && x) is

  -- words of n places, with place i among them refined, are words of n places
  pub words-refined : (n : ℕ) → i < n → AreWords ws n → AreWords (set ws (i / 64) (refined r x (i % 64))) n
  words-refined n l h =
      let long : length (set ws (i / 64) (refined r x (i % 64))) ≡ length ws = length-set ws (i / 64) (refined r x (i % 64)) in
      let enough = h.enough in
      let no_more = h.no_more in
      record { fits = h.fits; enough = omega arith; no_more = omega arith; unused = λ k m. others k (λ e. omega arith) ∙ h.unused k m }

  -- of the n places, the one at i stays true only where x holds, and the others stay as they are
  pub places-refined : (n : ℕ) → i < n → places (set ws (i / 64) (refined r x (i % 64))) 0 n ≡ set (places ws 0 n) i (get_or (places ws 0 n) i false && x)
  places-refined n l =
      let z : 0 + i ≡ i = omega arith in
      let was : get_or (places ws 0 n) i false ≡ holds ws i = get_or-places ws 0 n i false l ∙ ap (holds ws) z in
      places-set ws (set ws (i / 64) (refined r x (i % 64))) 0 n i (get_or (places ws 0 n) i false && x) l (ap (holds (set ws (i / 64) (refined r x (i % 64)))) z ∙ here ∙ ap (λ b. b && x) (sym was)) (λ k d. others k (λ e. d (e ∙ sym z)))
