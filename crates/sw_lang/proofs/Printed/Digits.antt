-- Digits that are printed, and the number that they write.
use Rattle.std.proofs.Common.{◌≡◌, ◌∙◌, ap, sym, refl, ℕ, zero, suc, ◌+◌, ◌-◌, ◌*◌, ◌/◌, ◌%◌, ◌^◌, ◌<◌, ◌≤◌, true, List, [], ◌∷◌, ◌++◌, length, replicate, fold, decimal, length-append, pow-suc, mul_assoc, mul_comm, arith, ◌&&◌, Bool, false, Some, None, nat_lt, le-ltb, lt-ltb, ltb-true, subst, if◌then◌else◌}
use Rattle.std.proofs.lemmas.Bool.{and_parts}
use Rattle.std.proofs.lemmas.Bool.Decides.{nat_tests}
use Rattle.std.proofs.lemmas.Fmt.{decimal_by_steps, length-decimal-le}
use Rattle.std.proofs.lemmas.List.{length-replicate}
use Rattle.std.proofs.lemmas.List.Folds.{list_all-append}
use Rattle.std.proofs.lemmas.List.Sums.{fold-append}
use Rattle.std.specs.Char.{is_ascii_digit}
use Rattle.std.specs.List.{list_all}
use Rattle.std.proofs.lemmas.Option.{same_Some}
use Rattle.sw_rows.proofs.Options.{if_some, then_some, unless_some}
use Rattle.sw_rows.specs.Cells.{digits_after, digits_number, fitting}
use Rattle.sw_lang.specs.Reading.{key_value}
use Rattle.sw_lang.specs.Replies.{padded_digits}

-- one more digit
abbrev pub more : ℕ → ℕ → ℕ
more n d = n * 10 + (d - 48)

-- two tests that pass pass together
pub and_both : (a b : Bool) → a ≡ true → b ≡ true → (a && b) ≡ true
and_both a b h k = rw (h, k) refl

-- what holds of the bytes of two texts holds of both together
pub all_both : (p : ℕ → Bool) (xs ys : List ℕ) → list_all p xs ≡ true → list_all p ys ≡ true → list_all p (xs ++ ys) ≡ true
all_both p xs ys h k = list_all-append p xs ys ∙ and_both (list_all p xs) (list_all p ys) h k

digit-is : (n : ℕ) → n < 10 → is_ascii_digit (48 + n) ≡ true
digit-is n h = grind (arith, nat_tests)

-- digits that write r, whatever stands before them
pub record Writes (r : ℕ) (ds : List ℕ) : Type 0 where
  pub some : 0 < length ds
  pub digits : list_all is_ascii_digit ds ≡ true
  pub after : (m : ℕ) → fold more m ds ≡ m * 10 ^ length ds + r

one-digit : (n : ℕ) → n < 10 → Writes n ((48 + n) ∷ [])
one-digit n h = record { some = omega arith; digits = and_both (is_ascii_digit (48 + n)) true (digit-is n h) refl; after = λ m. omega arith }

one-more : (n : ℕ) (ds : List ℕ) → 10 ≤ n → Writes (n / 10) ds → Writes n (ds ++ (48 + n % 10) ∷ [])
one-more n ds h w = record {
  some = omega (arith, length-append ds ((48 + n % 10) ∷ []));
  digits = all_both is_ascii_digit ds ((48 + n % 10) ∷ []) w.digits (and_both (is_ascii_digit (48 + n % 10)) true (digit-is (n % 10) (omega arith)) refl);
  after = λ m.
      let long : length (ds ++ (48 + n % 10) ∷ []) ≡ suc (length ds) = omega (arith, length-append ds ((48 + n % 10) ∷ [])) in
      let power : 10 ^ suc (length ds) ≡ 10 ^ length ds * 10 = pow-suc 10 (length ds) in
      let product : m * (10 ^ length ds * 10) ≡ m * 10 ^ length ds * 10 = sym (mul_assoc m (10 ^ length ds) 10) in
      fold-append more m ds ((48 + n % 10) ∷ []) ∙ ap (λ k. more k (48 + n % 10)) (w.after m) ∙ rw (long, power, product) (omega arith);
}

-- the decimal digits of a number write it
pub decimal_writes : (n : ℕ) → n < 2 ^ 64 → Writes n (decimal n)
decimal_writes n h = decimal_by_steps Writes one-digit one-more n h

-- zeros before digits
zeros_write : (k r : ℕ) (ds : List ℕ) → Writes r ds → Writes r (replicate k 48 ++ ds)
zeros_write zero r ds w = w
zeros_write (suc k) r ds w =
    let more_zeros = zeros_write k r ds w in
    let rest : List ℕ = replicate k 48 ++ ds in
    record {
      some = omega arith;
      digits = and_both true (list_all is_ascii_digit rest) refl more_zeros.digits;
      after = λ m.
          let power : 10 ^ suc (length rest) ≡ 10 ^ length rest * 10 = pow-suc 10 (length rest) in
          let zero_more : m * 10 + 0 ≡ m * 10 = omega arith in
          let product : (m * 10 + 0) * 10 ^ length rest ≡ m * (10 ^ length rest * 10) = ap (λ k. k * 10 ^ length rest) zero_more ∙ mul_assoc m 10 (10 ^ length rest) ∙ ap (λ k. m * k) (mul_comm 10 (10 ^ length rest)) in
          more_zeros.after (m * 10 + 0) ∙ rw (power, product) refl;
    }

-- just so many decimals
pub decimals_write : (places r : ℕ) → 0 < places → r < 10 ^ places → r < 2 ^ 64 → Writes r (padded_digits places (decimal r)) × (length (padded_digits places (decimal r)) ≡ places)
decimals_write places r some fits small =
    let few : length (decimal r) ≤ places = length-decimal-le places r some fits small in
    (zeros_write (places - length (decimal r)) r (decimal r) (decimal_writes r small), omega (arith, few, length-append (replicate (places - length (decimal r)) 48) (decimal r), length-replicate {A = ℕ} (places - length (decimal r)) 48))

-- ---- keys

digits_read : (n : ℕ) (cs : List ℕ) → list_all is_ascii_digit cs ≡ true → digits_after n cs ≡ Some (fold more n cs)
digits_read n [] h = refl
digits_read n (c ∷ cs) h =
    let parts = and_parts (is_ascii_digit c) (list_all is_ascii_digit cs) h in
    rw parts.0 (digits_read (more n c) cs parts.1)

number_read : (cs : List ℕ) → 0 < length cs → list_all is_ascii_digit cs ≡ true → digits_number cs ≡ Some (fold more 0 cs)
number_read [] some h = absurd (omega arith)
number_read (c ∷ cs) some h = digits_read 0 (c ∷ cs) h

-- a printed key is read back, and is one word of at most 20 bytes
pub key_back : (key : ℕ) → key < 2 ^ 64 → key_value (decimal key) ≡ Some key
key_back key h =
    let w = decimal_writes key h in
    let short : nat_lt 20 (length (decimal key)) ≡ false = le-ltb 20 (length (decimal key)) (length-decimal-le 20 key (omega arith) (omega arith) h) in
    let read : digits_number (decimal key) ≡ Some key = number_read (decimal key) w.some w.digits ∙ ap (λ n. Some n) (w.after 0 ∙ omega arith) in
    let fits : nat_lt key (2 ^ 64) ≡ true = lt-ltb key (2 ^ 64) h in
    rw (short, read, fits) refl

-- and a key that is read has 64 bits
pub key_fits : (w : List ℕ) (key : ℕ) → key_value w ≡ Some key → key < 2 ^ 64
key_fits w key h =
    let step = unless_some (nat_lt 20 (length w)) (fitting (digits_number w)) key h in
    let read = then_some (λ m. if nat_lt m (2 ^ 64) then Some m else None) (digits_number w) key step.1 in
    let fits = if_some (nat_lt read.0 (2 ^ 64)) (Some read.0) key read.2 in
    let same : read.0 ≡ key = same_Some read.0 key fits.1 in
    subst (λ n. n < 2 ^ 64) same (ltb-true read.0 (2 ^ 64) fits.0)
