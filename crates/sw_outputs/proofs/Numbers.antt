-- Numbers as they are written are numbers of JSON, and are read again.
use Rattle.std.proofs.Common.{◌≡◌, ◌∙◌, ap, sym, refl, subst, ℕ, zero, suc, ◌+◌, ◌-◌, ◌*◌, ◌/◌, ◌%◌, ◌^◌, ◌<◌, ◌≤◌, ℤ, pos, negsuc, neg_ℤ, true, cond, List, [], ◌∷◌, ◌++◌, length, drop, get_or, fold, decimal, codes, Some, append-nil, length-append, div-le_self, pow-suc, mul_assoc, arith}
use Rattle.std.proofs.lemmas.Bool.{and_parts, ne_eqb}
use Rattle.std.proofs.lemmas.Bool.Decides.{nat_tests}
use Rattle.std.proofs.lemmas.Fmt.{decimal_by_steps_wide}
use Rattle.std.proofs.lemmas.List.Sums.{fold-append}
use Rattle.std.proofs.lemmas.Nat.{div-add-mod', mod_below}
use Rattle.std.specs.Char.{is_ascii_digit}
use Rattle.std.specs.Fmt.{signed_decimal}
use Rattle.std.specs.List.{list_all, prefix_len}
use Rattle.std.specs.Prelude.{option_and_then, option_map}
use Rattle.json.specs.Print.{IsNumber}
use Rattle.json.specs.Word.{after_digits, after_exponent, after_fraction, after_minus, after_number, after_whole}
use Rattle.sw_rows.proofs.Tables.CellSpelling.{magnitude_read}
use Rattle.sw_rows.specs.Cells.{magnitude}
use Rattle.sw_rows.specs.Spelling.{fraction, number_of}
use Rattle.sw_lang.proofs.Printed.Digits.{all_both, and_both, decimals_write, more}
use Rattle.sw_lang.specs.Replies.{fixed_text, padded_digits, with_point}
use Rattle.sw_outputs.specs.JsonReading.{signed_number}

-- ---- digits

-- digits that write n, without a zero before others
record Written (n : ℕ) (ds : List ℕ) : Type 0 where
  some : 0 < length ds
  digits : list_all is_ascii_digit ds ≡ true
  after : (m : ℕ) → fold more m ds ≡ m * 10 ^ length ds + n
  first : 0 < n → 48 < get_or ds 0 0
  none : n ≡ 0 → ds ≡ 48 ∷ []

digit_is : (n : ℕ) → n < 10 → is_ascii_digit (48 + n) ≡ true
digit_is n h = grind (arith, nat_tests)

one_digit : (n : ℕ) → n < 10 → Written n ((48 + n) ∷ [])
one_digit n h = record {
  some = omega arith;
  digits = and_both (is_ascii_digit (48 + n)) true (digit_is n h) refl;
  after = λ m. omega arith;
  first = λ p. omega arith;
  none = λ e. ap (λ m. (48 + m) ∷ []) e;
}

first_stays : (ds xs : List ℕ) → 0 < length ds → get_or (ds ++ xs) 0 0 ≡ get_or ds 0 0
first_stays [] xs h = absurd (omega arith)
first_stays (d ∷ ds) xs h = refl

one_more : (n : ℕ) (ds : List ℕ) → 10 ≤ n → Written (n / 10) ds → Written n (ds ++ (48 + n % 10) ∷ [])
one_more n ds h w =
    let last : List ℕ = (48 + n % 10) ∷ [] in
    record {
      some = omega (arith, length-append ds last);
      digits = all_both is_ascii_digit ds last w.digits (and_both (is_ascii_digit (48 + n % 10)) true (digit_is (n % 10) (omega arith)) refl);
      after = λ m.
          let long : length (ds ++ last) ≡ suc (length ds) = omega (arith, length-append ds last) in
          let power : 10 ^ suc (length ds) ≡ 10 ^ length ds * 10 = pow-suc 10 (length ds) in
          let product : m * (10 ^ length ds * 10) ≡ m * 10 ^ length ds * 10 = sym (mul_assoc m (10 ^ length ds) 10) in
          fold-append more m ds last ∙ ap (λ k. more k (48 + n % 10)) (w.after m) ∙ rw (long, power, product) (omega arith);
      first = λ p. rw (first_stays ds last w.some) (w.first (omega arith));
      none = λ e. absurd (omega arith);
    }

written : (n : ℕ) → n < 10 ^ 64 → Written n (decimal n)
written n h = decimal_by_steps_wide Written one_digit one_more n h

-- ---- numbers of JSON

digit_least : (d : ℕ) → is_ascii_digit d ≡ true → 48 ≤ d
digit_least d h = grind (arith, nat_tests)

-- no digit stands first
abbrev Stops : List ℕ → Type 0
Stops rest = prefix_len is_ascii_digit rest ≡ 0

digits_pass : (ds rest : List ℕ) → list_all is_ascii_digit ds ≡ true → Stops rest → prefix_len is_ascii_digit (ds ++ rest) ≡ length ds
digits_pass [] rest h stops = stops
digits_pass (d ∷ ds) rest h stops =
    let parts = and_parts (is_ascii_digit d) (list_all is_ascii_digit ds) h in
    ap (λ b. cond b (1 + prefix_len is_ascii_digit (ds ++ rest)) 0) parts.0 ∙ ap (λ n. 1 + n) (digits_pass ds rest parts.1 stops) ∙ omega arith

drop_own : (xs ys : List ℕ) → drop (length xs) (xs ++ ys) ≡ ys
drop_own [] ys = refl
drop_own (x ∷ xs) ys = drop_own xs ys

digits_after_is : (ds rest : List ℕ) → 0 < length ds → list_all is_ascii_digit ds ≡ true → Stops rest → after_digits (ds ++ rest) ≡ Some rest
digits_after_is ds rest some h stops =
    rw (digits_pass ds rest h stops, ne_eqb (length ds) 0 (λ e. omega arith)) (ap Some (drop_own ds rest))

whole_there : (d : ℕ) (ds rest : List ℕ) → 48 < d → list_all is_ascii_digit (d ∷ ds) ≡ true → Stops rest → after_whole ((d ∷ ds) ++ rest) ≡ Some rest
whole_there d ds rest first h stops = rw (ne_eqb d 48 (λ e. omega arith)) (digits_after_is (d ∷ ds) rest (omega arith) h stops)

whole_after : (n : ℕ) (ds rest : List ℕ) → Written n ds → Stops rest → after_whole (ds ++ rest) ≡ Some rest
whole_after zero ds rest w stops = ap (λ l. after_whole (l ++ rest)) (w.none refl)
whole_after (suc n) [] rest w stops = absurd (omega (arith, w.some))
whole_after (suc n) (d ∷ ds) rest w stops = whole_there d ds rest (w.first (omega arith)) w.digits stops

no_minus : (ds rest : List ℕ) → 0 < length ds → list_all is_ascii_digit ds ≡ true → after_minus (ds ++ rest) ≡ ds ++ rest
no_minus [] rest some h = absurd (omega arith)
no_minus (d ∷ ds) rest some h =
    let parts = and_parts (is_ascii_digit d) (list_all is_ascii_digit ds) h in
    let least : 48 ≤ d = digit_least d parts.0 in
    rw (ne_eqb d 45 (λ e. omega arith)) refl

fraction_stops : (ps : List ℕ) → Stops (fraction ps)
fraction_stops [] = refl
fraction_stops (p ∷ ps) = refl

fraction_after : (ps : List ℕ) → list_all is_ascii_digit ps ≡ true → after_fraction (fraction ps) ≡ Some []
fraction_after [] h = refl
fraction_after (p ∷ ps) h = ap after_digits (sym (append-nil (p ∷ ps))) ∙ digits_after_is (p ∷ ps) [] (omega arith) h refl

unsigned_after : (n : ℕ) (ds ps : List ℕ) → Written n ds → list_all is_ascii_digit ps ≡ true
    → option_and_then after_exponent (option_and_then after_fraction (after_whole (ds ++ fraction ps))) ≡ Some []
unsigned_after n ds ps w h =
    ap (λ o. option_and_then after_exponent (option_and_then after_fraction o)) (whole_after n ds (fraction ps) w (fraction_stops ps))
    ∙ ap (option_and_then after_exponent) (fraction_after ps h)

unsigned_number : (n : ℕ) (ds ps : List ℕ) → Written n ds → list_all is_ascii_digit ps ≡ true → IsNumber (ds ++ fraction ps)
unfolding after_number
unsigned_number n ds ps w h =
    ap (λ t. option_and_then after_exponent (option_and_then after_fraction (after_whole t))) (no_minus ds (fraction ps) w.some w.digits)
    ∙ unsigned_after n ds ps w h

negative_number : (n : ℕ) (ds ps : List ℕ) → Written n ds → list_all is_ascii_digit ps ≡ true → IsNumber (45 ∷ (ds ++ fraction ps))
unfolding after_number
negative_number n ds ps w h = unsigned_after n ds ps w h

-- ---- magnitudes

-- what is printed of a magnitude: digits, and decimals behind a dot
record Printed (places n : ℕ) (text : List ℕ) : Type 0 where
  part : ℕ
  whole : List ℕ
  decimals : List ℕ
  text_is : text ≡ whole ++ fraction decimals
  whole_is : Written part whole
  decimal_digits : list_all is_ascii_digit decimals ≡ true
  count : length decimals ≡ places
  value : number_of (whole ++ decimals) ≡ n

whole_printed : (n : ℕ) → n < 10 ^ 64 → Printed 0 n (decimal n)
whole_printed n h =
    let w = written n h in
    record {
      part = n;
      whole = decimal n;
      decimals = [];
      text_is = sym (append-nil (decimal n));
      whole_is = w;
      decimal_digits = refl;
      count = refl;
      value = ap number_of (append-nil (decimal n)) ∙ w.after 0 ∙ omega arith;
    }

some_fraction : (ds : List ℕ) → 0 < length ds → codes "." ++ ds ≡ fraction ds
some_fraction [] h = absurd (omega arith)
some_fraction (d ∷ ds) h = refl

point_printed : (places n : ℕ) → 1 ≤ places → 10 ^ places ≤ 1000000 → 0 < 10 ^ places → n < 10 ^ 64 → Printed places n (with_point places n)
point_printed places n some small positive h =
    let part : ℕ = n / 10 ^ places in
    let rest : ℕ = n % 10 ^ places in
    let below : rest < 10 ^ places = mod_below n (10 ^ places) positive in
    let fits : part < 10 ^ 64 = omega (arith, div-le_self n (10 ^ places)) in
    let w = written part fits in
    let d = decimals_write places rest (omega arith) below (omega arith) in
    let ds : List ℕ = padded_digits places (decimal rest) in
    let there : 0 < length ds = omega (arith, d.1) in
    record {
      part = part;
      whole = decimal part;
      decimals = ds;
      text_is = ap (λ t. decimal part ++ t) (some_fraction ds there);
      whole_is = w;
      decimal_digits = d.0.digits;
      count = d.1;
      value = fold-append more 0 (decimal part) ds ∙ ap (λ m. fold more m ds) (w.after 0 ∙ omega arith) ∙ d.0.after part ∙ ap (λ k. part * 10 ^ k + rest) d.1 ∙ div-add-mod' n (10 ^ places);
    }

fixed_printed : (places n : ℕ) → 1 ≤ places → places ≤ 6 → n < 10 ^ 64 → Printed places n (with_point places n)
fixed_printed zero n some few h = absurd (omega arith)
fixed_printed (suc zero) n some few h = point_printed 1 n (omega arith) (omega arith) (omega arith) h
fixed_printed (suc (suc zero)) n some few h = point_printed 2 n (omega arith) (omega arith) (omega arith) h
fixed_printed (suc (suc (suc zero))) n some few h = point_printed 3 n (omega arith) (omega arith) (omega arith) h
fixed_printed (suc (suc (suc (suc zero)))) n some few h = point_printed 4 n (omega arith) (omega arith) (omega arith) h
fixed_printed (suc (suc (suc (suc (suc zero))))) n some few h = point_printed 5 n (omega arith) (omega arith) (omega arith) h
fixed_printed (suc (suc (suc (suc (suc (suc zero)))))) n some few h = point_printed 6 n (omega arith) (omega arith) (omega arith) h
fixed_printed (suc (suc (suc (suc (suc (suc (suc p))))))) n some few h = absurd (omega arith)

no_shift : (places count n m : ℕ) → count ≡ places → n ≡ m → n * 10 ^ (places - count) ≡ m
no_shift places count n m same is =
    let none : places - count ≡ 0 = omega arith in
    rw (none, is) (omega arith)

magnitude_back : (places n : ℕ) (text : List ℕ) → Printed places n text → magnitude places text ≡ Some n
magnitude_back places n text p =
    let few : length p.decimals ≤ places = omega (arith, p.count) in
    ap (magnitude places) p.text_is
    ∙ magnitude_read places p.whole p.decimals p.whole_is.some p.whole_is.digits p.decimal_digits few
    ∙ ap Some (no_shift places (length p.decimals) (number_of (p.whole ++ p.decimals)) n p.count p.value)

-- ---- numbers with a sign

digits_first : (places : ℕ) (ds rest : List ℕ) → 0 < length ds → list_all is_ascii_digit ds ≡ true → signed_number places (ds ++ rest) ≡ option_map pos (magnitude places (ds ++ rest))
digits_first places [] rest some h = absurd (omega arith)
digits_first places (d ∷ ds) rest some h =
    let parts = and_parts (is_ascii_digit d) (list_all is_ascii_digit ds) h in
    let least : 48 ≤ d = digit_least d parts.0 in
    rw (ne_eqb d 45 (λ e. omega arith)) refl

-- how a printed number is read, and that JSON has it
pub record IsRead (places : ℕ) (text : List ℕ) (z : ℤ) : Type 0 where
  pub number : IsNumber text
  pub value : signed_number places text ≡ Some z

above : (places n : ℕ) (text : List ℕ) → Printed places n text → IsRead places text (pos n)
above places n text p = record {
  number = subst IsNumber (sym p.text_is) (unsigned_number p.part p.whole p.decimals p.whole_is p.decimal_digits);
  value = ap (signed_number places) p.text_is ∙ digits_first places p.whole (fraction p.decimals) p.whole_is.some p.whole_is.digits
      ∙ ap (λ t. option_map pos (magnitude places t)) (sym p.text_is) ∙ ap (option_map pos) (magnitude_back places n text p);
}

below : (places n m : ℕ) (text : List ℕ) → m ≡ suc n → Printed places m text → IsRead places (45 ∷ text) (negsuc n)
below places n m text next p = record {
  number = subst (λ t. IsNumber (45 ∷ t)) (sym p.text_is) (negative_number p.part p.whole p.decimals p.whole_is p.decimal_digits);
  value = ap (option_map (λ k. neg_ℤ (pos k))) (magnitude_back places m text p) ∙ ap (λ k. Some (neg_ℤ (pos k))) next;
}

-- so small that its digits are at most 64
abbrev pub IsSmall : ℤ → Type 0
IsSmall (pos n) = n < 10 ^ 64
IsSmall (negsuc n) = suc n < 10 ^ 64

-- a whole number as it is written is a number of JSON, and is read as it
pub whole_read : (z : ℤ) → IsSmall z → IsRead 0 (signed_decimal z) z
whole_read (pos n) h = above 0 n (decimal n) (whole_printed n h)
whole_read (negsuc n) h = below 0 n (suc n) (decimal (suc n)) refl (whole_printed (suc n) h)

-- so is a number with one to six decimals
pub fixed_read : (places : ℕ) (z : ℤ) → 1 ≤ places → places ≤ 6 → IsSmall z → IsRead places (fixed_text places z) z
fixed_read places (pos n) some few h = above places n (with_point places n) (fixed_printed places n some few h)
fixed_read places (negsuc n) some few h = below places n (n + 1) (with_point places (n + 1)) (omega arith) (fixed_printed places (n + 1) some few (omega arith))

-- ---- whole numbers from 0

-- a count as it is written is a number of JSON
pub count_number : (n : ℕ) → n < 10 ^ 64 → IsNumber (decimal n)
count_number n h = (whole_read (pos n) h).number

-- a count as it is written is read as it
pub count_read : (n : ℕ) → n < 10 ^ 64 → magnitude 0 (decimal n) ≡ Some n
count_read n h = magnitude_back 0 n (decimal n) (whole_printed n h)
