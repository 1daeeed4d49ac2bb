-- A text in quotes is UTF-8 as the text is, and has just the text's other bytes.
use Rattle.std.proofs.Common.{◌≡◌, ◌∙◌, ap, sym, refl, subst, ℕ, ◌==◌, ◌≤◌, ◌+◌, ◌/◌, ◌%◌, ◌&&◌, Bool, true, false, not, cond, List, [], ◌∷◌, ◌++◌, arith, IsUtf8, true≢false, ltb-false, nat_lt}
use Rattle.std.proofs.Math.Utf8.{encode, encodes, scalar, scalars}
use Rattle.std.proofs.lemmas.Bool.{and_from, and_parts, cond-false}
use Rattle.std.proofs.lemmas.Bool.Decides.{nat_tests}
use Rattle.std.proofs.lemmas.Str.{IsUtf8-append, IsUtf8-encode, IsUtf8-nil}
use Rattle.std.specs.List.{list_all}
use Rattle.sw_lang.specs.Replies.{doubled, quoted_text}

abbrev plain : List ℕ → Bool
plain bs = list_all (λ b. not (b == 39)) bs

not_quote : (b : ℕ) → 128 ≤ b → not (b == 39) ≡ true
not_quote b h = grind (arith, nat_tests, h)

-- the bytes of a character past ASCII are no quotes
high_plain : (c : ℕ) → 128 ≤ c → plain (encode c) ≡ true
unfolding encode
high_plain c h = rw (past c h) (by_size (nat_lt c 2048) (nat_lt c 65536))
  where
    past : (d : ℕ) → 128 ≤ d → nat_lt d 128 ≡ false
    past d k = grind (arith, nat_tests, k)

    by_size : (p q : Bool) → plain (cond p ((192 + c / 64) ∷ (128 + c % 64) ∷ []) (cond q ((224 + c / 4096) ∷ (128 + (c / 64) % 64) ∷ (128 + c % 64) ∷ []) ((240 + c / 262144) ∷ (128 + (c / 4096) % 64) ∷ (128 + (c / 64) % 64) ∷ (128 + c % 64) ∷ []))) ≡ true
    by_size true q = rw (not_quote (192 + c / 64) (omega arith), not_quote (128 + c % 64) (omega arith)) refl
    by_size false true = rw (not_quote (224 + c / 4096) (omega arith), not_quote (128 + (c / 64) % 64) (omega arith), not_quote (128 + c % 64) (omega arith)) refl
    by_size false false = rw (not_quote (240 + c / 262144) (omega arith), not_quote (128 + (c / 4096) % 64) (omega arith), not_quote (128 + (c / 64) % 64) (omega arith), not_quote (128 + c % 64) (omega arith)) refl

doubled_plain : (xs ys : List ℕ) → plain xs ≡ true → doubled (xs ++ ys) ≡ xs ++ doubled ys
doubled_plain [] ys h = refl
doubled_plain (x ∷ xs) ys h =
    let parts = and_parts (not (x == 39)) (plain xs) h in
    cond-false (x == 39) (39 ∷ 39 ∷ doubled (xs ++ ys)) (x ∷ doubled (xs ++ ys)) (other (x == 39) parts.0) ∙ ap (λ bs. x ∷ bs) (doubled_plain xs ys parts.1)
  where
    other : (b : Bool) → not b ≡ true → b ≡ false
    other true e = sym e
    other false e = refl

one_quote : IsUtf8 (39 ∷ [])
unfolding encode
one_quote = IsUtf8-encode 39 refl

two_quotes : IsUtf8 (39 ∷ 39 ∷ [])
two_quotes = IsUtf8-append (39 ∷ []) (39 ∷ []) one_quote one_quote

quote_is : (c : ℕ) (b : Bool) → (c == 39) ≡ b → not b ≡ false → c ≡ 39
quote_is c true e k = grind (arith, nat_tests, e)
quote_is c false e k = absurd (true≢false k)

first_of : (a : Bool) → (a && true) ≡ false → a ≡ false
first_of true k = k
first_of false k = refl

low_quote : (c : ℕ) → nat_lt c 128 ≡ true → plain (encode c) ≡ false → c ≡ 39
unfolding encode
low_quote c low none =
    let one : plain (c ∷ []) ≡ false = rw low at none in
    quote_is c (c == 39) refl (first_of (not (c == 39)) one)

-- a character among whose bytes is a quote is one
is_quote : (c : ℕ) → plain (encode c) ≡ false → c ≡ 39
is_quote c none = by_low (nat_lt c 128) refl
  where
    by_low : (b : Bool) → nat_lt c 128 ≡ b → c ≡ 39
    by_low true e = low_quote c e none
    by_low false e = absurd (true≢false (sym (high_plain c (ltb-false c 128 e)) ∙ none))

quote_doubled : (bs : List ℕ) → IsUtf8 (doubled bs) → IsUtf8 (doubled (encode 39 ++ bs))
unfolding encode
quote_doubled bs more = IsUtf8-append (39 ∷ 39 ∷ []) (doubled bs) two_quotes more

chars_doubled : (cs : List ℕ) → scalars cs ≡ true → IsUtf8 (doubled (encodes cs))
chars_doubled [] h = IsUtf8-nil
chars_doubled (c ∷ cs) h =
    let parts = and_parts (scalar c) (scalars cs) h in
    by_char (plain (encode c)) refl parts.0 (chars_doubled cs parts.1)
  where
    by_char : (b : Bool) → plain (encode c) ≡ b → scalar c ≡ true → IsUtf8 (doubled (encodes cs)) → IsUtf8 (doubled (encode c ++ encodes cs))
    by_char true e k more = rw (doubled_plain (encode c) (encodes cs) e) (IsUtf8-append (encode c) (doubled (encodes cs)) (IsUtf8-encode c k) more)
    by_char false e k more = subst (λ d. IsUtf8 (doubled (encode d ++ encodes cs))) (sym (is_quote c e)) (quote_doubled (encodes cs) more)

doubled_utf8 : (t : List ℕ) → IsUtf8 t → IsUtf8 (doubled t)
doubled_utf8 t (cs, (ok, e)) = subst (λ bs. IsUtf8 (doubled bs)) e (chars_doubled cs ok)

-- a text in quotes is UTF-8 where the text is
pub quoted_utf8 : (t : List ℕ) → IsUtf8 t → IsUtf8 (quoted_text t)
quoted_utf8 t h = IsUtf8-append (39 ∷ []) (doubled t ++ 39 ∷ []) one_quote (IsUtf8-append (doubled t) (39 ∷ []) (doubled_utf8 t h) one_quote)

-- a test that holds of each byte and of a quote holds of each byte in quotes
doubled_all : (p : ℕ → Bool) (t : List ℕ) → p 39 ≡ true → list_all p t ≡ true → list_all p (doubled t) ≡ true
doubled_all p [] q h = refl
doubled_all p (b ∷ bs) q h =
    let parts = and_parts (p b) (list_all p bs) h in
    by_quote (b == 39) parts.0 (doubled_all p bs q parts.1)
  where
    by_quote : (x : Bool) → p b ≡ true → list_all p (doubled bs) ≡ true → list_all p (cond x (39 ∷ 39 ∷ doubled bs) (b ∷ doubled bs)) ≡ true
    by_quote true k more = and_from (p 39) (list_all p (39 ∷ doubled bs)) q (and_from (p 39) (list_all p (doubled bs)) q more)
    by_quote false k more = and_from (p b) (list_all p (doubled bs)) k more

all_last : (p : ℕ → Bool) (t : List ℕ) → p 39 ≡ true → list_all p t ≡ true → list_all p (t ++ 39 ∷ []) ≡ true
all_last p [] q h = and_from (p 39) true q refl
all_last p (b ∷ bs) q h =
    let parts = and_parts (p b) (list_all p bs) h in
    and_from (p b) (list_all p (bs ++ 39 ∷ [])) parts.0 (all_last p bs q parts.1)

-- what holds of a quote and of each byte of a text holds of each byte of it in quotes
pub quoted_all : (p : ℕ → Bool) (t : List ℕ) → p 39 ≡ true → list_all p t ≡ true → list_all p (quoted_text t) ≡ true
quoted_all p t q h = and_from (p 39) (list_all p (doubled t ++ 39 ∷ [])) q (all_last p (doubled t) q (doubled_all p t q h))
