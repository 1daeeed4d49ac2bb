-- The text of a text between quotes, as it is written and as it is read.
use Rattle.std.proofs.Common.{◌≡◌, ◌∙◌, ap, sym, refl, ℕ, zero, suc, ◌+◌, ◌*◌, ◌<◌, ◌≤◌, Bool, true, false, cond, not, ◌==◌, List, [], ◌∷◌, ◌++◌, length, length-append, take, drop, append_assoc, append-nil, codes, Some, None, slice_index, arith}
use Rattle.std.specs.Prelude.{position, nat_lt}
use Rattle.std.proofs.lemmas.Bool.{eqb-true, ltb-false}
use Rattle.std.proofs.lemmas.List.Quantifiers.{position-Some}
use Rattle.std.specs.List.{position_or_len, prefix_len}
use Rattle.sw_lang.specs.Replies.{doubled, quoted_text}
use Rattle.sw_lang.specs.Tokens.{quoted, inside, tokens, tokens_after, undoubled}
use Rattle.sw_lang.proofs.Parsing.Quotes.{closed_before}

-- ---- reading

inside-by : (v : Bool) (b : ℕ) (bs front rest : List ℕ) → (b == 39) ≡ v → ((front : List ℕ) → tokens_after (inside front) (doubled bs ++ rest) ≡ tokens_after (inside (front ++ bs)) rest)
    → tokens_after (inside front) (doubled (b ∷ bs) ++ rest) ≡ tokens_after (inside (front ++ b ∷ bs)) rest
inside-by true b bs front rest e ih =
    rw (eqb-true b 39 e) (ih (front ++ 39 ∷ []) ∙ ap (λ (w : List ℕ). tokens_after (inside w) rest) (append_assoc front (39 ∷ []) bs))
inside-by false b bs front rest e ih =
    let here : tokens_after (inside front) (b ∷ doubled bs ++ rest) ≡ tokens_after (inside (front ++ b ∷ [])) (doubled bs ++ rest) = rw e refl in
    let text : doubled (b ∷ bs) ≡ b ∷ doubled bs = rw e refl in
    ap (λ (w : List ℕ). tokens_after (inside front) (w ++ rest)) text
    ∙ here
    ∙ ih (front ++ b ∷ [])
    ∙ ap (λ (w : List ℕ). tokens_after (inside w) rest) (append_assoc front (b ∷ []) bs)

inside_goes : (t front rest : List ℕ) → tokens_after (inside front) (doubled t ++ rest) ≡ tokens_after (inside (front ++ t)) rest
inside_goes [] front rest = ap (λ (w : List ℕ). tokens_after (inside w) rest) (sym (append-nil front))
inside_goes (b ∷ bs) front rest = inside-by (b == 39) b bs front rest refl (λ f. inside_goes bs f rest)

-- a printed text before what is no quote is one token
pub front_quoted : (t rest : List ℕ) → (slice_index rest 0 == 39) ≡ false → tokens (quoted_text t ++ rest) ≡ quoted t ∷ tokens rest
front_quoted t rest e =
    ap (tokens_after (inside [])) (append_assoc (doubled t) (codes "'") rest)
    ∙ inside_goes t [] (39 ∷ rest)
    ∙ closed_before t rest e

undone-by : (v : Bool) (b : ℕ) (bs : List ℕ) → (b == 39) ≡ v → undoubled (doubled bs) ≡ bs → undoubled (doubled (b ∷ bs)) ≡ b ∷ bs
undone-by true b bs e ih = rw (eqb-true b 39 e) (ap (λ (w : List ℕ). 39 ∷ w) ih)
undone-by false b bs e ih =
    let text : doubled (b ∷ bs) ≡ b ∷ doubled bs = rw e refl in
    let here : undoubled (b ∷ doubled bs) ≡ b ∷ undoubled (doubled bs) = rw e refl in
    ap undoubled text ∙ here ∙ ap (λ (w : List ℕ). b ∷ w) ih

-- a text whose quotes were doubled and undoubled is the text
pub undoubled-doubled : (t : List ℕ) → undoubled (doubled t) ≡ t
undoubled-doubled [] = refl
undoubled-doubled (b ∷ bs) = undone-by (b == 39) b bs refl (undoubled-doubled bs)

-- ---- length

doubled-by : (v : Bool) (b : ℕ) (bs : List ℕ) → (b == 39) ≡ v → length (doubled bs) ≤ 2 * length bs → length (doubled (b ∷ bs)) ≤ 2 * length (b ∷ bs)
doubled-by true b bs e ih = rw e (omega (arith, ih))
doubled-by false b bs e ih = rw e (omega (arith, ih))

doubled_length : (t : List ℕ) → length (doubled t) ≤ 2 * length t
doubled_length [] = omega arith
doubled_length (b ∷ bs) = doubled-by (b == 39) b bs refl (doubled_length bs)

-- a text in quotes has two bytes more, and at most each byte twice
pub quoted_length : (t : List ℕ) → length (quoted_text t) ≤ 2 + 2 * length t
quoted_length t = omega (arith, doubled_length t, length-append (doubled t) (codes "'"))

-- ---- writing

run_at : (text : List ℕ) (n : ℕ) → n < length text → (slice_index text n == 39) ≡ true → ((k : ℕ) → k < n → (slice_index text k == 39) ≡ false)
    → doubled text ≡ (take n text ++ codes "''") ++ doubled (drop 1 (drop n text))
run_at [] n h e before = absurd (omega (arith, h))
run_at (b ∷ bs) zero h e before = rw (eqb-true b 39 e) refl
run_at (b ∷ bs) (suc n) h e before =
    let first : (b == 39) ≡ false = before 0 (omega arith) in
    let text : doubled (b ∷ bs) ≡ b ∷ doubled bs = rw first refl in
    text ∙ ap (λ (w : List ℕ). b ∷ w) (run_at bs n (omega (arith, h)) e (λ k lt. before (suc k) (omega (arith, lt))))

-- the bytes before the first quote, two quotes, and the bytes behind it
pub doubled_run : (text : List ℕ) (n : ℕ) → position (λ b. b == 39) text ≡ Some n → doubled text ≡ (take n text ++ codes "''") ++ doubled (drop 1 (drop n text))
doubled_run text n e =
    let p = position-Some (λ b. b == 39) text n 0 e in
    run_at text n p.0 p.1 p.2

none_by : (v : Bool) (b : ℕ) (bs : List ℕ) → (b == 39) ≡ v → length (b ∷ bs) ≤ prefix_len (λ x. not (x == 39)) (b ∷ bs) → (length bs ≤ prefix_len (λ x. not (x == 39)) bs → doubled bs ≡ bs) → doubled (b ∷ bs) ≡ b ∷ bs
none_by true b bs e h ih = absurd (omega (arith, rw e at h))
none_by false b bs e h ih =
    let rest : length bs ≤ prefix_len (λ x. not (x == 39)) bs = omega (arith, rw e at h) in
    rw e (ap (λ (w : List ℕ). b ∷ w) (ih rest))

none_in : (text : List ℕ) → length text ≤ prefix_len (λ x. not (x == 39)) text → doubled text ≡ text
none_in [] h = refl
none_in (b ∷ bs) h = none_by (b == 39) b bs refl h (none_in bs)

none_is : (v : Bool) (n : ℕ) → cond v (Some n) None ≡ None → v ≡ false
none_is true n e = absurd cc
none_is false n e = refl

-- a text without a quote is written as it is
pub no_quotes : (text : List ℕ) → position (λ b. b == 39) text ≡ None → doubled text ≡ text
no_quotes text e =
    let n : ℕ = position_or_len (λ b. b == 39) text in
    none_in text (ltb-false n (length text) (none_is (nat_lt n (length text)) n e))
