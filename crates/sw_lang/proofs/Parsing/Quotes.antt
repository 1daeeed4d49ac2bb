-- Where the quotes of a text are closed.
use Rattle.std.proofs.Common.{◌≡◌, ◌∙◌, ap, sym, refl, ℕ, zero, suc, ◌+◌, ◌<◌, ◌≤◌, Bool, true, false, ◌==◌, ◌&&◌, List, [], ◌∷◌, ◌++◌, length, length-append, take, drop, append_assoc, append-nil, slice_index, arith}
use Rattle.std.proofs.lemmas.Bool.{eqb-true, false≢true}
use Rattle.std.proofs.lemmas.List.{drop_all, drop_more, get_or-drop, take_more}
use Rattle.sw_lang.specs.Tokens.{quoted, stray, inside, behind, tokens, tokens_after, undoubled, undoubled_after}

-- bytes up to here are read, all of them inside quotes
pub record Inside (text : List ℕ) (at : ℕ) : Type 0 where
  pub so_far : List ℕ
  pub same : tokens_after (inside []) text ≡ tokens_after (inside so_far) (drop at text)
  pub undone : (s : List ℕ) → undoubled (take at text ++ s) ≡ so_far ++ undoubled s

-- before a text nothing of it is read
pub nothing_read : (text : List ℕ) → Inside text 0
nothing_read text = record { so_far = []; same = refl; undone = λ s. refl }

-- ---- a step

goes_on : (t rest : List ℕ) (b : ℕ) → (b == 39) ≡ false → tokens_after (inside t) (b ∷ rest) ≡ tokens_after (inside (t ++ b ∷ [])) rest
goes_on t rest b e = rw e refl

stays : (b : ℕ) (s : List ℕ) → (b == 39) ≡ false → undoubled (b ∷ s) ≡ b ∷ undoubled s
stays b s e = rw e refl

-- a byte that is no quote stands inside
pub byte_read : (text : List ℕ) (at : ℕ) → Inside text at → at < length text → (slice_index text at == 39) ≡ false → Inside text (at + 1)
byte_read text at r h e =
    let b : ℕ = slice_index text at in
    record {
      so_far = r.so_far ++ b ∷ [];
      same = r.same ∙ ap (tokens_after (inside r.so_far)) (drop_more text at 0 h) ∙ goes_on r.so_far (drop (at + 1) text) b e;
      undone = λ s.
          ap (λ (w : List ℕ). undoubled (w ++ s)) (take_more text at 0 h)
          ∙ ap undoubled (append_assoc (take at text) (b ∷ []) s)
          ∙ r.undone (b ∷ s)
          ∙ ap (λ (w : List ℕ). r.so_far ++ w) (stays b s e)
          ∙ sym (append_assoc r.so_far (b ∷ []) (undoubled s));
    }

is_within : (text : List ℕ) (at : ℕ) → (slice_index text at == 39) ≡ true → at < length text
is_within [] at e = absurd (false≢true e)
is_within (b ∷ bs) zero e = omega arith
is_within (b ∷ bs) (suc at) e = omega (arith, is_within bs at e)

quote_left : (text : List ℕ) (at : ℕ) → (slice_index text at == 39) ≡ true → drop at text ≡ 39 ∷ drop (at + 1) text
quote_left text at e =
    drop_more text at 0 (is_within text at e) ∙ ap (λ (b : ℕ). b ∷ drop (at + 1) text) (eqb-true (slice_index text at) 39 e)

quote_taken : (text : List ℕ) (at : ℕ) → (slice_index text at == 39) ≡ true → take (at + 1) text ≡ take at text ++ 39 ∷ []
quote_taken text at e =
    take_more text at 0 (is_within text at e) ∙ ap (λ (b : ℕ). take at text ++ b ∷ []) (eqb-true (slice_index text at) 39 e)

-- two quotes together stand inside, for one
pub pair_read : (text : List ℕ) (at : ℕ) → Inside text at → (slice_index text at == 39) ≡ true → (slice_index text (at + 1) == 39) ≡ true → Inside text (at + 2)
pair_read text at r e f =
    let two : at + 1 + 1 ≡ at + 2 = omega arith in
    let left : drop at text ≡ 39 ∷ 39 ∷ drop (at + 2) text =
    quote_left text at e ∙ ap (λ (w : List ℕ). 39 ∷ w) (quote_left text (at + 1) f ∙ ap (λ n. 39 ∷ drop n text) two) in
    let taken : take (at + 2) text ≡ (take at text ++ 39 ∷ []) ++ 39 ∷ [] =
    ap (λ n. take n text) (sym two) ∙ quote_taken text (at + 1) f ∙ ap (λ (w : List ℕ). w ++ 39 ∷ []) (quote_taken text at e) in
    record {
      so_far = r.so_far ++ 39 ∷ [];
      same = r.same ∙ ap (tokens_after (inside r.so_far)) left;
      undone = λ s.
          ap (λ (w : List ℕ). undoubled (w ++ s)) taken
          ∙ ap undoubled (append_assoc (take at text ++ 39 ∷ []) (39 ∷ []) s ∙ append_assoc (take at text) (39 ∷ []) (39 ∷ s))
          ∙ r.undone (39 ∷ 39 ∷ s)
          ∙ sym (append_assoc r.so_far (39 ∷ []) (undoubled s));
    }

-- ---- the end

-- a quote that no other follows has closed the text
pub closed_before : (t rest : List ℕ) → (slice_index rest 0 == 39) ≡ false → tokens_after (behind t) rest ≡ quoted t ∷ tokens rest
closed_before t [] e = refl
closed_before t (b ∷ bs) e = rw e refl

-- a quote inside that no other follows closes the text there
pub closed_at : (text : List ℕ) (at : ℕ) → Inside text at → (slice_index text at == 39) ≡ true → (slice_index text (at + 1) == 39) ≡ false
    → tokens_after (inside []) text ≡ quoted (undoubled (take at text)) ∷ tokens (drop (at + 1) text)
closed_at text at r e f =
    let next : slice_index (drop (at + 1) text) 0 ≡ slice_index text (at + 1) =
    get_or-drop (at + 1) text 0 0 ∙ ap (λ n. slice_index text n) (omega arith) in
    let all : r.so_far ≡ undoubled (take at text) =
    sym (append-nil r.so_far) ∙ sym (r.undone []) ∙ ap undoubled (append-nil (take at text)) in
    r.same
    ∙ ap (tokens_after (inside r.so_far)) (quote_left text at e)
    ∙ closed_before r.so_far (drop (at + 1) text) (ap (λ n. n == 39) next ∙ f)
    ∙ ap (λ (t : List ℕ). quoted t ∷ tokens (drop (at + 1) text)) all

-- a text that ends inside is a stray quote
pub never_closed : (text : List ℕ) (at : ℕ) → Inside text at → length text ≤ at → tokens_after (inside []) text ≡ stray ∷ []
never_closed text at r h = r.same ∙ ap (tokens_after (inside r.so_far)) (drop_all at text h)

-- ---- the text of its bytes

-- what is still to be read makes the whole longer
pub too_long : (held : Bool) (front rest whole : List ℕ) → 1 ≤ length rest → (held && slice_index rest 0 == 39) ≡ false → front ++ undoubled_after held rest ≡ whole → length front < length whole
too_long held front [] whole some e is = absurd (omega (arith, some))
too_long held front (b ∷ bs) whole some e is =
    let more : undoubled_after held (b ∷ bs) ≡ b ∷ undoubled_after (b == 39) bs = rw e refl in
    let long : length whole ≡ length (front ++ b ∷ undoubled_after (b == 39) bs) = ap length (sym is ∙ ap (λ (w : List ℕ). front ++ w) more) in
    omega (arith, long, length-append front (b ∷ undoubled_after (b == 39) bs))
