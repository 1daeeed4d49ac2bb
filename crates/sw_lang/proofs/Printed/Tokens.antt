-- The tokens of a text that is put together from words and what stands between them.
use Rattle.std.proofs.Common.{◌≡◌, ◌∙◌, ap, refl, ℕ, ◌<◌, true, false, List, [], ◌∷◌, ◌++◌, length, append_assoc, append-nil, codes, slice_index, arith}
use Rattle.std.specs.List.{list_all}
use Rattle.std.proofs.lemmas.Bool.{and_parts}
use Rattle.sw_lang.specs.declared.reading.token.Op.{Op}
use Rattle.sw_lang.specs.declared.reading.token.Op.TheVariants.{Lt, Le, Eq, Ge, Gt}
use Rattle.sw_lang.specs.Tokens.{word, op, comma, run, is_word_byte, tokens, tokens_after}

-- one word byte or more
pub record IsRun (w : List ℕ) : Type 0 where
  pub some : 0 < length w
  pub bytes : list_all is_word_byte w ≡ true

-- no word goes on into what follows
abbrev pub Stops : List ℕ → Type 0
Stops rest = is_word_byte (slice_index rest 0) ≡ false

run-goes : (w front rest : List ℕ) → list_all is_word_byte w ≡ true → tokens_after (run front) (w ++ rest) ≡ tokens_after (run (front ++ w)) rest
run-goes [] front rest h = rw append-nil refl
run-goes (b ∷ bs) front rest h =
    let parts = and_parts (is_word_byte b) (list_all is_word_byte bs) h in
    let more = run-goes bs (front ++ b ∷ []) rest parts.1 in
    rw parts.0 (more ∙ ap (λ w. tokens_after (run w) rest) (append_assoc front (b ∷ []) bs))

word_ends : (b : ℕ) (bs rest : List ℕ) → Stops rest → tokens_after (run (b ∷ bs)) rest ≡ word (b ∷ bs) ∷ tokens rest
word_ends b bs [] h = refl
word_ends b bs (c ∷ cs) h = rw h refl

-- a run before what ends it is a word
pub front_word : (w rest : List ℕ) → IsRun w → Stops rest → tokens (w ++ rest) ≡ word w ∷ tokens rest
front_word [] rest r h = absurd (omega (arith, r.some))
front_word (b ∷ bs) rest r h = run-goes (b ∷ bs) [] rest r.bytes ∙ word_ends b bs rest h

-- an operator with its spaces
abbrev pub op_text : Op → List ℕ
op_text Lt = codes " < "
op_text Le = codes " <= "
op_text Eq = codes " = "
op_text Ge = codes " >= "
op_text Gt = codes " > "

-- no word goes on into an operator
pub op_stops : (o : Op) (rest : List ℕ) → Stops (op_text o ++ rest)
op_stops Lt rest = refl
op_stops Le rest = refl
op_stops Eq rest = refl
op_stops Ge rest = refl
op_stops Gt rest = refl

-- an operator at the front is one token
pub front_op : (o : Op) (rest : List ℕ) → tokens (op_text o ++ rest) ≡ op o ∷ tokens rest
front_op Lt rest = refl
front_op Le rest = refl
front_op Eq rest = refl
front_op Ge rest = refl
front_op Gt rest = refl

-- a comma and a blank at the front are one token
pub front_comma : (rest : List ℕ) → tokens (codes ", " ++ rest) ≡ comma ∷ tokens rest
front_comma rest = refl

-- the word where between blanks is one token
pub front_where : (rest : List ℕ) → tokens (codes " where " ++ rest) ≡ word (codes "where") ∷ tokens rest
front_where rest = refl

-- the word and between blanks is one token
pub front_and : (rest : List ℕ) → tokens (codes " and " ++ rest) ≡ word (codes "and") ∷ tokens rest
front_and rest = refl
