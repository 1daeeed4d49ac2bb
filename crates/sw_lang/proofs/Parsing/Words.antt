-- A word is the longest run of its bytes.
use Rattle.std.proofs.Common.{◌≡◌, ◌∙◌, ℕ, suc, ◌+◌, ◌<◌, Bool, true, false, List, [], ◌∷◌, ◌++◌, length, take, drop, refl, append_assoc, arith}
use Rattle.std.specs.List.{prefix_len}
use Rattle.std.specs.Prelude.{slice_index, take_while}
use Rattle.std.proofs.lemmas.List.{append-nil}
use Rattle.std.proofs.lemmas.List.Folds.{length-prefix_len}
use Rattle.sw_lang.specs.Tokens.{Tok, word, ended, run, tokens, tokens_after, is_word_byte}

-- the bytes of a word at the front go onto the run before them
abbrev Front : List ℕ → List ℕ → Type 0
Front w s = tokens_after (run w) s ≡ ended (w ++ take_while is_word_byte s) (tokens (drop (prefix_len is_word_byte s) s))

front-step : (v : Bool) (b : ℕ) (bs w : List ℕ) → is_word_byte b ≡ v → ((r : List ℕ) → Front r bs) → Front w (b ∷ bs)
front-step true b bs w e ih =
    let n : ℕ = prefix_len is_word_byte bs in
    let one : 1 + n ≡ suc n = omega arith in
    let more = rw append_assoc at (ih (w ++ b ∷ [])) in
    rw (e, one) more
front-step false b bs w e ih = rw (e, append-nil, e) refl

word_front : (s w : List ℕ) → Front w s
word_front [] w = rw append-nil refl
word_front (b ∷ bs) w = front-step (is_word_byte b) b bs w refl (word_front bs)

ended-some : (w : List ℕ) (ts : List Tok) → 0 < length w → ended w ts ≡ word w ∷ ts
ended-some [] ts h = absurd (omega arith)
ended-some (b ∷ bs) ts h = refl

some_run : (s : List ℕ) → is_word_byte (slice_index s 0) ≡ true → 0 < prefix_len is_word_byte s
some_run [] h = absurd cc
some_run (b ∷ bs) h = rw h (omega arith)

-- the tokens of s are the word of the bytes w at its front, and those of the bytes after it
abbrev pub WordFront : List ℕ → List ℕ → Type 0
WordFront s w = tokens s ≡ word (take (length w) s) ∷ tokens (drop (length w) s)

-- a byte of a word at the front begins a word, the longest there is
pub tokens-word : (s : List ℕ) → is_word_byte (slice_index s 0) ≡ true → WordFront s (take_while is_word_byte s)
tokens-word s h =
    let len : length (take_while is_word_byte s) ≡ prefix_len is_word_byte s = length-prefix_len is_word_byte s in
    let some = some_run s h in
    rw len (word_front s [] ∙ ended-some (take_while is_word_byte s) (tokens (drop (prefix_len is_word_byte s) s)) (omega arith))
