-- The tokens of a line, told from the left.
use Rattle.std.specs.Prelude.{ℕ, Bool, false, ◌||◌, ◌&&◌, List, [], ◌∷◌, ◌++◌, drop, slice_index, ◌==◌, if◌then◌else◌, ◌≡◌, ◌<◌, ◌+◌, length, take}
use Rattle.sw_rows.specs.Header.{is_name_byte}
use Rattle.sw_rows.specs.declared.schema.texts.TheConstants.{MOST_BYTES_OF_TEXT}
use Rattle.sw_lang.specs.declared.reading.token.Op.{Op}
use Rattle.sw_lang.specs.declared.reading.token.Op.TheVariants.{Lt, Le, Eq, Ge, Gt}
use Rattle.sw_lang.specs.declared.reading.token.Token.{Token}
use Rattle.sw_lang.specs.declared.reading.token.Token.TheVariants as token

-- a token without where it lies in memory
pub data Tok : Type 0 where
  word : List ℕ → Tok
  op : Op → Tok
  comma : Tok
  quoted : List ℕ → Tok
  stray : Tok

-- the bytes without the second of each two quotes; where `held`, the first of two stands before them
abbrev pub undoubled_after : (held : Bool) → List ℕ → List ℕ
undoubled_after held [] = []
undoubled_after held (b ∷ bs) =
    if held && b == 39 then undoubled_after false bs else b ∷ undoubled_after (b == 39) bs

-- the text whose quotes have these bytes between them: two quotes are one
abbrev pub undoubled : List ℕ → List ℕ
undoubled raw = undoubled_after false raw

abbrev pub tok : Token → Tok
tok (token.Word w) = word w.now
tok (token.Quoted raw) = quoted (undoubled raw.now)
tok (token.Op o) = op o
tok token.Comma = comma
tok token.Stray = stray

-- a letter, a digit, '_', '.', '+' or '-'
abbrev pub is_word_byte : ℕ → Bool
is_word_byte b = is_name_byte b || b == 46 || b == 43 || b == 45

-- a space or a tab
abbrev pub is_blank : ℕ → Bool
is_blank b = b == 32 || b == 9

-- a word ends before these tokens, where a run of word bytes stands
abbrev pub ended : List ℕ → List Tok → List Tok
ended [] ts = ts
ended (b ∷ bs) ts = word (b ∷ bs) ∷ ts

-- the longer operator where '=' is the next byte, whose own token is then left out
abbrev pub or_equal : Op → Op → ℕ → List Tok → List Tok
or_equal short long next ts = if next == 61 then op long ∷ drop 1 ts else op short ∷ ts

-- a byte of no word, before the next byte and the tokens from there on: a blank and a quote add none
abbrev pub mark : ℕ → ℕ → List Tok → List Tok
mark b next ts =
    if is_blank b || b == 39 then ts
    else if b == 44 then comma ∷ ts
    else if b == 61 then op Eq ∷ ts
    else if b == 60 then or_equal Lt Le next ts
    else if b == 62 then or_equal Gt Ge next ts
    else stray ∷ ts

-- what stands before a byte: a run of word bytes, perhaps none; the text so far inside quotes; or such a text and a
-- quote, which closes it unless the byte is a quote too
pub data Spot : Type 0 where
  run : List ℕ → Spot
  inside : List ℕ → Spot
  behind : List ℕ → Spot

-- what stands before the next byte
abbrev pub after_run : List ℕ → ℕ → Spot
after_run w b = if is_word_byte b then run (w ++ b ∷ []) else if b == 39 then inside [] else run []

abbrev pub step : Spot → ℕ → Spot
step (run w) b = after_run w b
step (inside t) b = if b == 39 then behind t else inside (t ++ b ∷ [])
step (behind t) b = if b == 39 then inside (t ++ b ∷ []) else after_run [] b

-- what a byte adds before the tokens from the next byte on
abbrev pub put_after_run : List ℕ → ℕ → ℕ → List Tok → List Tok
put_after_run w b next ts = if is_word_byte b then ts else ended w (mark b next ts)

abbrev pub put : Spot → ℕ → ℕ → List Tok → List Tok
put (run w) b next ts = put_after_run w b next ts
put (inside t) b next ts = ts
put (behind t) b next ts = if b == 39 then ts else quoted t ∷ put_after_run [] b next ts

-- the tokens that the end of the line adds: quotes that are not closed are a stray token
abbrev pub at_end : Spot → List Tok
at_end (run w) = ended w []
at_end (inside t) = stray ∷ []
at_end (behind t) = quoted t ∷ []

-- the tokens of bytes before which this stands
abbrev pub tokens_after : Spot → List ℕ → List Tok
tokens_after spot [] = at_end spot
tokens_after spot (b ∷ bs) = put spot b (slice_index bs 0) (tokens_after (step spot b) bs)

abbrev pub tokens : List ℕ → List Tok
tokens text = tokens_after (run []) text

-- the bytes from the first on that is no space and no tab
abbrev pub after_blanks : List ℕ → List ℕ
after_blanks [] = []
after_blanks (b ∷ bs) = if is_blank b then after_blanks bs else b ∷ bs

-- a text that begins behind a quote has no quote that closes it; or the n-th byte is that quote
abbrev pub IsUnclosed : List ℕ → Type 0
IsUnclosed text = tokens_after (inside []) text ≡ stray ∷ []

abbrev pub IsClosedAt : List ℕ → ℕ → Type 0
IsClosedAt text n =
    tokens_after (inside []) text ≡ quoted (undoubled (take n text)) ∷ tokens (drop (n + 1) text)

-- the text between quotes is longer than that of a cell may be
abbrev pub IsTooLong : List ℕ → Type 0
IsTooLong raw = MOST_BYTES_OF_TEXT < length (undoubled raw)
