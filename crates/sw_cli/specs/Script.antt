-- The blocks of a script, and their calls.
use Rattle.std.specs.Prelude.{◌≡◌, ◌≤◌, ◌<◌, ◌+◌, ◌++◌, ◌&&◌, ℕ, Bool, All, List, [], ◌∷◌, bytes_eq, codes, drop, take, length, map, nat_le, nat_lt, Option, Some, None, Result, Ok, Err, if◌then◌else◌}
use Rattle.std.specs.List.{list_all}
use Rattle.std.specs.Str.{is_utf8}
use Rattle.bstr.specs.Text.{lines_of, without_terminator}
use Rattle.sw_rows.specs.Header.{Column}
use Rattle.sw_query.specs.declared.query.Call.{Call}
use Rattle.sw_query.specs.declared.refusal.Refusal.{Refusal}
use Rattle.sw_query.specs.declared.refusal.Refusal.TheVariants.{BadLine, TooMany}
use Rattle.sw_query.specs.declared.refusal.Why.TheVariants as why
use Rattle.sw_cli.specs.declared.script.TheConstants.{MOST_BLOCKS, MOST_CALLS}
use Rattle.sw_lang.specs.declared.reading.parse.TheConstants.{MOST_LINE}
use Rattle.sw_lang.specs.Learning.{learned}
use Rattle.sw_lang.specs.Reading.{line_at, refused}
use Rattle.sw_lang.specs.Tokens.{is_blank}
use Rattle.sw_spine.specs.History.{CallsBelow}
use Rattle.sw_histories.specs.Told.{◌>>=◌}

-- the lines of a script, each without the LF that ends it and a CR before that
abbrev pub script_lines : List ℕ → List (List ℕ)
script_lines text = map without_terminator (lines_of text)

-- whether a line divides blocks: it has at most 4,096 bytes, `---` and then spaces and tabs alone
abbrev pub is_divider : List ℕ → Bool
is_divider line =
    nat_le (length line) MOST_LINE && (bytes_eq (take 3 line) (codes "---") && list_all is_blank (drop 3 line))

-- the call of line n, if it has one, read over what is known with the texts of the line; its length is looked at first,
-- and then whether it is UTF-8
abbrev pub call_of_line : List Column → ℕ → List ℕ → Result (Option Call) Refusal
call_of_line columns n line =
    if nat_lt MOST_LINE (length line) then Err (BadLine n why.Length)
    else if is_utf8 line then refused n (line_at (learned columns line) line)
    else Err (BadLine n why.Encoding)

-- how many calls blocks have
abbrev pub calls_in : List (List Call) → ℕ
calls_in [] = 0
calls_in (b ∷ bs) = length b + calls_in bs

-- the lines so far: the attributes with the texts that are known by now, and the blocks, the last one apart
pub record SoFar : Type 0 where
  pub columns : List Column
  pub closed : List (List Call)
  pub last : List Call

abbrev pub so_far : List Column → List (List Call) → List Call → SoFar
so_far columns closed last = record { columns = columns; closed = closed; last = last }

abbrev pub all_blocks : SoFar → List (List Call)
all_blocks p = p.closed ++ p.last ∷ []

-- one more block begins; block 1,025 is too many
abbrev pub with_block : SoFar → Result SoFar Refusal
with_block p =
    if nat_lt (length (all_blocks p)) MOST_BLOCKS
    then Ok (so_far p.columns (all_blocks p) [])
    else Err (TooMany MOST_BLOCKS)

-- one more line's call, if it has one; call 1,048,577 of the script is too many
abbrev pub with_call : SoFar → Option Call → Result SoFar Refusal
with_call p None = Ok p
with_call p (Some c) =
    if nat_lt (calls_in p.closed + length p.last) MOST_CALLS
    then Ok (so_far p.columns p.closed (p.last ++ c ∷ []))
    else Err (TooMany MOST_CALLS)

-- the texts of one more line become known
abbrev pub learning : SoFar → List ℕ → SoFar
learning p line = so_far (learned p.columns line) p.closed p.last

-- one more line, which is line n; a line that divides blocks makes no text known
abbrev pub with_line : ℕ → SoFar → List ℕ → Result SoFar Refusal
with_line n p line =
    if is_divider line then with_block p else call_of_line p.columns n line >>= with_call (learning p line)

-- further lines, of which the first is line n
abbrev pub with_lines : ℕ → SoFar → List (List ℕ) → Result SoFar Refusal
with_lines n p [] = Ok p
with_lines n p (l ∷ ls) = with_line n p l >>= λ q. with_lines (n + 1) q ls

-- a script that was read: the attributes with the texts that are known after it, and the calls of its blocks
pub record Script : Type 0 where
  pub columns : List Column
  pub blocks : List (List Call)

abbrev pub spelled : List Column → List (List Call) → Script
spelled columns blocks = record { columns = columns; blocks = blocks }

abbrev pub whole : SoFar → Script
whole p = spelled p.columns (all_blocks p)

-- what the lines of a script spell for a table of these attributes, or the first fault in their order
abbrev pub blocks_of : List Column → List ℕ → Result Script Refusal
blocks_of columns text = with_lines 1 (so_far columns [] []) (script_lines text) >>= λ p. Ok (whole p)

-- calls name attributes of the first n alone
abbrev pub AllCallsBelow : ℕ → List Call → Type 0
AllCallsBelow n cs = All (CallsBelow n) cs

-- what holds of the lines so far: there are n attributes, the calls name those alone, and neither blocks nor calls are
-- too many
pub record AreSound (n : ℕ) (p : SoFar) : Type 0 where
  pub wide : length p.columns ≡ n
  pub below : All (AllCallsBelow n) p.closed
  pub below_last : AllCallsBelow n p.last
  pub few : length p.closed < MOST_BLOCKS
  pub short : calls_in p.closed + length p.last ≤ MOST_CALLS

-- and of all blocks
pub record AreBlocks (n : ℕ) (bs : List (List Call)) : Type 0 where
  pub below : All (AllCallsBelow n) bs
  pub few : length bs ≤ MOST_BLOCKS
  pub short : calls_in bs ≤ MOST_CALLS
