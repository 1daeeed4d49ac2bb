-- The call of a line, read from left to right, with the first fault that is met.
use Rattle.std.specs.Prelude.{◌≡◌, ℕ, ℤ, Bool, ◌&&◌, not, false, true, List, [], ◌∷◌, ◌++◌, length, Option, Some, None, Result, Ok, Err, nat_lt, slice_index, position, bytes_eq, codes, ◌==◌, if◌then◌else◌}
use Rattle.sw_rows.specs.Cells.{cell_value, digits_number, fitting}
use Rattle.sw_rows.specs.Header.{Column, is_name, kinds_of}
use Rattle.sw_rows.specs.Tables.{padded}
use Rattle.sw_rows.specs.Domains.{Domain, is_of_texts}
use Rattle.sw_query.specs.declared.query.Cond.{Cond}
use Rattle.sw_query.specs.declared.query.Call.{Call}
use Rattle.sw_query.specs.declared.query.Call.TheVariants.{Select, Insert, Delete, DeleteWhere}
use Rattle.sw_query.specs.declared.query.Want.{Want}
use Rattle.sw_query.specs.declared.query.Want.TheVariants.{Rows, Count, Sum, Min, Max}
use Rattle.sw_query.specs.declared.refusal.Refusal.{Refusal}
use Rattle.sw_query.specs.declared.refusal.Refusal.TheVariants.{NoMemory, BadLine, UnknownAttribute, TooMany}
use Rattle.sw_query.specs.declared.refusal.Why.{Why}
use Rattle.sw_query.specs.declared.refusal.Why.TheVariants as why
use Rattle.sw_lang.specs.declared.fault.Fault.{Fault}
use Rattle.sw_lang.specs.declared.fault.Fault.TheVariants.{Bad, Unknown, Excess}
use Rattle.sw_lang.specs.declared.fault.ParseError.{ParseError}
use Rattle.sw_lang.specs.declared.fault.ParseError.TheVariants as errors
use Rattle.sw_lang.specs.declared.reading.parse.TheConstants.{MOST_LINE}
use Rattle.sw_rows.specs.Texts.{is_text}
use Rattle.sw_rows.specs.declared.schema.texts.TheConstants.{MOST_TEXTS}
use Rattle.sw_lang.specs.declared.reading.token.Op.{Op}
use Rattle.sw_lang.specs.declared.reading.token.Op.TheVariants.{Lt, Le, Eq, Ge, Gt}
use Rattle.sw_lang.specs.declared.reading.term.Term.{Term}
use Rattle.sw_lang.specs.Replies.{kind_at}
use Rattle.sw_lang.specs.Terms.{add_term}
use Rattle.sw_lang.specs.Tokens.{Tok, word, op, comma, quoted, tokens, after_blanks}
use denote.Ref.{Bor}

infixl 10 ◌>>=◌
abbrev pub ◌>>=◌ : {A B : Type 0} → Result A Fault → (A → Result B Fault) → Result B Fault
(Ok x) >>= f = f x
(Err e) >>= f = Err e

-- what a function returned, seen by view, is what reading gives, unless memory ran out
abbrev pub Fails : {Y : Type 0} → ParseError → Result Y Fault → Type 0
Fails errors.Memory read = Unit {0}
Fails (errors.Fault f) read = read ≡ Err f

abbrev pub Gives : {X Y : Type 0} → (X → Y) → Result X ParseError → Result Y Fault → Type 0
Gives view (Ok x) read = read ≡ Ok (view x)
Gives view (Err e) read = Fails e read

-- the same of a function that takes no memory
abbrev pub Tells : {X Y : Type 0} → (X → Y) → Result X Fault → Result Y Fault → Type 0
Tells view (Ok x) read = read ≡ Ok (view x)
Tells view (Err f) read = read ≡ Err f

-- the same of a function that answers the bytes that are left, or a value and these
abbrev pub TellsRest : Result (Bor (List ℕ)) Fault → Result (List Tok) Fault → Type 0
TellsRest result read = Tells (λ rest. tokens rest.now) result read

abbrev pub TellsThen : {X : Type 0} → Result (X × Bor (List ℕ)) Fault → Result (X × List Tok) Fault → Type 0
TellsThen result read = Tells (λ p. (p.0, tokens p.1.now)) result read

-- ---- single tokens

abbrev pub found : List ℕ → Option ℕ → Result ℕ Fault
found w (Some i) = Ok i
found w None = Err (Unknown w)

-- the attribute of a well-formed name; another text is refused with this why
abbrev pub attr_of : List Column → Why → List ℕ → Result ℕ Fault
attr_of schema malformed w = if is_name w then found w (position (λ c. bytes_eq w c.0) schema) else Err (Bad malformed)

-- the attribute that a token names
unfoldable pub name_of : List Column → Tok → Result ℕ Fault
name_of schema (word w) = attr_of schema why.Word w
name_of schema t = Err (Bad why.Word)

unfoldable pub op_of : Tok → Result Op Fault
op_of (op o) = Ok o
op_of t = Err (Bad why.Word)

-- a word that is wanted as a value or a key
abbrev pub valued : {A : Type 0} → Option A → Result A Fault
valued (Some z) = Ok z
valued None = Err (Bad why.Value)

-- the cell that a word is: of texts it is none
abbrev pub word_value : Domain → List ℕ → Option ℤ
word_value d w = if is_of_texts d then None else cell_value d w

-- the cell of a text that may be one; where it has no code there are texts enough already
abbrev pub coded : Option ℤ → Result ℤ Fault
coded (Some z) = Ok z
coded None = Err (Excess MOST_TEXTS)

-- the cell that a quoted text is
abbrev pub quoted_value : Domain → List ℕ → Result ℤ Fault
quoted_value d text = if is_of_texts d && is_text text then coded (cell_value d text) else Err (Bad why.Value)

-- the stored number of a value of this domain
unfoldable pub value_of : Domain → Tok → Result ℤ Fault
value_of d (word w) = valued (word_value d w)
value_of d (quoted text) = quoted_value d text
value_of d t = Err (Bad why.Word)

abbrev pub is_equality : Op → Bool
is_equality Lt = false
is_equality Le = false
is_equality Eq = true
is_equality Ge = false
is_equality Gt = false

-- texts are compared by equality alone
abbrev pub fitting_op : Domain → Op → Result Op Fault
fitting_op d o = if is_of_texts d && not (is_equality o) then Err (Bad why.Word) else Ok o

unfoldable pub op_for : Domain → Tok → Result Op Fault
op_for d t = op_of t >>= fitting_op d

-- texts are not summed, and have no least and no greatest
abbrev pub of_numbers : List Column → ℕ → Result ℕ Fault
of_numbers schema a = if is_of_texts (kind_at schema a) then Err (Bad why.Word) else Ok a

unfoldable pub number_name : List Column → Tok → Result ℕ Fault
number_name schema t = name_of schema t >>= of_numbers schema

-- a key has 1 to 20 digits, and a number of 64 bits
abbrev pub key_value : List ℕ → Option ℕ
key_value w = if nat_lt 20 (length w) then None else fitting (digits_number w)

unfoldable pub key_of : Tok → Result ℕ Fault
key_of (word w) = valued (key_value w)
key_of (quoted text) = Err (Bad why.Value)
key_of t = Err (Bad why.Word)

abbrev pub is_word : List ℕ → Tok → Bool
is_word w (word v) = bytes_eq v w
is_word w t = false

abbrev pub is_comma : Tok → Bool
is_comma comma = true
is_comma t = false

-- the first token, read by f, and those after it
unfoldable pub first_by : {A : Type 0} → (Tok → Result A Fault) → List Tok → Result (A × List Tok) Fault
first_by f [] = Err (Bad why.End)
first_by f (t ∷ ts) = f t >>= λ x. Ok (x, ts)

-- no token may be left
abbrev pub nothing_left : {A : Type 0} → A → List Tok → Result A Fault
nothing_left x [] = Ok x
nothing_left x (t ∷ ts) = Err (Bad why.Word)

-- ---- conditions

-- a name, an operator and a value of the name's kind
unfoldable pub term_at : List Column → List Tok → Result (Term × List Tok) Fault
term_at schema ts = do
  name ← first_by (name_of schema) ts
  o ← first_by (op_for (kind_at schema name.0)) name.1
  value ← first_by (value_of (kind_at schema name.0)) o.1
  Ok (record { attr = name.0; op = o.0; value = value.0 }, value.1)

-- one term of three tokens, or a term, "and" and more of them; conds are the conditions of those before
unfoldable pub terms_at : List Column → List Cond → List Tok → Result (List Cond) Fault
terms_at schema conds (a ∷ b ∷ c ∷ d ∷ ts) = do
  t ← term_at schema (a ∷ b ∷ c ∷ [])
  if is_word (codes "and") d then terms_at schema (add_term conds t.0) ts else Err (Bad why.Word)
terms_at schema conds ts = do
  t ← term_at schema ts
  Ok (add_term conds t.0)

-- nothing, or "where" and terms
unfoldable pub where_at : List Column → List Tok → Result (List Cond) Fault
where_at schema [] = Ok []
where_at schema (t ∷ ts) = if is_word (codes "where") t then terms_at schema [] ts else Err (Bad why.Word)

-- ---- calls

-- names with commas between, after those that stand before; a ninth one's comma is a fault
unfoldable pub names_at : List Column → List ℕ → List Tok → Result (List ℕ × List Tok) Fault
names_at schema names (a ∷ comma ∷ ts) = do
  i ← name_of schema a
  if nat_lt (length names) 7 then names_at schema (names ++ i ∷ []) ts else Err (Bad why.Word)
names_at schema names ts = do
  name ← first_by (name_of schema) ts
  Ok (names ++ name.0 ∷ [], name.1)

-- what is asked of the rows, and the conditions on them
abbrev pub asked : List Column → Want → List Tok → Result Call Fault
asked schema want ts = where_at schema ts >>= λ conds. Ok (Select (record { conds = conds; want = want }))

unfoldable pub select_at : List Column → List Tok → Result Call Fault
select_at schema ts = names_at schema [] ts >>= λ names. asked schema (Rows names.0) names.1

-- a name and perhaps conditions
unfoldable pub aggregate_at : List Column → (ℕ → Want) → List Tok → Result Call Fault
aggregate_at schema want ts = first_by (number_name schema) ts >>= λ name. asked schema (want name.0) name.1

-- past the comma that stands before each value but the first
unfoldable pub past_comma : List ℤ → List Tok → Result (List Tok) Fault
past_comma [] ts = Ok ts
past_comma (z ∷ zs) [] = Err (Bad why.End)
past_comma (z ∷ zs) (t ∷ ts) = if is_comma t then Ok ts else Err (Bad why.Word)

-- the next value of a list, of which others stand before
unfoldable pub next_value : List ℤ → Domain → List Tok → Result (ℤ × List Tok) Fault
next_value values kind ts = past_comma values ts >>= first_by (value_of kind)

abbrev pub TellsNext : List ℤ → Domain → List ℕ → Result (ℤ × Bor (List ℕ)) Fault → Type 0
TellsNext values kind text result = TellsThen result (next_value values kind (tokens text))

-- one value of each kind, with commas between, after those that stand before, and nothing more
abbrev pub values_at : List ℤ → List Domain → List Tok → Result (List ℤ) Fault
values_at values [] ts = nothing_left values ts
values_at values (k ∷ ks) ts = next_value values k ts >>= λ v. values_at (values ++ v.0 ∷ []) ks v.1

-- the cells of a row
unfoldable pub cells_at : List Column → List Tok → Result (List ℤ) Fault
cells_at schema ts = values_at [] (kinds_of schema) ts >>= λ values. Ok (padded values)

abbrev pub insert_at : List Column → List Tok → Result Call Fault
insert_at schema ts = cells_at schema ts >>= λ cells. Ok (Insert cells)

unfoldable pub delete_key : List Tok → Result Call Fault
delete_key ts = first_by key_of ts >>= λ key. nothing_left (Delete key.0) key.1

-- terms, one at least
unfoldable pub delete_where : List Column → List Tok → Result Call Fault
delete_where schema ts = terms_at schema [] ts >>= λ conds. Ok (DeleteWhere conds)

-- "where" and terms, or a key
unfoldable pub delete_at : List Column → List Tok → Result Call Fault
delete_at schema [] = Err (Bad why.End)
delete_at schema (t ∷ ts) = if is_word (codes "where") t then delete_where schema ts else delete_key (t ∷ ts)

-- the call that begins with this token
unfoldable pub call_of : List Column → Tok → List Tok → Result Call Fault
call_of schema t ts =
    if is_word (codes "select") t then select_at schema ts
    else if is_word (codes "count") t then asked schema Count ts
    else if is_word (codes "sum") t then aggregate_at schema Sum ts
    else if is_word (codes "min") t then aggregate_at schema Min ts
    else if is_word (codes "max") t then aggregate_at schema Max ts
    else if is_word (codes "insert") t then insert_at schema ts
    else if is_word (codes "delete") t then delete_at schema ts
    else Err (Bad why.Word)

-- ---- lines

-- no token is no call
unfoldable pub call_at : List Column → List Tok → Result (Option Call) Fault
call_at schema [] = Ok None
call_at schema (t ∷ ts) = call_of schema t ts >>= λ c. Ok (Some c)

-- '#' stands first, blanks aside
abbrev pub is_comment : List ℕ → Bool
is_comment text = slice_index (after_blanks text) 0 == 35

-- a line has at most 4,096 bytes; a comment and a line without tokens give no call
unfoldable pub line_at : List Column → List ℕ → Result (Option Call) Fault
line_at schema text =
    if nat_lt MOST_LINE (length text) then Err (Bad why.Length)
    else if is_comment text then Ok None
    else call_at schema (tokens text)

-- the refusal of a fault in the line of this number
abbrev pub refusal_of : ℕ → Fault → Refusal
refusal_of line (Bad why) = BadLine line why
refusal_of line (Unknown name) = UnknownAttribute name
refusal_of line (Excess limit) = TooMany limit

abbrev pub refused : {A : Type 0} → ℕ → Result A Fault → Result A Refusal
refused line (Ok x) = Ok x
refused line (Err f) = Err (refusal_of line f)

-- the same where no text becomes known: one that is not is no value
abbrev pub refusal_over_known : ℕ → Fault → Refusal
refusal_over_known line (Bad why) = BadLine line why
refusal_over_known line (Unknown name) = UnknownAttribute name
refusal_over_known line (Excess limit) = BadLine line why.Value

abbrev pub refused_over_known : {A : Type 0} → ℕ → Result A Fault → Result A Refusal
refused_over_known line (Ok x) = Ok x
refused_over_known line (Err f) = Err (refusal_over_known line f)

-- the answer is this one, unless memory ran out
abbrev pub Answers : {A : Type 0} → Result A Refusal → Result A Refusal → Type 0
Answers (Ok x) answer = answer ≡ Ok x
Answers (Err NoMemory) answer = Unit {0}
Answers (Err r) answer = answer ≡ Err r
