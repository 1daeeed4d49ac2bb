-- What a line of JSON tells: numbers by their digits, so that none is rounded.
use Rattle.std.specs.Prelude.{◌≡◌, ◌<◌, ◌⊎◌, ◌^◌, ◌==◌, ℕ, ℤ, pos, neg_ℤ, Bool, List, [], ◌∷◌, All, codes, map, if◌then◌else◌, Option, Some, None, option_and_then, option_map, FitsSigned}
use Rattle.std.specs.Int.{w64, w128}
use Rattle.json.specs.Find.{as_array, as_bool, as_number, as_str, get, is_null}
use Rattle.json.specs.Json.{Json, Items, no_items, item, document}
use Rattle.sw_rows.specs.Cells.{magnitude}
use Rattle.sw_rows.specs.Domains.{Domain}
use Rattle.sw_rows.specs.Domains as kind
use Rattle.sw_rows.specs.Header.{Column, IsSchema}
use Rattle.sw_query.specs.Replies.{reply_row}
use Rattle.sw_rows.specs.Texts.{code_of}
use Rattle.sw_query.specs.declared.query.Call.{Call}
use Rattle.sw_query.specs.declared.query.Call.TheVariants as call
use Rattle.sw_query.specs.declared.query.Want.{Want}
use Rattle.sw_query.specs.declared.query.Want.TheVariants as want
use Rattle.sw_query.specs.declared.reply.Reply.{Reply}
use Rattle.sw_query.specs.declared.reply.Reply.TheVariants as reply
use Rattle.sw_query.specs.declared.reply.ReplyRow.{ReplyRow}
use Rattle.sw_lang.specs.Fits.{IsOfKind}
use Rattle.sw_lang.specs.PrintedCalls.{call_text}
use Rattle.sw_lang.specs.Replies.{kind_at}
use Rattle.sw_outputs.specs.JsonLines.{told_text}
use Rattle.sw_outputs.specs.declared.told.Told.{Told}
use denote.Ref.{Bor}

-- ---- numbers

-- what a text stands for, times ten to the power `places`; it may begin with '-'
abbrev pub signed_number : ℕ → List ℕ → Option ℤ
signed_number places [] = None
signed_number places (c ∷ cs) =
    if c == 45 then option_map (λ m. neg_ℤ (pos m)) (magnitude places cs)
    else option_map (λ m. pos m) (magnitude places (c ∷ cs))

abbrev pub number_in : ℕ → Json → Option ℤ
number_in places j = option_and_then (signed_number places) (as_number j)

abbrev pub count_in : Json → Option ℕ
count_in j = option_and_then (magnitude 0) (as_number j)

-- ---- cells and rows

-- a flag is kept as 1 or 0
abbrev pub flag_kept : Bool → ℤ
flag_kept b = if b then pos 1 else pos 0

abbrev pub cell_in : Domain → Json → Option ℤ
cell_in kind.Int j = number_in 0 j
cell_in (kind.Fix places) j = number_in places j
cell_in kind.Flag j = option_map flag_kept (as_bool j)
cell_in (kind.Text texts) j = option_map (λ code. pos code) (option_and_then (code_of texts) (as_str j))

-- one cell of each kind
abbrev pub cells_in : List Domain → Items → Option (List ℤ)
cells_in [] no_items = Some []
cells_in [] (item j js) = None
cells_in (k ∷ ks) no_items = None
cells_in (k ∷ ks) (item j js) =
    option_and_then (λ z. option_map (λ zs. z ∷ zs) (cells_in ks js)) (cell_in k j)

-- a key, and cells
abbrev pub keyed_in : List Domain → Items → Option ReplyRow
keyed_in kinds no_items = None
keyed_in kinds (item j js) = option_and_then (λ key. option_map (reply_row key) (cells_in kinds js)) (count_in j)

abbrev pub row_in : List Domain → Json → Option ReplyRow
row_in kinds j = option_and_then (keyed_in kinds) (as_array j)

abbrev pub rows_in : List Domain → Items → Option (List ReplyRow)
rows_in kinds no_items = Some []
rows_in kinds (item j js) = option_and_then (λ r. option_map (λ rs. r ∷ rs) (rows_in kinds js)) (row_in kinds j)

-- ---- replies

-- a value, or `null`
abbrev pub optional : {A : Type 0} → (Json → Option A) → Json → Option (Option A)
optional f j = if is_null j then Some None else option_map (λ a. Some a) (f j)

-- a sum over a kind: like a cell, but of flags a number
abbrev pub sum_in : Domain → Json → Option ℤ
sum_in kind.Int j = number_in 0 j
sum_in (kind.Fix places) j = number_in places j
sum_in kind.Flag j = number_in 0 j
sum_in (kind.Text texts) j = number_in 0 j

-- the member of an object
abbrev pub member_in : {A : Type 0} → List ℕ → (Json → Option A) → Json → Option A
member_in name f j = option_and_then f (get name j)

abbrev pub listed_in : List Domain → Json → Option (List ReplyRow)
listed_in kinds j = option_and_then (rows_in kinds) (as_array j)

abbrev pub extreme_in : List Column → ℕ → Json → Option (Option ℤ)
extreme_in columns a j = optional (cell_in (kind_at columns a)) j

-- the reply to a query
abbrev pub wanted_in : List Column → Want → Json → Option Reply
wanted_in columns (want.Rows names) j =
    option_map (λ rs. reply.Rows rs) (member_in (codes "rows") (listed_in (map (kind_at columns) names)) j)
wanted_in columns want.Count j = option_map (λ n. reply.Count n) (member_in (codes "count") count_in j)
wanted_in columns (want.Sum a) j =
    option_map (λ z. reply.Sum z) (member_in (codes "sum") (sum_in (kind_at columns a)) j)
wanted_in columns (want.Min a) j = option_map (λ o. reply.Least o) (member_in (codes "min") (extreme_in columns a) j)
wanted_in columns (want.Max a) j = option_map (λ o. reply.Least o) (member_in (codes "max") (extreme_in columns a) j)

-- the key of a row that is in
abbrev pub inserted : Option ℕ → Reply
inserted None = reply.Full
inserted (Some key) = reply.Inserted key

-- one row is gone, or none
abbrev pub removed : ℕ → Option Reply
removed n = if n == 1 then Some reply.Removed else if n == 0 then Some reply.NoSuchKey else None

-- the reply to a call
abbrev pub reply_in : List Column → Call → Json → Option Reply
reply_in columns (call.Select q) j = wanted_in columns q.want j
reply_in columns (call.Insert cells) j = option_map inserted (member_in (codes "key") (optional count_in) j)
reply_in columns (call.Delete key) j = option_and_then removed (member_in (codes "removed") count_in j)
reply_in columns (call.DeleteWhere conds) j =
    option_map (λ n. reply.RemovedMany n) (member_in (codes "removed") count_in j)

-- the reply, or that the call was refused
abbrev pub refused_or : List Column → Call → Json → Option Json → Option (Option Reply)
refused_or columns c j None = option_map (λ r. Some r) (reply_in columns c j)
refused_or columns c j (Some refused) = Some None

abbrev pub answer_in : List Column → Call → Json → Option (Option Reply)
answer_in columns c j = refused_or columns c j (get (codes "refused") j)

-- ---- what fits a call

-- a cell of a kind, of 64 bits
abbrev pub IsCellOf : Domain → ℤ → Type 0
IsCellOf k z = IsOfKind k z × FitsSigned w64 z

-- a cell of each kind
abbrev pub AreCellsOf : List Domain → List ℤ → Type 0
AreCellsOf [] [] = Unit {0}
AreCellsOf [] (z ∷ zs) = ⊥
AreCellsOf (k ∷ ks) [] = ⊥
AreCellsOf (k ∷ ks) (z ∷ zs) = IsCellOf k z × AreCellsOf ks zs

abbrev pub IsRowOf : List Domain → ReplyRow → Type 0
IsRowOf kinds r = (r.key < 2 ^ 64) × AreCellsOf kinds r.cells

abbrev pub IsExtremeOf : Domain → Option ℤ → Type 0
IsExtremeOf k None = Unit {0}
IsExtremeOf k (Some z) = IsCellOf k z

-- a reply of the form that a query asks for
abbrev pub AnswersWant : List Column → Want → Reply → Type 0
AnswersWant columns (want.Rows names) r =
    (rows : List ReplyRow) × (r ≡ reply.Rows rows) × All (IsRowOf (map (kind_at columns) names)) rows
AnswersWant columns want.Count r = (n : ℕ) × (r ≡ reply.Count n) × (n < 2 ^ 64)
AnswersWant columns (want.Sum a) r = (z : ℤ) × (r ≡ reply.Sum z) × FitsSigned w128 z
AnswersWant columns (want.Min a) r = (o : Option ℤ) × (r ≡ reply.Least o) × IsExtremeOf (kind_at columns a) o
AnswersWant columns (want.Max a) r = (o : Option ℤ) × (r ≡ reply.Least o) × IsExtremeOf (kind_at columns a) o

-- a reply of the form that a call is answered by
abbrev pub AnswersCall : List Column → Call → Reply → Type 0
AnswersCall columns (call.Select q) r = AnswersWant columns q.want r
AnswersCall columns (call.Insert cells) r = ((key : ℕ) × (r ≡ reply.Inserted key) × (key < 2 ^ 64)) ⊎ (r ≡ reply.Full)
AnswersCall columns (call.Delete key) r = (r ≡ reply.Removed) ⊎ (r ≡ reply.NoSuchKey)
AnswersCall columns (call.DeleteWhere conds) r = (n : ℕ) × (r ≡ reply.RemovedMany n) × (n < 2 ^ 64)

abbrev pub AnswersOrNot : List Column → Call → Option (Bor Reply) → Type 0
AnswersOrNot columns c None = Unit {0}
AnswersOrNot columns c (Some r) = AnswersCall columns c r.now

abbrev pub IsLineNumber : Option ℕ → Type 0
IsLineNumber None = Unit {0}
IsLineNumber (Some n) = n < 2 ^ 64

-- a call of a table, where it stands, and a reply of its form
pub record IsTold (columns : List Column) (t : Told) : Type 0 where
  pub schema : IsSchema columns
  pub number : t.number < 2 ^ 64
  pub block : t.block < 2 ^ 64
  pub line : IsLineNumber t.line
  pub reply : AnswersOrNot columns t.call.now t.reply

-- ---- the law

-- the members of a line's value tell what was told
pub record Tells (columns : List Column) (t : Told) (j : Json) : Type 0 where
  pub number : member_in (codes "number") count_in j ≡ Some t.number
  pub block : member_in (codes "block") count_in j ≡ Some t.block
  pub line : member_in (codes "line") (optional count_in) j ≡ Some t.line
  pub call : member_in (codes "call") as_str j ≡ Some (call_text columns t.call.now)
  pub reply : member_in (codes "reply") (answer_in columns t.call.now) j ≡ Some (option_map (λ r. r.now) t.reply)

-- the text of a line is JSON, and its members tell where the call stands, its text, and its reply
abbrev pub LinesAreReadBack : Type 0
LinesAreReadBack =
    (columns : List Column) (t : Told) → IsTold columns t
    → (j : Json) × (document (told_text columns t) ≡ Some j) × Tells columns t j
