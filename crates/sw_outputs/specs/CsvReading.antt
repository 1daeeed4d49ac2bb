-- What the comma-separated values of a call are read as.
use Rattle.std.specs.Prelude.{◌≡◌, ℕ, ℤ, Bool, false, List, [], ◌∷◌, codes, bytes_eq, map, if◌then◌else◌, Option, Some, None, option_and_then, option_map}
use Rattle.csv.specs.Reading.{default_config, records, strip_bom}
use Rattle.sw_rows.specs.Cells.{cell_value, magnitude}
use Rattle.sw_rows.specs.Domains.{Domain}
use Rattle.sw_rows.specs.Domains as kind
use Rattle.sw_rows.specs.Header.{Column}
use Rattle.sw_query.specs.Replies.{reply_row}
use Rattle.sw_query.specs.declared.query.Call.{Call}
use Rattle.sw_query.specs.declared.query.Call.TheVariants as call
use Rattle.sw_query.specs.declared.query.Want.{Want}
use Rattle.sw_query.specs.declared.query.Want.TheVariants as want
use Rattle.sw_query.specs.declared.reply.Reply.{Reply}
use Rattle.sw_query.specs.declared.reply.Reply.TheVariants as reply
use Rattle.sw_query.specs.declared.reply.ReplyRow.{ReplyRow}
use Rattle.sw_lang.specs.Replies.{kind_at}
use Rattle.sw_outputs.specs.Fields.{answer_records, csv_text}
use Rattle.sw_outputs.specs.JsonReading.{IsTold, inserted, removed, signed_number}
use Rattle.sw_outputs.specs.declared.told.Told.{Told}

-- ---- records

-- the records of a text
abbrev pub records_in : List ℕ → List (List (List ℕ))
records_in text = records default_config (strip_bom text)

-- one cell of each kind
abbrev pub cells_read : List Domain → List (List ℕ) → Option (List ℤ)
cells_read [] [] = Some []
cells_read [] (f ∷ fs) = None
cells_read (k ∷ ks) [] = None
cells_read (k ∷ ks) (f ∷ fs) =
    option_and_then (λ z. option_map (λ zs. z ∷ zs) (cells_read ks fs)) (cell_value k f)

-- a key, and cells
abbrev pub row_read : List Domain → List (List ℕ) → Option ReplyRow
row_read kinds [] = None
row_read kinds (f ∷ fs) = option_and_then (λ key. option_map (reply_row key) (cells_read kinds fs)) (magnitude 0 f)

abbrev pub rows_read : List Domain → List (List (List ℕ)) → Option (List ReplyRow)
rows_read kinds [] = Some []
rows_read kinds (r ∷ rs) =
    option_and_then (λ row. option_map (λ rows. row ∷ rows) (rows_read kinds rs)) (row_read kinds r)

-- the one field of a record
abbrev pub field_read : {A : Type 0} → (List ℕ → Option A) → List (List ℕ) → Option A
field_read f [] = None
field_read f (field ∷ []) = f field
field_read f (field ∷ more ∷ fields) = None

-- the one field of the one record
abbrev pub one_read : {A : Type 0} → (List ℕ → Option A) → List (List (List ℕ)) → Option A
one_read f [] = None
one_read f (r ∷ []) = field_read f r
one_read f (r ∷ more ∷ rs) = None

-- that, or no record
abbrev pub optional_read : {A : Type 0} → (List ℕ → Option A) → List (List (List ℕ)) → Option (Option A)
optional_read f [] = Some None
optional_read f (r ∷ rs) = option_map (λ a. Some a) (one_read f (r ∷ rs))

-- ---- replies

-- a sum over a kind: like a cell, but of any size, and of flags a number
abbrev pub sum_read : Domain → List ℕ → Option ℤ
sum_read kind.Int f = signed_number 0 f
sum_read (kind.Fix places) f = signed_number places f
sum_read kind.Flag f = signed_number 0 f
sum_read (kind.Text texts) f = signed_number 0 f

-- the reply to a query, of the records under the header
abbrev pub wanted_read : List Column → Want → List (List (List ℕ)) → Option Reply
wanted_read columns (want.Rows names) rs =
    option_map (λ rows. reply.Rows rows) (rows_read (map (kind_at columns) names) rs)
wanted_read columns want.Count rs = option_map (λ n. reply.Count n) (one_read (magnitude 0) rs)
wanted_read columns (want.Sum a) rs = option_map (λ z. reply.Sum z) (one_read (sum_read (kind_at columns a)) rs)
wanted_read columns (want.Min a) rs = option_map (λ o. reply.Least o) (optional_read (cell_value (kind_at columns a)) rs)
wanted_read columns (want.Max a) rs = option_map (λ o. reply.Least o) (optional_read (cell_value (kind_at columns a)) rs)

-- the reply to a call
abbrev pub reply_read : List Column → Call → List (List (List ℕ)) → Option Reply
reply_read columns (call.Select q) rs = wanted_read columns q.want rs
reply_read columns (call.Insert cells) rs = option_map inserted (optional_read (magnitude 0) rs)
reply_read columns (call.Delete key) rs = option_and_then removed (one_read (magnitude 0) rs)
reply_read columns (call.DeleteWhere conds) rs = option_map (λ n. reply.RemovedMany n) (one_read (magnitude 0) rs)

-- whether a header is that of a refused call
abbrev pub is_refusal : List (List ℕ) → Bool
is_refusal [] = false
is_refusal (word ∷ words) = bytes_eq word (codes "refused")

-- the reply, or that the call was refused
abbrev pub answer_read : List Column → Call → List (List (List ℕ)) → Option (Option Reply)
answer_read columns c [] = None
answer_read columns c (header ∷ rs) =
    if is_refusal header then Some None else option_map (λ r. Some r) (reply_read columns c rs)

-- ---- the law

-- the text of a call has just the records of what it was answered, and those tell its reply
abbrev pub ValuesAreReadBack : Type 0
ValuesAreReadBack =
    (columns : List Column) (t : Told) → IsTold columns t
    → (records_in (csv_text columns t) ≡ answer_records columns t.call.now t.reply)
    × (answer_read columns t.call.now (records_in (csv_text columns t)) ≡ Some (option_map (λ r. r.now) t.reply))
