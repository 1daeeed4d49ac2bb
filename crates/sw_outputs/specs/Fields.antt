-- Replies as records of comma-separated values, and as tables.
use Rattle.std.specs.Prelude.{◌≡◌, ◌&&◌, ℕ, ℤ, Bool, true, not, List, [], ◌∷◌, ◌++◌, length, map, nat_eq, nat_lt, codes, decimal, if◌then◌else◌, Option, Some, None}
use Rattle.std.specs.List.{flat_map, list_any}
use Rattle.csv.specs.Writing.{default_writer, row_text}
use Rattle.sw_rows.specs.Domains.{Domain}
use Rattle.sw_rows.specs.Domains as kind
use Rattle.sw_rows.specs.Header.{Column}
use Rattle.sw_rows.specs.Spelling.{kind_text}
use Rattle.sw_query.specs.declared.query.Call.{Call}
use Rattle.sw_query.specs.declared.reply.Reply.{Reply}
use Rattle.sw_query.specs.declared.reply.Reply.TheVariants as reply
use Rattle.sw_query.specs.declared.reply.ReplyRow.{ReplyRow}
use Rattle.sw_lang.specs.PrintedCalls.{name_at}
use Rattle.sw_lang.specs.Replies.{cell_text, kind_at, sum_text}
use Rattle.sw_outputs.specs.JsonLines.{attrs_shown, called_word, cell_json, kind_called, text_shown}
use Rattle.sw_outputs.specs.Texts.{value_text}
use Rattle.sw_outputs.specs.declared.told.Told.{Told}
use denote.Ref.{Bor}

-- a cell as a table has it: as a reply does, but a text as it is
abbrev pub cell_field : Domain → ℤ → List ℕ
cell_field kind.Int z = cell_text kind.Int z
cell_field (kind.Fix places) z = cell_text (kind.Fix places) z
cell_field kind.Flag z = cell_text kind.Flag z
cell_field (kind.Text texts) z = text_shown texts z

-- a cell that is written alike in a reply, as a field and as JSON
abbrev pub IsPlain : Domain → ℤ → Type 0
IsPlain k z = (cell_text k z ≡ value_text (cell_json k z)) × (cell_text k z ≡ cell_field k z)

-- a cell of each kind
abbrev pub cell_fields : List Domain → List ℤ → List (List ℕ)
cell_fields [] zs = []
cell_fields (k ∷ ks) [] = []
cell_fields (k ∷ ks) (z ∷ zs) = cell_field k z ∷ cell_fields ks zs

-- records, one after another
abbrev pub records_text : List (List (List ℕ)) → List ℕ
records_text rs = flat_map (row_text default_writer) rs

-- ---- comma-separated values

abbrev pub keyed_fields : List Domain → ReplyRow → List (List ℕ)
keyed_fields kinds r = decimal r.key ∷ cell_fields kinds r.cells

-- rows under `key` and the names of what they show
abbrev pub keyed_records : List Column → List ℕ → List ReplyRow → List (List (List ℕ))
keyed_records columns attrs rows =
    (codes "key" ∷ map (name_at columns) attrs) ∷ map (keyed_fields (map (kind_at columns) attrs)) rows

-- their text without these names
abbrev pub keyed_text : List Column → List ℕ → List ReplyRow → List ℕ
keyed_text columns attrs rows = records_text (map (keyed_fields (map (kind_at columns) attrs)) rows)

-- one column of one number, or of none

abbrev pub scalar_records : List ℕ → Option (List ℕ) → List (List (List ℕ))
scalar_records name None = (name ∷ []) ∷ []
scalar_records name (Some number) = (name ∷ []) ∷ (number ∷ []) ∷ []

abbrev pub extreme_field : Domain → Option ℤ → Option (List ℕ)
extreme_field k None = None
extreme_field k (Some z) = Some (cell_field k z)

-- the number of a reply, where it has one
abbrev pub number_field : Domain → Reply → Option (List ℕ)
number_field k (reply.Rows rows) = None
number_field k (reply.Count n) = Some (decimal n)
number_field k (reply.Sum z) = Some (sum_text k z)
number_field k (reply.Least o) = extreme_field k o
number_field k (reply.Inserted key) = Some (decimal key)
number_field k reply.Full = None
number_field k reply.Removed = Some (decimal 1)
number_field k reply.NoSuchKey = Some (decimal 0)
number_field k (reply.RemovedMany n) = Some (decimal n)

abbrev pub one_column : List Column → Call → Reply → List (List (List ℕ))
one_column columns c r = scalar_records (called_word c) (number_field (kind_called columns c) r)

-- the records of a reply
abbrev pub reply_records : List Column → Call → Reply → List (List (List ℕ))
reply_records columns c (reply.Rows rows) = keyed_records columns (attrs_shown c) rows
reply_records columns c (reply.Count n) = one_column columns c (reply.Count n)
reply_records columns c (reply.Sum z) = one_column columns c (reply.Sum z)
reply_records columns c (reply.Least o) = one_column columns c (reply.Least o)
reply_records columns c (reply.Inserted key) = one_column columns c (reply.Inserted key)
reply_records columns c reply.Full = one_column columns c reply.Full
reply_records columns c reply.Removed = one_column columns c reply.Removed
reply_records columns c reply.NoSuchKey = one_column columns c reply.NoSuchKey
reply_records columns c (reply.RemovedMany n) = one_column columns c (reply.RemovedMany n)

abbrev pub answer_records : List Column → Call → Option (Bor Reply) → List (List (List ℕ))
answer_records columns c None = scalar_records (codes "refused") (Some (codes "1"))
answer_records columns c (Some r) = reply_records columns c r.now

-- an empty line stands before the records of each call but the first
abbrev pub csv_text : List Column → Told → List ℕ
csv_text columns t =
    (if nat_lt 1 t.number then codes "\n" else []) ++ records_text (answer_records columns t.call.now t.reply)

-- ---- tables

-- a field of a header: a name and its kind's
abbrev pub header_field : List Column → ℕ → List ℕ
header_field columns a = name_at columns a ++ (codes ":" ++ kind_text (kind_at columns a))

-- a row without its key
abbrev pub row_fields : List Domain → ReplyRow → List (List ℕ)
row_fields kinds r = cell_fields kinds r.cells

-- the text of rows without their keys
abbrev pub rows_text : List Column → List ℕ → List ReplyRow → List ℕ
rows_text columns attrs rows = records_text (map (row_fields (map (kind_at columns) attrs)) rows)

-- a header, and the rows
abbrev pub table_records : List Column → List ℕ → List ReplyRow → List (List (List ℕ))
table_records columns attrs rows =
    map (header_field columns) attrs ∷ map (row_fields (map (kind_at columns) attrs)) rows

abbrev pub table_text : List Column → List ℕ → List ReplyRow → List ℕ
table_text columns attrs rows = records_text (table_records columns attrs rows)

-- the table of a reply of rows; nothing of another
abbrev pub reply_table : List Column → List ℕ → Reply → List ℕ
reply_table columns attrs (reply.Rows rows) = table_text columns attrs rows
reply_table columns attrs (reply.Count n) = []
reply_table columns attrs (reply.Sum z) = []
reply_table columns attrs (reply.Least o) = []
reply_table columns attrs (reply.Inserted key) = []
reply_table columns attrs reply.Full = []
reply_table columns attrs reply.Removed = []
reply_table columns attrs reply.NoSuchKey = []
reply_table columns attrs (reply.RemovedMany n) = []

abbrev pub table_told_of : List Column → List ℕ → Option (Bor Reply) → List ℕ
table_told_of columns attrs None = []
table_told_of columns attrs (Some r) = reply_table columns attrs r.now

abbrev pub table_told : List Column → Told → List ℕ
table_told columns t = table_told_of columns (attrs_shown t.call.now) t.reply

-- whether no attribute stands twice
abbrev pub attrs_differ : List ℕ → Bool
attrs_differ [] = true
attrs_differ (a ∷ attrs) = not (list_any (λ b. nat_eq b a) attrs) && attrs_differ attrs

-- whether the reply to a call makes a table: attributes are shown, and none of them twice
abbrev pub makes_table : Call → Bool
makes_table c = nat_lt 0 (length (attrs_shown c)) && attrs_differ (attrs_shown c)
