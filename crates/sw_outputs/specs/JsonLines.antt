-- The line of JSON of a call: where it stands, its text, and its reply as values.
use Rattle.std.specs.Prelude.{ℕ, ℤ, pos, List, [], ◌∷◌, ◌++◌, map, codes, decimal, Option, Some, None, true, unwrap_or}
use Rattle.std.specs.Fmt.{signed_decimal}
use Rattle.std.specs.Ordering.{int_eq}
use Rattle.json.specs.Json.{Json, null, boolean, number, string, array, object, no_members, member}
use Rattle.sw_rows.specs.Domains.{Domain}
use Rattle.sw_rows.specs.Domains as kind
use Rattle.sw_rows.specs.Header.{Column}
use Rattle.sw_query.specs.Replies.{reply_row}
use Rattle.sw_rows.specs.Texts.{text_at}
use Rattle.sw_query.specs.declared.query.Call.{Call}
use Rattle.sw_query.specs.declared.query.Call.TheVariants as call
use Rattle.sw_query.specs.declared.query.Want.{Want}
use Rattle.sw_query.specs.declared.query.Want.TheVariants as want
use Rattle.sw_query.specs.declared.reply.Reply.{Reply}
use Rattle.sw_query.specs.declared.reply.Reply.TheVariants as reply
use Rattle.sw_query.specs.declared.reply.ReplyRow.{ReplyRow}
use Rattle.sw_lang.specs.PrintedCalls.{call_text, name_at}
use Rattle.sw_lang.specs.Replies.{first_kind, fixed_text, kind_at, kinds_called, sum_text}
use Rattle.sw_outputs.specs.Texts.{items_of, items_text, value_text}
use Rattle.sw_outputs.specs.declared.told.Told.{Told}
use denote.Ref.{Bor}

abbrev pub list_json : List Json → Json
list_json js = array (items_of js)

-- a whole number from 0
abbrev pub count_json : ℕ → Json
count_json n = number (decimal n)

-- the text for which a cell of texts stands, an empty one where no text has its code
abbrev pub text_shown : List (List ℕ) → ℤ → List ℕ
text_shown texts z = unwrap_or (text_at texts z) []

-- a cell: a number with its kind's decimals, `true` or `false`, or a text
abbrev pub cell_json : Domain → ℤ → Json
cell_json kind.Int z = number (signed_decimal z)
cell_json (kind.Fix places) z = number (fixed_text places z)
cell_json kind.Flag z = boolean (int_eq z (pos 1))
cell_json (kind.Text texts) z = string (text_shown texts z)

-- a cell of each kind
abbrev pub cells_json : List Domain → List ℤ → List Json
cells_json [] zs = []
cells_json (k ∷ ks) [] = []
cells_json (k ∷ ks) (z ∷ zs) = cell_json k z ∷ cells_json ks zs

-- a row: its key, and its cells
abbrev pub row_json : List Domain → ReplyRow → Json
row_json kinds r = list_json (count_json r.key ∷ cells_json kinds r.cells)

abbrev pub name_json : List Column → ℕ → Json
name_json columns a = string (name_at columns a)

-- the names of what a row shows
abbrev pub names_json : List Column → List ℕ → Json
names_json columns attrs = list_json (string (codes "key") ∷ map (name_json columns) attrs)

abbrev pub rows_json : List Column → List ℕ → List ReplyRow → Json
rows_json columns attrs rows =
    object (member (codes "columns") (names_json columns attrs)
    (member (codes "rows") (list_json (map (row_json (map (kind_at columns) attrs)) rows)) no_members))

-- the attributes whose cells a call shows
abbrev pub attrs_wanted : Want → List ℕ
attrs_wanted (want.Rows names) = names
attrs_wanted want.Count = []
attrs_wanted (want.Sum a) = []
attrs_wanted (want.Min a) = []
attrs_wanted (want.Max a) = []

abbrev pub attrs_shown : Call → List ℕ
attrs_shown (call.Select q) = attrs_wanted q.want
attrs_shown (call.Insert cells) = []
attrs_shown (call.Delete key) = []
attrs_shown (call.DeleteWhere conds) = []

-- what the number of a reply is called
abbrev pub wanted_word : Want → List ℕ
wanted_word (want.Rows names) = codes "rows"
wanted_word want.Count = codes "count"
wanted_word (want.Sum a) = codes "sum"
wanted_word (want.Min a) = codes "min"
wanted_word (want.Max a) = codes "max"

abbrev pub called_word : Call → List ℕ
called_word (call.Select q) = wanted_word q.want
called_word (call.Insert cells) = codes "key"
called_word (call.Delete key) = codes "removed"
called_word (call.DeleteWhere conds) = codes "removed"

-- the kind of what a call sums or compares
abbrev pub kind_called : List Column → Call → Domain
kind_called columns c = first_kind (kinds_called columns c)

-- the kind of an attribute, and of none whole numbers
abbrev pub kind_if : List Column → Option ℕ → Domain
kind_if columns None = kind.Int
kind_if columns (Some a) = kind_at columns a

abbrev pub extreme_json : Domain → Option ℤ → Json
extreme_json k None = null
extreme_json k (Some z) = cell_json k z

-- the number of a reply, and null where it has none
abbrev pub number_json : Domain → Reply → Json
number_json k (reply.Rows rows) = null
number_json k (reply.Count n) = count_json n
number_json k (reply.Sum z) = number (sum_text k z)
number_json k (reply.Least o) = extreme_json k o
number_json k (reply.Inserted key) = count_json key
number_json k reply.Full = null
number_json k reply.Removed = count_json 1
number_json k reply.NoSuchKey = count_json 0
number_json k (reply.RemovedMany n) = count_json n

-- an object of one member
abbrev pub one_json : List ℕ → Json → Json
one_json name value = object (member name value no_members)

abbrev pub scalar_json : List Column → Call → Reply → Json
scalar_json columns c r = one_json (called_word c) (number_json (kind_called columns c) r)

-- a reply: rows under the names of what they show, or one number under what it is called
abbrev pub reply_json : List Column → Call → Reply → Json
reply_json columns c (reply.Rows rows) = rows_json columns (attrs_shown c) rows
reply_json columns c (reply.Count n) = scalar_json columns c (reply.Count n)
reply_json columns c (reply.Sum z) = scalar_json columns c (reply.Sum z)
reply_json columns c (reply.Least o) = scalar_json columns c (reply.Least o)
reply_json columns c (reply.Inserted key) = scalar_json columns c (reply.Inserted key)
reply_json columns c reply.Full = scalar_json columns c reply.Full
reply_json columns c reply.Removed = scalar_json columns c reply.Removed
reply_json columns c reply.NoSuchKey = scalar_json columns c reply.NoSuchKey
reply_json columns c (reply.RemovedMany n) = scalar_json columns c (reply.RemovedMany n)

-- what came of a call
abbrev pub answer_json : List Column → Call → Option (Bor Reply) → Json
answer_json columns c None = one_json (codes "refused") (count_json 1)
answer_json columns c (Some r) = reply_json columns c r.now

-- the number of a line, where it is known
abbrev pub line_json : Option ℕ → Json
line_json None = null
line_json (Some line) = count_json line

abbrev pub told_json : List Column → Told → Json
told_json columns t =
    object (member (codes "number") (count_json t.number)
    (member (codes "block") (count_json t.block)
    (member (codes "line") (line_json t.line)
    (member (codes "call") (string (call_text columns t.call.now))
    (member (codes "reply") (answer_json columns t.call.now t.reply) no_members)))))

-- what stands before the text of the call
abbrev pub place_text : Told → List ℕ
place_text t =
    codes "{\"number\":" ++ (decimal t.number ++ (codes ",\"block\":" ++ (decimal t.block
    ++ (codes ",\"line\":" ++ (value_text (line_json t.line) ++ codes ",\"call\":")))))

-- the line without its end, and with it
unfoldable pub told_text : List Column → Told → List ℕ
told_text columns t = value_text (told_json columns t)

abbrev pub told_line : List Column → Told → List ℕ
told_line columns t = told_text columns t ++ codes "\n"

-- ---- the texts of parts

-- further items of a list, and its end
abbrev pub further : List Json → List ℕ
further items = items_text true (items_of items)

-- the cells of a row, the row, and rows
abbrev pub cells_shown : List Column → List ℕ → List ℤ → List Json
cells_shown columns attrs cells = cells_json (map (kind_at columns) attrs) cells

abbrev pub shown_row : List Column → List ℕ → ℕ × Bor (List ℤ) → List ℕ
shown_row columns attrs row = value_text (row_json (map (kind_at columns) attrs) (reply_row row.0 row.1.now))

abbrev pub shown_rows : List Column → List ℕ → List ReplyRow → List ℕ
shown_rows columns attrs rows = value_text (list_json (map (row_json (map (kind_at columns) attrs)) rows))

-- the number of a reply, and what a call was answered
abbrev pub number_text : List Column → Call → Reply → List ℕ
number_text columns c r = value_text (number_json (kind_called columns c) r)

abbrev pub answer_text : List Column → Told → List ℕ
answer_text columns told = value_text (answer_json columns told.call.now told.reply)
