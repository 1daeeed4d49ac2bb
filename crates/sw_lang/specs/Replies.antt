-- The lines of a reply.
use Rattle.std.specs.Prelude.{◌+◌, ◌-◌, ◌/◌, ◌%◌, ◌^◌, ◌==◌, ℕ, ℤ, pos, negsuc, List, [], ◌∷◌, ◌++◌, length, map, replicate, slice_index_or, unwrap_or, Option, Some, None, codes, decimal, if◌then◌else◌}
use Rattle.std.specs.List.{flat_map}
use Rattle.std.specs.Fmt.{signed_decimal}
use Rattle.std.specs.Ordering.{int_eq}
use Rattle.sw_rows.specs.Header.{Column, kinds_of}
use Rattle.sw_rows.specs.Domains.{Domain}
use Rattle.sw_rows.specs.Domains as kind
use Rattle.sw_query.specs.Replies.{reply_row}
use Rattle.sw_rows.specs.Texts.{text_at}
use Rattle.sw_query.specs.declared.query.Call.{Call}
use Rattle.sw_query.specs.declared.query.Call.TheVariants as call
use Rattle.sw_query.specs.declared.query.Want.{Want}
use Rattle.sw_query.specs.declared.query.Want.TheVariants as want
use Rattle.sw_query.specs.declared.reply.ReplyRow.{ReplyRow}
use Rattle.sw_query.specs.declared.reply.Reply.{Reply}
use Rattle.sw_query.specs.declared.reply.Reply.TheVariants as reply

-- digits with zeros before them, so that they are at least so many
abbrev pub padded_digits : ℕ → List ℕ → List ℕ
padded_digits places ds = replicate (places - length ds) 48 ++ ds

-- a whole number of units, of which 10 to the power `places` are one: its whole part, a dot, and just that many
-- decimals
abbrev pub with_point : ℕ → ℕ → List ℕ
with_point places n = decimal (n / 10 ^ places) ++ (codes "." ++ padded_digits places (decimal (n % 10 ^ places)))

-- the same with a '-' where the number is below 0
abbrev pub fixed_text : ℕ → ℤ → List ℕ
fixed_text places (pos n) = with_point places n
fixed_text places (negsuc n) = codes "-" ++ with_point places (n + 1)

-- each quote twice
abbrev pub doubled : List ℕ → List ℕ
doubled [] = []
doubled (b ∷ bs) = if b == 39 then 39 ∷ 39 ∷ doubled bs else b ∷ doubled bs

-- a text as scripts have it: between quotes, each of its own quotes twice
abbrev pub quoted_text : List ℕ → List ℕ
quoted_text text = codes "'" ++ (doubled text ++ codes "'")

-- a cell of a domain; a code that no text has is written as an empty text
abbrev pub cell_text : Domain → ℤ → List ℕ
cell_text kind.Int z = signed_decimal z
cell_text (kind.Fix places) z = fixed_text places z
cell_text kind.Flag z = if int_eq z (pos 1) then codes "true" else codes "false"
cell_text (kind.Text texts) z = quoted_text (unwrap_or (text_at texts z) [])

-- a sum over a kind: like a cell, but of flags the number that are true
abbrev pub sum_text : Domain → ℤ → List ℕ
sum_text kind.Int z = signed_decimal z
sum_text (kind.Fix places) z = fixed_text places z
sum_text kind.Flag z = signed_decimal z
sum_text (kind.Text texts) z = signed_decimal z

-- the domain of an attribute
abbrev pub kind_at : List Column → ℕ → Domain
kind_at columns a = slice_index_or (kinds_of columns) a kind.Int

-- cells with a comma and a space between
abbrev pub more_cells : List Domain → List ℤ → List ℕ
more_cells [] zs = []
more_cells (k ∷ ks) [] = []
more_cells (k ∷ ks) (z ∷ zs) = codes ", " ++ (cell_text k z ++ more_cells ks zs)

abbrev pub cells_text : List Domain → List ℤ → List ℕ
cells_text [] zs = []
cells_text (k ∷ ks) [] = []
cells_text (k ∷ ks) (z ∷ zs) = cell_text k z ++ more_cells ks zs

-- the domains of attributes, and the cells that they show
abbrev pub kinds_at : List Column → List ℕ → List Domain
kinds_at columns attrs = map (kind_at columns) attrs

abbrev pub shown : List Column → List ℕ → List ℤ → List ℕ
shown columns attrs cells = cells_text (kinds_at columns attrs) cells

-- a row: its key, a colon, and its cells
abbrev pub row_line : List Domain → ReplyRow → List ℕ
row_line kinds r = decimal r.key ++ (codes ": " ++ cells_text kinds r.cells)

abbrev pub row_shown : List Column → List ℕ → ℕ → List ℤ → List ℕ
row_shown columns attrs key cells = row_line (kinds_at columns attrs) (reply_row key cells)

abbrev pub rows_line : ℕ → List ℕ
rows_line n = codes "(" ++ (decimal n ++ codes " rows)")

-- how many rows are gone
abbrev pub removed_line : ℕ → List ℕ
removed_line n = codes "(" ++ (decimal n ++ codes " removed)")

-- the kinds of the cells that are shown, or of the attribute that is summed or compared
abbrev pub kinds_wanted : List Column → Want → List Domain
kinds_wanted columns (want.Rows names) = map (kind_at columns) names
kinds_wanted columns want.Count = []
kinds_wanted columns (want.Sum a) = kind_at columns a ∷ []
kinds_wanted columns (want.Min a) = kind_at columns a ∷ []
kinds_wanted columns (want.Max a) = kind_at columns a ∷ []

abbrev pub kinds_called : List Column → Call → List Domain
kinds_called columns (call.Select q) = kinds_wanted columns q.want
kinds_called columns (call.Insert cells) = []
kinds_called columns (call.Delete key) = []
kinds_called columns (call.DeleteWhere conds) = []

abbrev pub first_kind : List Domain → Domain
first_kind ks = slice_index_or ks 0 kind.Int

abbrev pub extreme_text : Domain → Option ℤ → List ℕ
extreme_text k None = codes "none"
extreme_text k (Some z) = cell_text k z

-- the lines of a reply whose cells are of these kinds, without their ends
abbrev pub lines_of : List Domain → Reply → List (List ℕ)
lines_of kinds (reply.Rows rows) = map (row_line kinds) rows ++ rows_line (length rows) ∷ []
lines_of kinds (reply.Count n) = decimal n ∷ []
lines_of kinds (reply.Sum z) = sum_text (first_kind kinds) z ∷ []
lines_of kinds (reply.Least o) = extreme_text (first_kind kinds) o ∷ []
lines_of kinds (reply.Inserted k) = (codes "key " ++ decimal k) ∷ []
lines_of kinds reply.Full = codes "full" ∷ []
lines_of kinds reply.Removed = codes "removed" ∷ []
lines_of kinds reply.NoSuchKey = codes "no such key" ∷ []
lines_of kinds (reply.RemovedMany n) = removed_line n ∷ []

-- the lines of the reply to a call
abbrev pub reply_lines : List Column → Call → Reply → List (List ℕ)
reply_lines columns c r = lines_of (kinds_called columns c) r

-- lines, each with its end
abbrev pub with_ends : List (List ℕ) → List ℕ
with_ends ls = flat_map (λ l. l ++ codes "\n") ls

-- the bytes of the reply to a call
abbrev pub reply_bytes : List Column → Call → Reply → List ℕ
reply_bytes columns c r = with_ends (reply_lines columns c r)

-- rows as lines
abbrev pub rows_shown : List Column → List ℕ → List ReplyRow → List ℕ
rows_shown columns attrs rows = with_ends (map (row_line (kinds_at columns attrs)) rows)

-- and how many there are
abbrev pub rows_text : List Domain → List ReplyRow → List ℕ
rows_text kinds rows = with_ends (map (row_line kinds) rows ++ rows_line (length rows) ∷ [])
