-- A table of texts, whole numbers, decimals and flags, and two rows that are shown of it.
use Rattle.std.specs.Prelude.{ℕ, pos, negsuc, List, [], ◌∷◌, codes, ◌++◌}
use Rattle.sw_rows.specs.Domains as kind
use Rattle.sw_rows.specs.Header.{Column}
use Rattle.sw_query.specs.Replies.{reply_row}
use Rattle.sw_query.specs.declared.query.Call.{Call}
use Rattle.sw_query.specs.declared.query.Want.TheVariants as want
use Rattle.sw_query.specs.declared.reply.Reply.{Reply}
use Rattle.sw_query.specs.declared.reply.Reply.TheVariants as reply
use Rattle.sw_query.specs.declared.reply.ReplyRow.{ReplyRow}
use Rattle.sw_lang.specs.PrintedExamples.{asking}
use Rattle.sw_outputs.specs.Fields.{records_text, reply_records}
use Rattle.sw_outputs.specs.JsonLines.{reply_json}
use Rattle.sw_outputs.specs.Texts.{value_text}

abbrev pub goods : List Column
goods =
    (codes "city", kind.Text (codes "Oslo" ∷ codes "Bergen, \"B\"" ∷ [])) ∷ (codes "n", kind.Int)
    ∷ (codes "price", kind.Fix 2) ∷ (codes "ok", kind.Flag) ∷ []

abbrev pub all_four : List ℕ
all_four = 0 ∷ 1 ∷ 2 ∷ 3 ∷ []

abbrev pub all_asked : Call
all_asked = asking (want.Rows all_four)

abbrev pub price_asked : Call
price_asked = asking (want.Rows (2 ∷ []))

-- -25 is the third cell of the second row
abbrev pub two_rows : List ReplyRow
two_rows =
    reply_row 1 (pos 1 ∷ pos 12 ∷ pos 750 ∷ pos 1 ∷ [])
    ∷ reply_row 3 (pos 2 ∷ negsuc 2 ∷ negsuc 24 ∷ pos 0 ∷ []) ∷ []

abbrev pub two_shown : Reply
two_shown = reply.Rows two_rows

-- the reply to a call as JSON and as comma-separated values
abbrev pub json_of : Call → Reply → List ℕ
json_of c r = value_text (reply_json goods c r)

abbrev pub csv_of : Call → Reply → List ℕ
csv_of c r = records_text (reply_records goods c r)

-- the two rows as JSON, as comma-separated values, and as a table
abbrev pub goods_json : List ℕ
goods_json =
    codes "{\"columns\":[\"key\",\"city\",\"n\",\"price\",\"ok\"],\"rows\":["
    ++ codes "[1,\"Oslo\",12,7.50,true],[3,\"Bergen, \\\"B\\\"\",-3,-0.25,false]]}"

abbrev pub goods_csv : List ℕ
goods_csv = codes "key,city,n,price,ok\n1,Oslo,12,7.50,true\n3,\"Bergen, \"\"B\"\"\",-3,-0.25,false\n"

abbrev pub goods_table : List ℕ
goods_table = codes "city:text,n:int,price:fix2,ok:flag\nOslo,12,7.50,true\n\"Bergen, \"\"B\"\"\",-3,-0.25,false\n"
