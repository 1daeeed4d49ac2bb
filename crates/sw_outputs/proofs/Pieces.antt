-- The pieces of which the text of a line is put together.
use Rattle.std.proofs.Common.{◌≡◌, ◌∙◌, ap, sym, refl, ℕ, true, List, [], ◌∷◌, ◌++◌, map, codes, decimal, append_assoc}
use Rattle.std.specs.Fmt.{digits}
use Rattle.json.specs.Json.{Json}
use Rattle.json.specs.Print.{escape_byte, quoted}
use Rattle.sw_rows.specs.Domains as kind
use Rattle.sw_rows.specs.Header.{Column}
use Rattle.sw_query.specs.declared.query.Call.{Call}
use Rattle.sw_query.specs.declared.reply.Reply.{Reply}
use Rattle.sw_query.specs.declared.reply.ReplyRow.{ReplyRow}
use Rattle.sw_lang.specs.PrintedCalls.{call_text}
use Rattle.sw_lang.specs.Replies.{kind_at}
use Rattle.sw_outputs.specs.JsonLines.{answer_json, called_word, count_json, kind_called, line_json, list_json, name_json, names_json, number_json, one_json, place_text, row_json, rows_json, scalar_json, told_line, told_text}
use Rattle.sw_outputs.specs.Texts.{items_of, items_text, value_text}
use Rattle.sw_outputs.specs.declared.told.Told.{Told}

-- ---- lists

-- an item behind a comma
pub item_put : (t now rest all : List ℕ) (value : List ℕ) → all ≡ t ++ (44 ∷ (value ++ rest)) → now ≡ (t ++ 44 ∷ []) ++ value → all ≡ now ++ rest
item_put t now rest all value is put =
    is ∙ sym (append_assoc t (44 ∷ []) (value ++ rest)) ∙ sym (append_assoc (t ++ 44 ∷ []) value rest) ∙ ap (λ n. n ++ rest) (sym put)

-- an item behind a comma, or behind nothing where it is the first one
pub later_put : (t now rest all comma value : List ℕ) → all ≡ t ++ (comma ++ (value ++ rest)) → now ≡ (t ++ comma) ++ value → all ≡ now ++ rest
later_put t now rest all comma value is put =
    is ∙ sym (append_assoc t comma (value ++ rest)) ∙ sym (append_assoc (t ++ comma) value rest) ∙ ap (λ n. n ++ rest) (sym put)

-- ---- objects

-- the names of what rows show are `key`, with its bracket, and the further names
pub names_parts : (old : List ℕ) (columns : List Column) (attrs : List ℕ)
    → (old ++ codes "[\"key\"") ++ items_text true (items_of (map (name_json columns) attrs)) ≡ old ++ value_text (names_json columns attrs)
unfolding escape_byte
names_parts old columns attrs = append_assoc old (codes "[\"key\"") (items_text true (items_of (map (name_json columns) attrs)))

flat_five : (old a b c d e : List ℕ) → ((((old ++ a) ++ b) ++ c) ++ d) ++ e ≡ old ++ (a ++ (b ++ (c ++ (d ++ e))))
flat_five old a b c d e = simp append_assoc

-- rows are an object of their names and their list, piece by piece
pub rows_parts : (old : List ℕ) (columns : List Column) (attrs : List ℕ) (rows : List ReplyRow)
    → ((((old ++ codes "{\"columns\":") ++ value_text (names_json columns attrs)) ++ codes ",\"rows\":") ++ value_text (list_json (map (row_json (map (kind_at columns) attrs)) rows))) ++ codes "}"
    ≡ old ++ value_text (rows_json columns attrs rows)
unfolding escape_byte
rows_parts old columns attrs rows = flat_five old (codes "{\"columns\":") (value_text (names_json columns attrs)) (codes ",\"rows\":") (value_text (list_json (map (row_json (map (kind_at columns) attrs)) rows))) (codes "}")

-- one number is an object of what it is called and the number, piece by piece
pub scalar_parts : (old : List ℕ) (columns : List Column) (c : Call) (r : Reply)
    → ((((old ++ codes "{") ++ quoted (called_word c)) ++ codes ":") ++ value_text (number_json (kind_called columns c) r)) ++ codes "}"
    ≡ old ++ value_text (scalar_json columns c r)
scalar_parts old columns c r = flat_five old (codes "{") (quoted (called_word c)) (codes ":") (value_text (number_json (kind_called columns c) r)) (codes "}")

-- the text of a call that was refused
pub refused_text : codes "{\"refused\":1}" ≡ value_text (one_json (codes "refused") (count_json 1))
unfolding escape_byte digits
refused_text = refl

-- ---- lines

line_flat : (n b l c r : List ℕ)
    → (codes "{\"number\":" ++ (n ++ (codes ",\"block\":" ++ (b ++ (codes ",\"line\":" ++ (l ++ (codes ",\"call\":" ++ (c ++ (codes ",\"reply\":" ++ (r ++ codes "}")))))))))) ++ codes "\n"
    ≡ (codes "{\"number\":" ++ (n ++ (codes ",\"block\":" ++ (b ++ (codes ",\"line\":" ++ (l ++ codes ",\"call\":")))))) ++ (c ++ (codes ",\"reply\":" ++ (r ++ codes "}\n")))
line_flat n b l c r = simp append_assoc

flat_none : (p q w a e : List ℕ) → ((((([] ++ p) ++ q) ++ w) ++ a) ++ e) ≡ p ++ (q ++ (w ++ (a ++ e)))
flat_none p q w a e = simp append_assoc

-- a line is the place, the call's text and what it was answered, piece by piece
pub line_parts : (columns : List Column) (t : Told)
    → (((([] ++ place_text t) ++ quoted (call_text columns t.call.now)) ++ codes ",\"reply\":") ++ value_text (answer_json columns t.call.now t.reply)) ++ codes "}\n"
    ≡ told_line columns t
unfolding told_text escape_byte
line_parts columns t =
    flat_none (place_text t) (quoted (call_text columns t.call.now)) (codes ",\"reply\":") (value_text (answer_json columns t.call.now t.reply)) (codes "}\n")
    ∙ sym (line_flat (decimal t.number) (decimal t.block) (value_text (line_of t)) (quoted (call_text columns t.call.now)) (value_text (answer_json columns t.call.now t.reply)))
  where
    line_of : Told → Json
    line_of told = line_json told.line
