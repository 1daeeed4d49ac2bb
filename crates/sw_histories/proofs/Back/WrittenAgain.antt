-- A record with lines for replies has the text of the record.
use Rattle.std.proofs.Common.{◌≡◌, ◌∙◌, ◌||◌, refl, ap, ap₂, List, [], ◌∷◌, codes, map, if◌then◌else◌}
use Rattle.serde_json.specs.Data.{Data, member, no_members, number, object, string, unsigned}
use Rattle.serde_json.specs.Written.{compact_text}
use Rattle.sw_rows.specs.Header.{Column, kinds_of}
use Rattle.sw_query.specs.declared.query.Call.{Call}
use Rattle.sw_lang.specs.PrintedCalls.{call_text}
use Rattle.sw_spine.specs.History.{History}
use Rattle.sw_spine.specs.declared.history.Entry.{Entry}
use Rattle.sw_spine.specs.declared.history.State.{State}
use Rattle.sw_spine.specs.declared.history.State.TheVariants as state
use Rattle.sw_histories.specs.RecordText.{attribute_text, entry_data, format_of, has_delete_where, is_delete_where, least_format, list_data, record_data, record_text, row_data, state_data, texts_data, whole_data}
use Rattle.sw_histories.specs.ReadBack.{entry_in_lines, in_lines, with_lines}

state_same : (columns : List Column) (c : Call) (st : State) → state_data columns c (in_lines columns c st) ≡ state_data columns c st
state_same columns c (state.Answered r) = refl
state_same columns c (state.Lines ls) = refl
state_same columns c state.Open = refl
state_same columns c state.Void = refl

entry_same : (columns : List Column) (e : Entry) → entry_data columns (entry_in_lines columns e) ≡ entry_data columns e
entry_same columns e =
    ap (λ d. object (member (codes "call") (string (call_text columns e.call)) (member (codes "reply") d (member (codes "session") (number (unsigned e.session)) no_members))))
    (state_same columns e.call e.state)

entries_same : (columns : List Column) (es : List Entry) → map (entry_data columns) (map (entry_in_lines columns) es) ≡ map (entry_data columns) es
entries_same columns [] = refl
entries_same columns (e ∷ es) = ap₂ (λ (d : Data) ds. d ∷ ds) (entry_same columns e) (entries_same columns es)

calls_same : (columns : List Column) (es : List Entry) → has_delete_where (map (entry_in_lines columns) es) ≡ has_delete_where es
calls_same columns [] = refl
calls_same columns (e ∷ es) = ap (λ b. is_delete_where e.call || b) (calls_same columns es)

record_same : (h : History) → record_data (with_lines h) ≡ record_data h
record_same h =
    let attributes = texts_data (map attribute_text h.columns) in
    let rows = list_data (map (row_data (kinds_of h.columns)) h.rows) in
    ap (λ es. whole_data attributes (list_data es) (format_of h.columns (map (entry_in_lines h.columns) h.entries)) h.limit rows) (entries_same h.columns h.entries)
    ∙ ap (λ b. whole_data attributes (list_data (map (entry_data h.columns) h.entries)) (if b then 3 else least_format h.columns) h.limit rows) (calls_same h.columns h.entries)

-- the law: with lines for replies the text is the same
pub text_same : (h : History) → record_text (with_lines h) ≡ record_text h
unfolding record_text
text_same h = ap compact_text (record_same h)
