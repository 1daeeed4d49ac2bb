-- The text of a run's record is UTF-8.
use Rattle.std.proofs.Common.{◌≡◌, refl, ℕ, ℤ, pos, negsuc, ◌+◌, true, List, [], ◌∷◌, ◌++◌, arith, codes, map, All, IsUtf8, Option, Some, None}
use Rattle.std.specs.Prelude.{unwrap_or}
use Rattle.std.proofs.lemmas.Option.{none-some}
use Rattle.std.proofs.lemmas.Str.{IsUtf8-nil}
use Rattle.std.specs.List.{list_all}
use Rattle.std.proofs.lemmas.Bool.{and_parts}
use Rattle.std.proofs.lemmas.Bool.Decides.{nat_tests}
use Rattle.std.proofs.lemmas.List.Elements.{All-head, All-tail}
use Rattle.json.proofs.Printed.Utf8.{IsUtf8-are_ascii}
use Rattle.serde_json.specs.Data.{string}
use Rattle.serde_json.specs.View.{items_of}
use Rattle.sw_rows.specs.Domains.{IsDomain}
use Rattle.sw_rows.specs.Header.{Column, IsSchema, is_name, kinds_of}
use Rattle.sw_rows.specs.Texts.{AreTexts, is_text, text_at}
use Rattle.sw_rows.proofs.Schemas.TextLemmas as lemmas
use Rattle.sw_rows.proofs.Schemas.TextLaws.{text_sound}
use Rattle.sw_rows.specs.Spelling.{kind_text}
use Rattle.sw_rows.specs.Domains.{Domain}
use Rattle.sw_rows.specs.Domains as kind
use Rattle.sw_table.specs.declared.row.Row.{Row}
use Rattle.sw_query.specs.declared.query.Call.{Call}
use Rattle.sw_lang.specs.Replies.{reply_lines}
use Rattle.sw_spine.specs.History.{History}
use Rattle.sw_spine.specs.Printed.{are_lines, is_line, is_printed}
use Rattle.sw_spine.specs.declared.history.Entry.{Entry}
use Rattle.sw_spine.specs.declared.history.State.{State}
use Rattle.sw_spine.specs.declared.history.State.TheVariants as state
use Rattle.sw_spine.proofs.PrintedLemmas.{AreSound, both, joined, kinds_sound, line_utf8, printed, reply_shown}
use Rattle.sw_histories.specs.RecordText.{attribute_text, cell_data, cells_data, entry_data, record_data, record_text, row_data, state_data}
use Rattle.sw_histories.specs.ReadBack.{IsCalled, IsOfRun, IsStateOf}
use Rattle.sw_histories.proofs.Back.RecordTextLemmas.{call_utf8, name_shown}
use Rattle.sw_histories.proofs.Found.TextUtf8.{HasTexts, HaveTexts, text_utf8}

-- ---- attributes

kind_shown : (k : Domain) → IsDomain k → is_line (kind_text k) ≡ true
kind_shown kind.Int h = printed (codes "int") refl
kind_shown (kind.Fix places) h =
    let digit : is_printed (48 + places) ≡ true = grind (arith, nat_tests, h.0, h.1) in
    joined (codes "fix") ((48 + places) ∷ []) (printed (codes "fix") refl) (printed ((48 + places) ∷ []) (both (is_printed (48 + places)) true digit refl))
kind_shown kind.Flag h = printed (codes "flag") refl
kind_shown (kind.Text texts) h = printed (codes "text") refl

attributes_texts : (cs : List Column) → list_all (λ c. is_name c.0) cs ≡ true → All (λ c. IsDomain c.1) cs → HaveTexts (items_of (map (λ t. string t) (map attribute_text cs)))
attributes_texts [] h p = tt
attributes_texts (c ∷ cs) h p =
    let parts = and_parts (is_name c.0) (list_all (λ d. is_name d.0) cs) h in
    let ends = joined (codes ":") (kind_text c.1) (printed (codes ":") refl) (kind_shown c.1 (All-head (λ d. IsDomain d.1) c cs p)) in
    let here = joined c.0 (codes ":" ++ kind_text c.1) (name_shown c.0 parts.0) ends in
    (line_utf8 (attribute_text c) here, attributes_texts cs parts.1 (All-tail (λ d. IsDomain d.1) c cs p))

-- ---- rows

-- the text of a code, or an empty one
coded_utf8 : (texts : List (List ℕ)) (z : ℤ) → AreTexts texts → IsUtf8 (unwrap_or (text_at texts z) [])
coded_utf8 texts z s = by_text (text_at texts z) refl
  where
    at_code : (y : ℤ) (t : List ℕ) → text_at texts y ≡ Some t → is_text t ≡ true
    at_code (pos code) t e = text_sound texts code t s e
    at_code (negsuc n) t e = absurd (none-some t e)

    by_text : (o : Option (List ℕ)) → text_at texts z ≡ o → IsUtf8 (unwrap_or o [])
    by_text None e = IsUtf8-nil
    by_text (Some t) e = lemmas.text_utf8 t (at_code z t e)

cell_texts : (k : Domain) (z : ℤ) → IsDomain k → HasTexts (cell_data k z)
cell_texts kind.Int z s = tt
cell_texts (kind.Fix places) z s = tt
cell_texts kind.Flag z s = tt
cell_texts (kind.Text texts) z s = coded_utf8 texts z s

cells_texts : (ks : List Domain) (zs : List ℤ) → AreSound ks → HaveTexts (items_of (cells_data ks zs))
cells_texts [] zs s = tt
cells_texts (k ∷ ks) [] s = tt
cells_texts (k ∷ ks) (z ∷ zs) s = (cell_texts k z s.0, cells_texts ks zs s.1)

rows_texts : (ks : List Domain) (rs : List Row) → AreSound ks → HaveTexts (items_of (map (row_data ks) rs))
rows_texts ks [] s = tt
rows_texts ks (r ∷ rs) s = (cells_texts ks r.cells s, rows_texts ks rs s)

-- ---- entries

lines_texts : (ls : List (List ℕ)) → are_lines ls ≡ true → HaveTexts (items_of (map (λ t. string t) ls))
lines_texts [] h = tt
lines_texts (l ∷ ls) h =
    let parts = and_parts (is_line l) (are_lines ls) h in
    (line_utf8 l parts.0, lines_texts ls parts.1)

kept_texts : (ls : List (List ℕ)) → All (λ l. IsUtf8 l) ls → HaveTexts (items_of (map (λ t. string t) ls))
kept_texts [] h = tt
kept_texts (l ∷ ls) h = (All-head (λ m. IsUtf8 m) l ls h, kept_texts ls (All-tail (λ m. IsUtf8 m) l ls h))

state_texts : (columns : List Column) (c : Call) (st : State) → IsSchema columns → IsStateOf c st → HasTexts (state_data columns c st)
state_texts columns c (state.Answered r) ok h = lines_texts (reply_lines columns c r) (reply_shown columns c r ok)
state_texts columns c (state.Lines ls) ok h = kept_texts ls h
state_texts columns c state.Open ok h = IsUtf8-are_ascii (codes "open") refl
state_texts columns c state.Void ok h = IsUtf8-are_ascii (codes "void") refl

entry_texts : (columns : List Column) (e : Entry) → IsSchema columns → IsCalled columns e → HasTexts (entry_data columns e)
entry_texts columns e ok i = (
  IsUtf8-are_ascii (codes "call") refl,
  call_utf8 columns e.call ok,
  (
    IsUtf8-are_ascii (codes "reply") refl,
    state_texts columns e.call e.state ok i.state,
    (IsUtf8-are_ascii (codes "session") refl, tt, tt),
  ),
)

entries_texts : (columns : List Column) (es : List Entry) → IsSchema columns → All (IsCalled columns) es → HaveTexts (items_of (map (entry_data columns) es))
entries_texts columns [] ok h = tt
entries_texts columns (e ∷ es) ok h =
    (entry_texts columns e ok (All-head (IsCalled columns) e es h), entries_texts columns es ok (All-tail (IsCalled columns) e es h))

-- ---- the record

record_texts : (h : History) → IsOfRun h → HasTexts (record_data h)
record_texts h r = (
  IsUtf8-are_ascii (codes "attributes") refl,
  attributes_texts h.columns r.schema.sound.names r.schema.sound.domains,
  (
    IsUtf8-are_ascii (codes "entries") refl,
    entries_texts h.columns h.entries r.schema r.calls,
    (
      IsUtf8-are_ascii (codes "format") refl,
      tt,
      (
        IsUtf8-are_ascii (codes "limit") refl,
        tt,
        (IsUtf8-are_ascii (codes "rows") refl, rows_texts (kinds_of h.columns) h.rows (kinds_sound h.columns r.schema), tt),
      ),
    ),
  ),
)

-- for readers that take only text
pub record_utf8 : (h : History) → IsOfRun h → IsUtf8 (record_text h)
unfolding record_text
record_utf8 h r = text_utf8 (record_data h) (record_texts h r)
