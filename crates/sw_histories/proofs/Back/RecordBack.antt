-- The text of a record is read as the value that it is the text of.
use Rattle.std.proofs.Common.{refl, ℕ, ℤ, pos, negsuc, ◌<◌, ◌≤◌, ◌^◌, Bool, true, false, if◌then◌else◌, List, [], ◌∷◌, arith, map, max}
use Rattle.std.specs.Prelude.{All}
use Rattle.std.proofs.Math.Nat.{max-le}
use Rattle.std.proofs.lemmas.List.Elements.{All-head, All-tail}
use Rattle.serde_json.specs.Data.{depth, items_depth, string}
use Rattle.serde_json.specs.Find.{of_integer}
use Rattle.serde_json.specs.View.{items_of}
use Rattle.sw_rows.specs.Domains.{Domain}
use Rattle.sw_rows.specs.Domains as kind
use Rattle.sw_rows.specs.Header.{Column, has_texts, kinds_of}
use Rattle.sw_table.specs.declared.row.Row.{Row}
use Rattle.sw_query.specs.declared.query.Call.{Call}
use Rattle.sw_spine.specs.History.{History}
use Rattle.sw_spine.specs.declared.history.Entry.{Entry}
use Rattle.sw_spine.specs.declared.history.State.{State}
use Rattle.sw_spine.specs.declared.history.State.TheVariants as state
use Rattle.sw_lang.specs.Replies.{reply_lines}
use Rattle.sw_histories.specs.RecordText.{attribute_text, cell_data, cells_data, entry_data, format_of, has_delete_where, list_data, record_data, record_text, row_data, state_data, texts_data}
use Rattle.sw_histories.specs.ReadBack.{HasWords, IsWord, TextsAreJson}
use Rattle.sw_histories.proofs.Found.TextReading.{IsPlain, IsWhole, text_read_back}

texts_plain : (ts : List (List ℕ)) → IsPlain (texts_data ts)
texts_plain [] = tt
texts_plain (t ∷ ts) = (tt, texts_plain ts)

under : (k a b : ℕ) → a ≤ k → b ≤ k → max a b ≤ k
under k a b below above = max-le below above

texts_level : (ts : List (List ℕ)) → items_depth (items_of (map (λ t. string t) ts)) ≤ 0
texts_level [] = omega arith
texts_level (t ∷ ts) = under 0 0 (items_depth (items_of (map (λ t. string t) ts))) (omega arith) (texts_level ts)

texts_flat : (ts : List (List ℕ)) → depth (texts_data ts) ≤ 1
texts_flat ts = omega (arith, texts_level ts)

number_plain : (z : ℤ) → IsWord z → IsWhole (of_integer z)
number_plain (pos n) h = omega (arith, h)
number_plain (negsuc n) h = h

cell_plain : (k : Domain) (z : ℤ) → IsWord z → IsPlain (cell_data k z)
cell_plain kind.Int z h = number_plain z h
cell_plain (kind.Fix places) z h = number_plain z h
cell_plain kind.Flag z h = number_plain z h
cell_plain (kind.Text texts) z h = tt

cells_plain : (ks : List Domain) (zs : List ℤ) → All IsWord zs → IsPlain (list_data (cells_data ks zs))
cells_plain [] zs h = tt
cells_plain (k ∷ ks) [] h = tt
cells_plain (k ∷ ks) (z ∷ zs) h = (cell_plain k z (All-head IsWord z zs h), cells_plain ks zs (All-tail IsWord z zs h))

cell_level : (k : Domain) (z : ℤ) → depth (cell_data k z) ≤ 0
cell_level kind.Int z = omega arith
cell_level (kind.Fix places) z = omega arith
cell_level kind.Flag z = omega arith
cell_level (kind.Text texts) z = omega arith

cells_level : (ks : List Domain) (zs : List ℤ) → items_depth (items_of (cells_data ks zs)) ≤ 0
cells_level [] zs = omega arith
cells_level (k ∷ ks) [] = omega arith
cells_level (k ∷ ks) (z ∷ zs) = max-le (cell_level k z) (cells_level ks zs)

cells_flat : (ks : List Domain) (zs : List ℤ) → depth (list_data (cells_data ks zs)) ≤ 1
cells_flat ks zs = omega (arith, cells_level ks zs)

rows_plain : (ks : List Domain) (rs : List Row) → All (λ r. All IsWord r.cells) rs → IsPlain (list_data (map (row_data ks) rs))
rows_plain ks [] h = tt
rows_plain ks (r ∷ rs) h = (cells_plain ks r.cells (All-head (λ s. All IsWord s.cells) r rs h), rows_plain ks rs (All-tail (λ s. All IsWord s.cells) r rs h))

rows_flat : (ks : List Domain) (rs : List Row) → items_depth (items_of (map (row_data ks) rs)) ≤ 1
rows_flat ks [] = omega arith
rows_flat ks (r ∷ rs) = max-le (cells_flat ks r.cells) (rows_flat ks rs)

format_small : (columns : List Column) (es : List Entry) → format_of columns es < 2 ^ 64
format_small columns es = by_tests (has_delete_where es) (has_texts columns)
  where
    by_tests : (a b : Bool) → (if a then 3 else if b then 2 else 1) < 2 ^ 64
    by_tests true b = omega arith
    by_tests false true = omega arith
    by_tests false false = omega arith

state_plain : (columns : List Column) (c : Call) (st : State) → IsPlain (state_data columns c st)
state_plain columns c (state.Answered r) = texts_plain (reply_lines columns c r)
state_plain columns c (state.Lines ls) = texts_plain ls
state_plain columns c state.Open = tt
state_plain columns c state.Void = tt

state_flat : (columns : List Column) (c : Call) (st : State) → depth (state_data columns c st) ≤ 1
state_flat columns c (state.Answered r) = texts_flat (reply_lines columns c r)
state_flat columns c (state.Lines ls) = texts_flat ls
state_flat columns c state.Open = omega arith
state_flat columns c state.Void = omega arith

entry_plain : (columns : List Column) (e : Entry) → e.session < 2 ^ 64 → IsPlain (entry_data columns e)
entry_plain columns e h = ((tt, (state_plain columns e.call e.state, (h, tt))), refl)

entry_flat : (columns : List Column) (e : Entry) → depth (entry_data columns e) ≤ 2
entry_flat columns e =
    let flat = state_flat columns e.call e.state in
    let members = under 1 0 (max (depth (state_data columns e.call e.state)) 0) (omega arith) (under 1 (depth (state_data columns e.call e.state)) 0 flat (omega arith)) in
    omega (arith, members)

entries_plain : (columns : List Column) (es : List Entry) → All (λ e. e.session < 2 ^ 64) es → IsPlain (list_data (map (entry_data columns) es))
entries_plain columns [] h = tt
entries_plain columns (e ∷ es) h = (entry_plain columns e (All-head (λ f. f.session < 2 ^ 64) e es h), entries_plain columns es (All-tail (λ f. f.session < 2 ^ 64) e es h))

entries_flat : (columns : List Column) (es : List Entry) → items_depth (items_of (map (entry_data columns) es)) ≤ 2
entries_flat columns [] = omega arith
entries_flat columns (e ∷ es) = max-le (entry_flat columns e) (entries_flat columns es)

record_plain : (h : History) → HasWords h → IsPlain (record_data h)
record_plain h w = ((texts_plain (map attribute_text h.columns), (entries_plain h.columns h.entries w.sessions, (format_small h.columns h.entries, (w.limit, (rows_plain (kinds_of h.columns) h.rows w.cells, tt))))), refl)

record_flat : (h : History) → depth (record_data h) ≤ 127
record_flat h =
    let names : depth (texts_data (map attribute_text h.columns)) ≤ 3 = omega (arith, texts_flat (map attribute_text h.columns)) in
    let entries : depth (list_data (map (entry_data h.columns) h.entries)) ≤ 3 = omega (arith, entries_flat h.columns h.entries) in
    let rows : depth (list_data (map (row_data (kinds_of h.columns)) h.rows)) ≤ 3 = omega (arith, rows_flat (kinds_of h.columns) h.rows) in
    let last = under 3 _ 0 rows (omega arith) in
    let deep = under 3 _ _ names (under 3 _ _ entries (under 3 0 _ (omega arith) (under 3 0 _ (omega arith) last))) in
    omega (arith, deep)

-- the law of `texts_are_read_as_values`
pub record_read : TextsAreJson
unfolding record_text
record_read h w = text_read_back (record_data h) (record_plain h w) (record_flat h)
