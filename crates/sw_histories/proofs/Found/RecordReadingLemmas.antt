-- Parts of a value, one by one.
use Rattle.std.proofs.Common.{◌≡◌, ◌∙◌, sym, ap, refl, subst, ℕ, ℤ, suc, ◌+◌, ◌<◌, ◌≤◌, ◌&&◌, ◌==◌, ◌⊎◌, inl, inr, Bool, true, false, cond, List, [], ◌∷◌, ◌++◌, length, map, drop, get_or, arith, Option, Some, None, Result, Ok, Err, slice_get, codes, nat_eq, nat_le, length-append, IsUtf8}
use Rattle.std.specs.Prelude.{option_and_then, option_map}
use Rattle.std.specs.Str.{is_utf8}
use Rattle.std.proofs.lemmas.Bool.Decides.{nat_tests}
use Rattle.std.proofs.lemmas.List.{drop_more, drop_all, get_or-map}
use Rattle.std.proofs.lemmas.Option.{none-some, same_Some, slice_get_within, get_or_from_slice_get}
use Rattle.std.proofs.lemmas.Str.{IsUtf8-from_is_utf8, is_utf8-from_IsUtf8}
use Rattle.serde_json.specs.Data.{Data, Items, array, boolean, null, number, object, string}
use Rattle.serde_json.specs.Events.{members_len}
use Rattle.serde_json.specs.Find.{as_array, as_object, get}
use Rattle.serde_json.specs.Read.{read}
use Rattle.serde_json.specs.View.{items_of, items_view, members_view, view}
use Rattle.serde_json.specs.declared.value.Value.{Value}
use Rattle.serde_json.proofs.Views.{Entry as Pair, members_len-members_view}
use Rattle.sw_rows.specs.Tables.{padded, row_of}
use Rattle.sw_rows.specs.Domains.{Domain, domain}
use Rattle.sw_rows.specs.declared.kind.Kind.{Kind}
use Rattle.sw_rows.specs.declared.kind.Kind.TheVariants as word
use Rattle.sw_table.specs.declared.row.Row.{Row}
use Rattle.sw_query.specs.declared.query.Call.{Call}
use Rattle.sw_rows.specs.Header.{Column, kinds_of}
use Rattle.sw_query.specs.declared.refusal.Refusal.{Refusal}
use Rattle.sw_query.specs.declared.refusal.Refusal.TheVariants.{BadLine}
use Rattle.sw_query.specs.declared.refusal.Why.TheVariants as why
use Rattle.sw_rows.specs.declared.table.TheConstants.{MOST_ROWS}
use Rattle.sw_rows.proofs.Options.{if_some, then_some}
use Rattle.sw_spine.specs.Table.{is_numbered}
use Rattle.sw_spine.specs.declared.history.Entry.{Entry}
use Rattle.sw_spine.specs.declared.history.State.TheVariants as state
use Rattle.sw_histories.specs.Told.{◌>>=◌}
use Rattle.sw_histories.specs.RecordReading.{Frame, IsFrame, array_at, cell_in, cells_after, cells_of, columns_in, entries_after, entry_in, entry_learned, frame, frame_by, frame_in, frame_of, frame_with, frame_within, has_members, history_of, in_range, items_list, limit_in, number_at, number_in, or_fault, record_at, row_in, row_learned, rows_after, rows_in, rows_up_to, state_in, state_of, texts_after, with_row}

-- items and back are the list
pub list_items : (ds : List Data) → items_list (items_of ds) ≡ ds
list_items [] = refl
list_items (d ∷ ds) = ap (λ l. d ∷ l) (list_items ds)

-- a member that is a list is found as one
pub array_found : (name : List ℕ) (d e : Data) (vs ws : List Value) → Some e ≡ get name d → Some (items_view vs) ≡ as_array e → ws ≡ vs → Some (map view ws) ≡ array_at name d
array_found name d e vs ws there is same =
    ap (λ l. Some (map view l)) same
    ∙ ap (λ l. Some l) (sym (list_items (map view vs)))
    ∙ ap (option_map items_list) is
    ∙ ap (λ o. option_map items_list (option_and_then as_array o)) there

-- ---- cells

cells_step : (done : List ℤ) (kinds : List Domain) (vs : List Value) (i : ℕ) (k : Domain) (v : Value) → slice_get kinds i ≡ Some k → i < length vs → v ≡ get_or vs i v
    → cells_after done (drop i kinds) (drop i (map view vs)) ≡ option_and_then (λ z. cells_after (done ++ z ∷ []) (drop (i + 1) kinds) (drop (i + 1) (map view vs))) (cell_in k (view v))
cells_step done kinds vs i k v e lt is =
    let one : drop i kinds ≡ k ∷ drop (i + 1) kinds = drop_more kinds i k (slice_get_within kinds i k e) ∙ ap (λ x. x ∷ drop (i + 1) kinds) (get_or_from_slice_get kinds i k k e) in
    let long : i < length (map view vs) = rw (length_map vs) lt in
    let here : get_or (map view vs) i (view v) ≡ view v = get_or-map view vs i v (view v) lt ∙ ap view (sym is) in
    let other : drop i (map view vs) ≡ view v ∷ drop (i + 1) (map view vs) = drop_more (map view vs) i (view v) long ∙ ap (λ x. x ∷ drop (i + 1) (map view vs)) here in
    rw (one, other) refl
  where
    length_map : (xs : List Value) → length (map view xs) ≡ length xs
    length_map [] = refl
    length_map (x ∷ xs) = ap suc (length_map xs)

-- a cell that is none ends the row
pub cell_none : (done : List ℤ) (kinds : List Domain) (vs : List Value) (i : ℕ) (k : Domain) (v : Value) → slice_get kinds i ≡ Some k → i < length vs → v ≡ get_or vs i v → None ≡ cell_in k (view v) → cells_after done (drop i kinds) (drop i (map view vs)) ≡ None
cell_none done kinds vs i k v e lt is none = cells_step done kinds vs i k v e lt is ∙ ap (option_and_then (λ z. cells_after (done ++ z ∷ []) (drop (i + 1) kinds) (drop (i + 1) (map view vs)))) (sym none)

-- a cell that is one goes behind those done
pub cell_some : (done : List ℤ) (kinds : List Domain) (vs : List Value) (i : ℕ) (k : Domain) (v : Value) (z : ℤ) → slice_get kinds i ≡ Some k → i < length vs → v ≡ get_or vs i v → Some z ≡ cell_in k (view v) → cells_after done (drop i kinds) (drop i (map view vs)) ≡ cells_after (done ++ z ∷ []) (drop (i + 1) kinds) (drop (i + 1) (map view vs))
cell_some done kinds vs i k v z e lt is some = cells_step done kinds vs i k v e lt is ∙ ap (option_and_then (λ z. cells_after (done ++ z ∷ []) (drop (i + 1) kinds) (drop (i + 1) (map view vs)))) (sym some)

-- a kind without texts takes numbers
pub number_cell : (texts : List (List ℕ)) (k : Kind) (d : Data) → (k ≡ word.Int) ⊎ ((places : ℕ) × (k ≡ word.Fix places)) ⊎ (k ≡ word.Flag) → number_in (domain texts k) d ≡ cell_in (domain texts k) d
number_cell texts k d (inl e) = rw e refl
number_cell texts k d (inr (inl (places, e))) = rw e refl
number_cell texts k d (inr (inr e)) = rw e refl

-- no cell is left past the last kind
pub cells_end : (done : List ℤ) (kinds : List Domain) (ds : List Data) (i : ℕ) → length kinds ≤ i → cells_after done (drop i kinds) ds ≡ Some done
cells_end done kinds ds i h = rw (drop_all i kinds h) refl

-- as many views as values
pub views_long : (vs : List Value) → length (map view vs) ≡ length vs
views_long [] = refl
views_long (x ∷ xs) = ap suc (views_long xs)

-- ---- an object, a row, a state

-- members are counted as they are seen
pub members_count : (d : Data) (es : List Pair) (n count : ℕ) → Some (members_view es) ≡ as_object d → n ≡ length es → nat_eq n count ≡ has_members count d
members_count null es n count is long = absurd cc
members_count (boolean b) es n count is long = absurd cc
members_count (number x) es n count is long = absurd cc
members_count (string s) es n count is long = absurd cc
members_count (array ds) es n count is long = absurd cc
members_count (object ms) es n count is long =
    let same : members_view es ≡ ms = same_Some (members_view es) ms is in
    let counted : n ≡ members_len ms = long ∙ sym (members_len-members_view es) ∙ ap members_len same in
    ap (λ m. nat_eq m count) counted

-- the cells of a list are a row's
pub row_found : (kinds : List Domain) (d : Data) (vs ws : List Value) (o : Option (List ℤ)) → Some (items_view vs) ≡ as_array d → ws ≡ vs → o ≡ cells_of kinds (map view ws) → o ≡ row_in kinds d
row_found kinds d vs ws o is same found =
    found ∙ ap (λ l. cells_of kinds (map view l)) same
    ∙ ap (cells_of kinds) (sym (list_items (map view vs)))
    ∙ ap (option_and_then (λ ds. cells_of kinds (items_list ds))) is

state_array : (c : Call) (e : Data) (ds : Items) → Some ds ≡ as_array e → option_map (λ ls. state.Lines ls) (texts_after [] (items_list ds)) ≡ state_of c e
state_array c null ds is = absurd cc
state_array c (boolean b) ds is = absurd cc
state_array c (number x) ds is = absurd cc
state_array c (string s) ds is = absurd cc
state_array c (array xs) ds is = ap (λ l. option_map (λ ls. state.Lines ls) (texts_after [] (items_list l))) (same_Some ds xs is)
state_array c (object ms) ds is = absurd cc

-- the texts of a reply are a state's lines
pub state_lines : (c : Call) (d e : Data) (vs ws : List Value) (o : Option (List (List ℕ))) → Some e ≡ get (codes "reply") d → Some (items_view vs) ≡ as_array e → ws ≡ vs → o ≡ texts_after [] (map view ws) → option_map (λ ls. state.Lines ls) o ≡ state_in c d
state_lines c d e vs ws o there is same found =
    ap (option_map (λ ls. state.Lines ls)) (found ∙ ap (λ l. texts_after [] (map view l)) same ∙ ap (texts_after []) (sym (list_items (map view vs))))
    ∙ state_array c e (items_view vs) is
    ∙ ap (option_and_then (state_of c)) there

-- ---- the whole text

-- the record of a text that is JSON
pub record_ok : (bytes : List ℕ) (d : Data) → IsUtf8 bytes → read bytes ≡ Some d → history_of d ≡ record_at bytes
unfolding record_at
record_ok bytes d text is =
    let utf8 : is_utf8 bytes ≡ true = is_utf8-from_IsUtf8 bytes text in
    rw (utf8, is) refl

json_none : (bytes : List ℕ) (b : Bool) → is_utf8 bytes ≡ b → (IsUtf8 bytes → read bytes ≡ None) → cond b (read bytes) None ≡ None
json_none bytes true e h = h (IsUtf8-from_is_utf8 bytes e)
json_none bytes false e h = refl

-- bytes that are no text, or no JSON, are refused
pub record_bad : (bytes : List ℕ) → (IsUtf8 bytes → read bytes ≡ None) → record_at bytes ≡ Err (BadLine 0 why.History)
unfolding record_at
record_bad bytes h = ap (λ o. or_fault 0 o >>= history_of) (json_none bytes (is_utf8 bytes) refl h)

-- ---- the part outside the entries

numbered_push : (n : ℕ) (rs : List Row) (r : Row) → is_numbered n rs ≡ true → r.key ≡ n + length rs → is_numbered n (rs ++ r ∷ []) ≡ true
numbered_push n [] r all is = grind (arith, nat_tests, is)
numbered_push n (x ∷ rs) r all is = grind (arith, nat_tests, all, is, numbered_push (n + 1) rs r)

record AreRows (n : ℕ) (rs : List Row) : Type 0 where
  numbered : is_numbered 1 rs ≡ true
  count : length rs ≡ n

rows_sound : (columns : List Column) (done : List Row) (ds : List Data) (r : List Column × List Row) → rows_after columns done ds ≡ Some r → is_numbered 1 done ≡ true → AreRows (length done + length ds) r.1
rows_sound columns done [] r h all =
    let same : done ≡ r.1 = ap (λ p. p.1) (same_Some (columns, done) r h) in
    record { numbered = subst (λ l. is_numbered 1 l ≡ true) same all; count = ap (λ l. length l) (sym same) ∙ omega arith }
rows_sound columns done (d ∷ ds) r h all =
    let now = row_learned columns d in
    let parts = then_some {A = List ℤ} {B = List Column × List Row} (λ cells. rows_after now (with_row done cells) ds) (row_in (kinds_of now) d) r h in
    let row = row_of (length done + 1) parts.0 in
    let more : is_numbered 1 (done ++ row ∷ []) ≡ true = numbered_push 1 done row all (omega arith) in
    let rest = rows_sound now (done ++ row ∷ []) ds r parts.2 more in
    record { numbered = rest.numbered; count = rest.count ∙ omega (arith, length-append done (row ∷ [])) }

range_bounds : (least most n m : ℕ) → in_range least most n ≡ Some m → (least ≤ m) × (m ≤ most)
range_bounds least most n m h =
    let inside = if_some {A = ℕ} (nat_le least n && nat_le n most) (Some n) m h in
    let same : n ≡ m = same_Some n m inside.1 in
    let low : least ≤ n = grind (arith, nat_tests, inside.0) in
    let high : n ≤ most = grind (arith, nat_tests, inside.0) in
    (omega (arith, low, same), omega (arith, high, same))

-- as many values as kinds are read one by one
pub cells_long : (kinds : List Domain) (vs : List Value) → length vs ≡ length kinds → cells_of kinds (map view vs) ≡ option_map padded (cells_after [] kinds (map view vs))
cells_long kinds vs long =
    let same : (length (map view vs) == length kinds) ≡ true = grind (arith, nat_tests, views_long vs, long) in
    ap (λ b. cond b (option_map padded (cells_after [] kinds (map view vs))) None) same

-- what a map gives comes of what there was
pub map_some : {A B : Type 0} (g : A → B) (o : Option A) (y : B) → option_map g o ≡ Some y → (x : A) × (o ≡ Some x) × (g x ≡ y)
map_some g None y h = absurd (none-some y h)
map_some g (Some x) y h = (x, refl, same_Some (g x) y h)

limit_sound : (d : Data) (limit : ℕ) → limit_in d ≡ Some limit → (1 ≤ limit) × (limit ≤ MOST_ROWS)
limit_sound d limit h =
    let parts = then_some {A = ℕ} {B = ℕ} (in_range 1 MOST_ROWS) (number_at (codes "limit") d) limit h in
    range_bounds 1 MOST_ROWS parts.0 limit parts.2

record FitRows (limit : ℕ) (rs : List Row) : Type 0 where
  numbered : is_numbered 1 rs ≡ true
  few : length rs ≤ limit

within_sound : (columns : List Column) (limit : ℕ) (ds : List Data) (r : List Column × List Row) → rows_up_to columns limit ds ≡ Some r → FitRows limit r.1
within_sound columns limit ds r h =
    let inside = if_some {A = List Column × List Row} (nat_le (length ds) limit) (rows_after columns [] ds) r h in
    let sound = rows_sound columns [] ds r inside.1 refl in
    let few : length ds ≤ limit = grind (arith, nat_tests, inside.0) in
    record { numbered = sound.numbered; few = omega (arith, few, sound.count) }

rows_in_sound : (columns : List Column) (limit : ℕ) (d : Data) (r : List Column × List Row) → rows_in columns limit d ≡ Some r → FitRows limit r.1
rows_in_sound columns limit d r h =
    let parts = then_some {A = List Data} {B = List Column × List Row} (rows_up_to columns limit) (array_at (codes "rows") d) r h in
    within_sound columns limit parts.0 r parts.2

-- what the part outside the entries has
pub frame_sound : (d : Data) (f : Frame) → frame_of d ≡ Some f → IsFrame f
frame_sound d f h =
    let inside = if_some {A = Frame} (has_members 5 d) (frame_in d) f h in
    let a = then_some {A = List Column × ℕ} {B = Frame} (frame_by d) (columns_in d) f inside.1 in
    let b = then_some {A = ℕ} {B = Frame} (frame_within d a.0) (limit_in d) f a.2 in
    let r = then_some {A = List Column × List Row} {B = Frame} (frame_with d a.0.1 b.0) (rows_in a.0.0 b.0 d) f b.2 in
    let e = map_some {A = List Data} {B = Frame} (λ items. frame r.0.0 a.0.1 b.0 r.0.1 items) (array_at (codes "entries") d) f r.2 in
    let limit = limit_sound d b.0 b.1 in
    let rows = rows_in_sound a.0.0 b.0 d r.0 r.1 in
    subst IsFrame {x = frame r.0.0 a.0.1 b.0 r.0.1 e.0} e.2 (record { some = limit.0; most = limit.1; few = rows.few; numbered = rows.numbered })

-- ---- rows

-- a row that is none ends the rows
pub row_none : (columns : List Column) (rs : List Row) (d : Data) (ds : List Data) (all : Option (List Column × List Row)) → all ≡ rows_after columns rs (d ∷ ds) → None ≡ row_in (kinds_of (row_learned columns d)) d → None ≡ all
row_none columns rs d ds all before none =
    let now = row_learned columns d in
    sym (before ∙ ap (option_and_then (λ cells. rows_after now (with_row rs cells) ds)) (sym none))

-- a row goes behind those done
pub rows_step : (columns next : List Column) (rs more : List Row) (d : Data) (ds : List Data) (cells : List ℤ) (n : ℕ) (all : Option (List Column × List Row))
    → all ≡ rows_after columns rs (d ∷ ds) → n ≡ length rs + 1 → Some cells ≡ row_in (kinds_of (row_learned columns d)) d → next ≡ row_learned columns d → more ≡ rs ++ row_of n cells ∷ [] → all ≡ rows_after next more ds
rows_step columns next rs more d ds cells n all before place is known grown =
    let now = row_learned columns d in
    before
    ∙ ap (option_and_then (λ cells. rows_after now (with_row rs cells) ds)) (sym is)
    ∙ ap (λ m. rows_after now (rs ++ row_of m cells ∷ []) ds) (sym place)
    ∙ ap (λ cs. rows_after cs (rs ++ row_of n cells ∷ []) ds) (sym known)
    ∙ ap (λ l. rows_after next l ds) (sym grown)

-- ---- entries

-- an entry goes behind those done
pub entries_step : (format : ℕ) (columns next : List Column) (es more : List Entry) (d : Data) (ds : List Data) (e : Entry) (n : ℕ) (all : Result (List Column × List Entry) Refusal)
    → all ≡ entries_after format columns es (d ∷ ds) → n ≡ length es + 1 → entry_in format columns n d ≡ Ok e → next ≡ entry_learned columns d → more ≡ es ++ e ∷ [] → all ≡ entries_after format next more ds
entries_step format columns next es more d ds e n all before place is known grown =
    let now = entry_learned columns d in
    before
    ∙ ap (λ m. entry_in format columns m d >>= λ x. entries_after format now (es ++ x ∷ []) ds) (sym place)
    ∙ ap (λ r. r >>= λ x. entries_after format now (es ++ x ∷ []) ds) is
    ∙ ap (λ cs. entries_after format cs (es ++ e ∷ []) ds) (sym known)
    ∙ ap (λ l. entries_after format next l ds) (sym grown)
