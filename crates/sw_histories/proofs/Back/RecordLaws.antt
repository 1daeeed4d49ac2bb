-- Reading finds just what the relation relates.
use Rattle.std.proofs.Common.{◌≡◌, ◌∙◌, sym, ap, refl, subst, ℕ, ℤ, ◌+◌, ◌≤◌, Bool, true, false, cond, List, [], ◌∷◌, ◌++◌, length, Option, Some, None, Result, Ok, Err, codes, nat_le, IsUtf8, append_assoc, leb-true, le-leb}
use Rattle.std.specs.Prelude.{option_and_then, option_map, unwrap_or}
use Rattle.std.specs.Str.{is_utf8}
use Rattle.std.proofs.lemmas.List.{append-nil}
use Rattle.std.proofs.lemmas.Str.{IsUtf8-from_is_utf8}
use Rattle.serde_json.specs.Data.{Data}
use Rattle.serde_json.specs.Find.{as_number, as_u64, get}
use Rattle.serde_json.specs.Read.{read}
use Rattle.std.specs.Result.{result_ok}
use Rattle.std.proofs.lemmas.Option.{same_Some}
use Rattle.sw_rows.specs.Header.{Column, Fault as TableFault, IsSchema, header_of, kinds_of}
use Rattle.sw_rows.proofs.Schemas.SchemaLaws.{header-schema}
use Rattle.sw_query.specs.declared.refusal.Refusal.TheVariants.{TooMany}
use Rattle.sw_lang.proofs.Parsing.Lines.{line_found, line_read}
use Rattle.sw_table.specs.declared.row.Row.{Row}
use Rattle.sw_query.specs.declared.query.Call.{Call}
use Rattle.sw_query.specs.declared.refusal.Refusal.{Refusal}
use Rattle.sw_rows.proofs.Options.{if_some, then_some}
use Rattle.sw_lang.specs.Learning.{learned}
use Rattle.sw_lang.specs.Reading.{line_at, refused}
use Rattle.sw_lang.specs.declared.fault.Fault.{Fault}
use Rattle.sw_spine.specs.History.{History, entry}
use Rattle.sw_spine.specs.declared.history.Entry.{Entry}
use Rattle.sw_spine.specs.declared.history.State.{State}
use Rattle.sw_spine.specs.declared.spine.TheConstants.{MOST_ENTRIES, MOST_SESSIONS}
use Rattle.sw_histories.specs.Told.{◌>>=◌}
use Rattle.sw_histories.specs.RecordReading.{Frame, array_at, call_in, columns_in, columns_under, entries_after, entries_of, entry_in, entry_learned, entry_with, frame, frame_by, frame_in, frame_of, frame_with, frame_within, format_in, has_call, has_members, header_in, history_of, history_with, in_range, json_of, limit_in, may_stand, number_at, or_fault, record_at, row_in, row_learned, rows_after, rows_in, rows_up_to, session_in, state_in, state_of, text_at, texts_after, under_format, with_row}
use Rattle.sw_histories.proofs.Found.ReadParts.{AreReadEntries, IsReadEntry, IsReadRecord}
use Rattle.sw_lang.proofs.Known.Knowing.{learned_schema}
use Rattle.sw_histories.proofs.Found.LearnedTexts.{row_schema}
use Rattle.sw_histories.proofs.Found.RecordReadingLemmas.{map_some, record_ok}

then_ok : {A B : Type 0} (r : Result A Refusal) (f : A → Result B Refusal) (y : B) → (r >>= f) ≡ Ok y → (x : A) × (r ≡ Ok x) × (f x ≡ Ok y)
then_ok (Ok x) f y h = (x, refl, h)
then_ok (Err e) f y h = absurd cc

fault_ok : {A : Type 0} (n : ℕ) (o : Option A) (x : A) → or_fault n o ≡ Ok x → o ≡ Some x
fault_ok n None x h = absurd cc
fault_ok n (Some y) x h = ap (λ z. Some z) (let e : y ≡ x = cc in e)

refused_ok : {A : Type 0} (n : ℕ) (r : Result A Fault) (x : A) → refused n r ≡ Ok x → r ≡ Ok x
refused_ok n (Ok y) x h = ap (λ z. Ok z) (let e : y ≡ x = cc in e)
refused_ok n (Err f) x h = absurd cc

-- ---- entries

has_call_found : (d : Data) (text : List ℕ) → has_call d ≡ Some text → (has_members 3 d ≡ true) × (text_at (codes "call") d ≡ Some text)
has_call_found d text h =
    let inside = if_some {A = List ℕ} (has_members 3 d) (option_and_then (λ r. option_and_then (λ s. text_at (codes "call") d) (get (codes "session") d)) (get (codes "reply") d)) text h in
    let r = then_some {A = Data} {B = List ℕ} (λ r. option_and_then (λ s. text_at (codes "call") d) (get (codes "session") d)) (get (codes "reply") d) text inside.1 in
    let s = then_some {A = Data} {B = List ℕ} (λ s. text_at (codes "call") d) (get (codes "session") d) text r.2 in
    (inside.0, s.2)

call_found : (format : ℕ) (columns : List Column) (n : ℕ) (text : List ℕ) (c : Call) → call_in format columns n text ≡ Ok c → (line_at (learned columns text) text ≡ Ok (Some c)) × (may_stand format c ≡ true)
call_found format columns n text c h =
    let line = line_at (learned columns text) text in
    let b = then_ok {A = Call} {B = Call} (refused n line >>= or_fault n) (λ x. or_fault n (under_format format x)) c h in
    let s = if_some {A = Call} (may_stand format b.0) (Some b.0) c (fault_ok n (under_format format b.0) c b.2) in
    let same : b.0 ≡ c = same_Some b.0 c s.1 in
    let a = then_ok {A = Option Call} {B = Call} (refused n line) (or_fault n) b.0 b.1 in
    let o : a.0 ≡ Some b.0 = fault_ok n a.0 b.0 a.2 in
    (refused_ok n line a.0 a.1 ∙ ap (λ x. Ok x) (o ∙ s.1), subst (λ x. may_stand format x ≡ true) same s.0)

-- an entry that the reader finds is one of the relation
pub entry_found : (format : ℕ) (columns : List Column) (n : ℕ) (d : Data) (e : Entry) → entry_in format columns n d ≡ Ok e → IsReadEntry format columns d e
entry_found format columns n d e h =
    let t = then_ok {A = List ℕ} {B = Entry} (or_fault n (has_call d)) (λ text. (call_in format columns n text >>= λ c. or_fault n (entry_with c d))) e h in
    let members = has_call_found d t.0 (fault_ok n (has_call d) t.0 t.1) in
    let c = then_ok {A = Call} {B = Entry} (call_in format columns n t.0) (λ c. or_fault n (entry_with c d)) e t.2 in
    let w : entry_with c.0 d ≡ Some e = fault_ok n (entry_with c.0 d) e c.2 in
    let s = then_some {A = ℕ} {B = Entry} (λ s. option_map (λ st. entry s c.0 st) (state_in c.0 d)) (session_in d) e w in
    let st = map_some {A = State} {B = Entry} (λ st. entry s.0 c.0 st) (state_in c.0 d) e s.2 in
    let found = call_found format columns n t.0 c.0 c.1 in
    subst (IsReadEntry format columns d) {x = entry s.0 c.0 st.0} st.2 (record {
      members = members.0;
      text = t.0;
      text_is = members.1;
      call = line_found (learned columns t.0) t.0 (Some c.0) found.0;
      stands = found.1;
      session = s.1;
      state = st.1;
    })

-- a member that is a number, or whose state is known, is there
number_there : (name : List ℕ) (d : Data) (least most n : ℕ) → option_and_then (in_range least most) (number_at name d) ≡ Some n → (m : Data) × (get name d ≡ Some m)
number_there name d least most n h =
    let a = then_some {A = ℕ} {B = ℕ} (in_range least most) (number_at name d) n h in
    let b = then_some as_u64 (option_and_then as_number (get name d)) a.0 a.1 in
    let m = then_some as_number (get name d) b.0 b.1 in
    (m.0, m.1)

-- an entry of the relation is the one that the reader finds
pub entry_only : (format : ℕ) (columns : List Column) (n : ℕ) (d : Data) (e : Entry) → IsSchema columns → IsReadEntry format columns d e → entry_in format columns n d ≡ Ok e
entry_only format columns n d e ok i =
    let s = number_there (codes "session") d 1 MOST_SESSIONS e.session i.session in
    let r = then_some {A = Data} {B = State} (state_of e.call) (get (codes "reply") d) e.state i.state in
    let has : has_call d ≡ Some i.text =
    ap (λ b. cond b (option_and_then (λ r. option_and_then (λ s. text_at (codes "call") d) (get (codes "session") d)) (get (codes "reply") d)) None) i.members
    ∙ ap (option_and_then (λ r. option_and_then (λ s. text_at (codes "call") d) (get (codes "session") d))) r.1
    ∙ ap (option_and_then (λ s. text_at (codes "call") d)) s.1
    ∙ i.text_is in
    let line : line_at (learned columns i.text) i.text ≡ Ok (Some e.call) = line_read (learned columns i.text) i.text (Some e.call) (learned_schema columns i.text ok) i.call in
    let with_it : entry_with e.call d ≡ Some e =
    ap (option_and_then (λ s. option_map (λ st. entry s e.call st) (state_in e.call d))) i.session
    ∙ ap (option_map (λ st. entry e.session e.call st)) i.state in
    let stands : under_format format e.call ≡ Some e.call = ap (λ b. cond b (Some e.call) None) i.stands in
    ap (λ o. or_fault n o >>= λ text. (call_in format columns n text >>= λ c. or_fault n (entry_with c d))) has
    ∙ ap (λ o. refused n o >>= or_fault n >>= (λ c. or_fault n (under_format format c)) >>= λ c. or_fault n (entry_with c d)) line
    ∙ ap (λ o. or_fault n o >>= λ c. or_fault n (entry_with c d)) stands
    ∙ ap (or_fault n) with_it

push_all : (done es : List Entry) (e : Entry) → done ++ (e ∷ es) ≡ (done ++ e ∷ []) ++ es
push_all done es e = sym (append_assoc done (e ∷ []) es)

record Read (format : ℕ) (columns : List Column) (done : List Entry) (ds : List Data) (r : List Column × List Entry) : Type 0 where
  es : List Entry
  all_are : r.1 ≡ done ++ es
  are : AreReadEntries format columns ds r.0 es

entries_found : (format : ℕ) (columns : List Column) (done : List Entry) (ds : List Data) (r : List Column × List Entry) → entries_after format columns done ds ≡ Ok r → Read format columns done ds r
entries_found format columns done [] r h =
    let same : (columns, done) ≡ r = cc in
    record { es = []; all_are = sym (ap (λ p. p.1) same) ∙ sym (append-nil done); are = sym (ap (λ p. p.0) same) }
entries_found format columns done (d ∷ ds) r h =
    let now = entry_learned columns d in
    let e = then_ok {A = Entry} {B = List Column × List Entry} (entry_in format columns (length done + 1) d) (λ e. entries_after format now (done ++ e ∷ []) ds) r h in
    let rest = entries_found format now (done ++ e.0 ∷ []) ds r e.2 in
    record { es = e.0 ∷ rest.es; all_are = rest.all_are ∙ sym (push_all done rest.es e.0); are = (entry_found format columns (length done + 1) d e.0 e.1, rest.are) }

entries_only : (format : ℕ) (columns : List Column) (done : List Entry) (ds : List Data) (last : List Column) (es : List Entry) → IsSchema columns → AreReadEntries format columns ds last es → entries_after format columns done ds ≡ Ok (last, done ++ es)
entries_only format columns done [] last [] ok are = ap (λ cs. Ok (cs, done)) (sym are) ∙ ap (λ l. Ok (last, l)) (sym (append-nil done))
entries_only format columns done [] last (e ∷ es) ok are = absurd are
entries_only format columns done (d ∷ ds) last [] ok are = absurd are
entries_only format columns done (d ∷ ds) last (e ∷ es) ok are =
    let now = entry_learned columns d in
    ap (λ r. r >>= λ x. entries_after format now (done ++ x ∷ []) ds) (entry_only format columns (length done + 1) d e ok are.0)
    ∙ entries_only format now (done ++ e ∷ []) ds last es (learned_schema columns (unwrap_or (text_at (codes "call") d) []) ok) are.1
    ∙ ap (λ l. Ok (last, l)) (sym (push_all done es e))

-- ---- the part outside the entries

record IsOuter (d : Data) (f : Frame) : Type 0 where
  members : has_members 5 d ≡ true
  named : List Column
  header : header_in d ≡ Some named
  format : format_in named d ≡ Some f.format
  limit : limit_in d ≡ Some f.limit
  rows : rows_in named f.limit d ≡ Some (f.columns, f.rows)
  items : array_at (codes "entries") d ≡ Some f.items

outer_found : (d : Data) (f : Frame) → frame_of d ≡ Some f → IsOuter d f
outer_found d f h =
    let inside = if_some {A = Frame} (has_members 5 d) (frame_in d) f h in
    let a = then_some {A = List Column × ℕ} {B = Frame} (frame_by d) (columns_in d) f inside.1 in
    let n = then_some {A = List Column} {B = List Column × ℕ} (columns_under d) (header_in d) a.0 a.1 in
    let under = map_some {A = ℕ} {B = List Column × ℕ} (λ format. (n.0, format)) (format_in n.0 d) a.0 n.2 in
    let same : n.0 ≡ a.0.0 = ap (λ c. c.0) under.2 in
    let numbered : under.0 ≡ a.0.1 = ap (λ c. c.1) under.2 in
    let b = then_some {A = ℕ} {B = Frame} (frame_within d a.0) (limit_in d) f a.2 in
    let r = then_some {A = List Column × List Row} {B = Frame} (frame_with d a.0.1 b.0) (rows_in a.0.0 b.0 d) f b.2 in
    let e = map_some {A = List Data} {B = Frame} (λ items. frame r.0.0 a.0.1 b.0 r.0.1 items) (array_at (codes "entries") d) f r.2 in
    subst (IsOuter d) {x = frame r.0.0 a.0.1 b.0 r.0.1 e.0} e.2 (record {
      members = inside.0;
      named = a.0.0;
      header = n.1 ∙ ap (λ cs. Some cs) same;
      format = subst (λ cs. format_in cs d ≡ Some a.0.1) same (under.1 ∙ ap (λ k. Some k) numbered);
      limit = b.1;
      rows = r.1;
      items = e.1;
    })

outer_only : (d : Data) (f : Frame) → IsOuter d f → frame_of d ≡ Some f
outer_only d f o =
    let columns : columns_in d ≡ Some (o.named, f.format) = ap (option_and_then (columns_under d)) o.header ∙ ap (option_map (λ format. (o.named, format))) o.format in
    ap (λ b. cond b (frame_in d) None) o.members
    ∙ ap (option_and_then (frame_by d)) columns
    ∙ ap (option_and_then (frame_within d (o.named, f.format))) o.limit
    ∙ ap (option_and_then (frame_with d f.format f.limit)) o.rows
    ∙ ap (option_map (λ items. frame f.columns f.format f.limit f.rows items)) o.items

header_schema : (d : Data) (columns : List Column) → header_in d ≡ Some columns → IsSchema columns
header_schema d columns h =
    let a = then_some {A = List (List ℕ)} {B = List Column} (λ ts. result_ok (header_of ts)) (option_and_then (texts_after []) (array_at (codes "attributes") d)) columns h in
    header-schema a.0 columns (ok_of (header_of a.0) columns a.2)
  where
    ok_of : (r : Result (List Column) TableFault) (cs : List Column) → result_ok r ≡ Some cs → r ≡ Ok cs
    ok_of (Ok x) cs h = ap (λ z. Ok z) (same_Some x cs h)
    ok_of (Err e) cs h = absurd cc

-- attributes that know the texts of rows
rows_schema : (columns : List Column) (done : List Row) (ds : List Data) (r : List Column × List Row) → IsSchema columns → rows_after columns done ds ≡ Some r → IsSchema r.0
rows_schema columns done [] r ok h = subst IsSchema (ap (λ p. p.0) (same_Some (columns, done) r h)) ok
rows_schema columns done (d ∷ ds) r ok h =
    let now = row_learned columns d in
    let parts = then_some {A = List ℤ} {B = List Column × List Row} (λ cells. rows_after now (with_row done cells) ds) (row_in (kinds_of now) d) r h in
    rows_schema now (with_row done parts.0) ds r (row_schema columns d ok) parts.2

known_schema : (columns : List Column) (limit : ℕ) (d : Data) (r : List Column × List Row) → IsSchema columns → rows_in columns limit d ≡ Some r → IsSchema r.0
known_schema columns limit d r ok h =
    let parts = then_some {A = List Data} {B = List Column × List Row} (rows_up_to columns limit) (array_at (codes "rows") d) r h in
    let inside = if_some {A = List Column × List Row} (nat_le (length parts.0) limit) (rows_after columns [] parts.0) r parts.2 in
    rows_schema columns [] parts.0 r ok inside.1

-- ---- the file

json_found : (bytes : List ℕ) (d : Data) (b : Bool) → is_utf8 bytes ≡ b → cond b (read bytes) None ≡ Some d → IsUtf8 bytes × (read bytes ≡ Some d)
json_found bytes d true e h = (IsUtf8-from_is_utf8 bytes e, h)
json_found bytes d false e h = absurd cc

ok_same : (x y : History) → ◌≡◌ {A = Result History Refusal} (Ok x) (Ok y) → x ≡ y
ok_same x y h = cc

err_ok : (e : Refusal) (y : History) → ◌≡◌ {A = Result History Refusal} (Err e) (Ok y) → ⊥
err_ok e y h = cc

items_found : (f : Frame) (h : History) → entries_of f ≡ Ok h → (length f.items ≤ MOST_ENTRIES) × ((r : List Column × List Entry) × (entries_after f.format f.columns [] f.items ≡ Ok r) × (history_with f r ≡ h))
items_found f h e = at (nat_le (length f.items) MOST_ENTRIES) refl e
  where
    at : (b : Bool) → nat_le (length f.items) MOST_ENTRIES ≡ b → cond b (entries_after f.format f.columns [] f.items >>= λ r. Ok (history_with f r)) (Err (TooMany MOST_ENTRIES)) ≡ Ok h
        → (length f.items ≤ MOST_ENTRIES) × ((r : List Column × List Entry) × (entries_after f.format f.columns [] f.items ≡ Ok r) × (history_with f r ≡ h))
    at true few g =
        let a = then_ok {A = List Column × List Entry} {B = History} (entries_after f.format f.columns [] f.items) (λ r. Ok (history_with f r)) h g in
        (leb-true (length f.items) MOST_ENTRIES few, (a.0, a.1, ok_same (history_with f a.0) h a.2))
    at false many g = absurd (err_ok (TooMany MOST_ENTRIES) h g)

-- what the reader finds is related to the bytes
pub record_found : (bytes : List ℕ) (h : History) → record_at bytes ≡ Ok h → IsReadRecord bytes h
unfolding record_at
record_found bytes h e =
    let j = then_ok {A = Data} {B = History} (or_fault 0 (json_of bytes)) history_of h e in
    let text = json_found bytes j.0 (is_utf8 bytes) refl (fault_ok 0 (json_of bytes) j.0 j.1) in
    let f = then_ok {A = Frame} {B = History} (or_fault 0 (frame_of j.0)) entries_of h j.2 in
    let o = outer_found j.0 f.0 (fault_ok 0 (frame_of j.0) f.0 f.1) in
    let es = items_found f.0 h f.2 in
    let found = entries_found f.0.format f.0.columns [] f.0.items es.1.0 es.1.1 in
    subst (IsReadRecord bytes) {x = history_with f.0 es.1.0} es.1.2 (record {
      utf8 = text.0;
      value = j.0;
      json = text.1;
      members = o.members;
      named = o.named;
      header = o.header;
      format = f.0.format;
      format_is = o.format;
      limit = o.limit;
      known = f.0.columns;
      rows = o.rows;
      items = f.0.items;
      items_are = o.items;
      few = es.0;
      entries = subst (AreReadEntries f.0.format f.0.columns f.0.items es.1.0.0) (sym found.all_are) found.are;
    })

-- what is related to the bytes is what the reader finds
pub record_only : (bytes : List ℕ) (h : History) → IsReadRecord bytes h → record_at bytes ≡ Ok h
record_only bytes h r =
    let f : Frame = frame r.known r.format h.limit h.rows r.items in
    let outer : frame_of r.value ≡ Some f = outer_only r.value f (record { members = r.members; named = r.named; header = r.header; format = r.format_is; limit = r.limit; rows = r.rows; items = r.items_are }) in
    let few : nat_le (length r.items) MOST_ENTRIES ≡ true = le-leb (length r.items) MOST_ENTRIES r.few in
    let ok : IsSchema r.known = known_schema r.named h.limit r.value (r.known, h.rows) (header_schema r.value r.named r.header) r.rows in
    let all : entries_after r.format r.known [] r.items ≡ Ok (h.columns, h.entries) = entries_only r.format r.known [] r.items h.columns h.entries ok r.entries in
    sym (record_ok bytes r.value r.utf8 r.json)
    ∙ ap (λ o. or_fault 0 o >>= entries_of) outer
    ∙ ap (λ b. cond b (entries_after r.format r.known [] r.items >>= λ x. Ok (history_with f x)) (Err (TooMany MOST_ENTRIES))) few
    ∙ ap (λ (o : Result (List Column × List Entry) Refusal). o >>= λ x. Ok (history_with f x)) all
