-- The entries of a file, one after another from its tokens, and the part outside them from its outline.
use Rattle.std.proofs.Common.{◌≡◌, ◌∙◌, sym, ap, refl, subst, ℕ, ◌+◌, ◌-◌, ◌<◌, ◌≤◌, ◌==◌, Bool, true, false, cond, List, [], ◌∷◌, ◌++◌, length, arith, Option, Some, None, Result, Ok, Err, codes, nat_le, IsUtf8}
use Rattle.std.specs.Prelude.{option_and_then, option_map, is_some, IfSome}
use Rattle.std.specs.Str.{is_utf8}
use Rattle.std.proofs.lemmas.Bool.Decides.{nat_tests}
use Rattle.std.proofs.lemmas.Option.{none-some, same_Some}
use Rattle.std.proofs.lemmas.Str.{IsUtf8-from_is_utf8, is_utf8-from_IsUtf8}
use Rattle.json.specs.Token.{Token}
use Rattle.json.specs.Json as json
use Rattle.json.specs.Json.{Parse, after_end_array, items, parse_map}
use Rattle.json.specs.Lex.{tokens}
use Rattle.serde_json.specs.Data.{Data, Items, Members, array, boolean, item, null, number, object, string}
use Rattle.serde_json.specs.Find.{as_array, as_number, as_u64, get_member}
use Rattle.serde_json.specs.Read.{converted, of_items, of_json, read}
use Rattle.serde_json.specs.View.{members_view}
use Rattle.sw_rows.specs.Header.{Column, header_of}
use Rattle.std.specs.Result.{result_ok}
use Rattle.sw_table.specs.Packed.{Packed}
use Rattle.sw_table.specs.declared.row.Row.{Row}
use Rattle.sw_query.specs.declared.refusal.Refusal.{Refusal}
use Rattle.sw_query.specs.declared.refusal.Refusal.TheVariants as refusal
use Rattle.sw_query.specs.declared.refusal.Refusal.TheVariants.{BadLine, TooMany}
use Rattle.sw_query.specs.declared.refusal.Why.TheVariants as why
use Rattle.sw_lang.specs.Reading.{Answers}
use Rattle.sw_rows.specs.declared.table.TheConstants.{MOST_ROWS}
use Rattle.sw_spine.specs.declared.history.Entry.{Entry}
use Rattle.sw_spine.specs.declared.spine.TheConstants.{MOST_ENTRIES}
use Rattle.sw_histories.specs.Told.{◌>>=◌}
use Rattle.sw_histories.specs.RecordReading.{Frame, array_at, columns_in, entries_after, entries_of, entry_in, entry_learned, frame, frame_of, has_members, history_of, history_with, in_range, limit_in, items_list, or_fault, record_at, rows_up_to, texts_after}
use Rattle.sw_histories.specs.RecordText.{least_format}
use Rattle.sw_histories.specs.FromTokens.{IsCount}
use Rattle.sw_histories.specs.Outlines.{AreRows, IsOutlineOf, Stands, after_brace, emptied, front_as, front_of, outline_at, outline_of, outside_in, outside_of, record_in, values_after, values_at, without_items}
use Rattle.sw_histories.specs.declared.reading.outline.ItemsAt.{ItemsAt}
use Rattle.sw_histories.specs.declared.reading.outline.Outline.{Outline}
use Rattle.sw_histories.specs.declared.reading.Front.{Front}
use Rattle.sw_histories.proofs.Found.ValueReading.{item_read, item_refused, items_over}
use Rattle.sw_histories.proofs.Found.OutlineLemmas.{outline_get, outline_long}

-- what is so of what there is, is so of that
pub some_at : {A : Type 0} (o : Option A) (x : A) (P : A → Type 0) → o ≡ Some x → IfSome o P → P x
some_at o x P e h = subst (λ y. IfSome y P) e h

-- ---- entries

-- the data of what was read of a list
abbrev pub listed : Option (Items × List Token) → Option (List Data)
listed o = option_map (λ p. items_list p.0) o

module _ (p : Parse json.Json) where
  parted : (d : Data) (left : List Data) (o : Option (Items × List Token)) → listed (parse_map (item d) o) ≡ Some left → (rest : List Data) × (left ≡ d ∷ rest) × (listed o ≡ Some rest)
  parted d left None e = absurd cc
  parted d left (Some q) e = (items_list q.0, sym (same_Some (d ∷ items_list q.0) left e), refl)

  -- one value more
  pub value_more : (n : ℕ) (ts r : List Token) (d : Data) (left : List Data) → 0 < n → after_end_array ts ≡ None → converted of_json (p ts) ≡ Some (d, r) → listed (converted of_items (items p n ts)) ≡ Some left
      → (rest : List Data) × (left ≡ d ∷ rest) × (listed (converted of_items (items p (n - 1) r)) ≡ Some rest)
  value_more n ts r d left some going is e = parted d left (converted of_items (items p (n - 1) r)) (sym (ap listed (item_read p n ts r d some going is)) ∙ e)

  -- of a list that goes on and was read, the next value was read
  pub value_there : (n : ℕ) (ts : List Token) (left : List Data) → after_end_array ts ≡ None → converted of_json (p ts) ≡ None → listed (converted of_items (items p n ts)) ≡ Some left → ⊥
  value_there n ts left going none e = none-some left (sym (ap listed (item_refused p n ts going none)) ∙ e)

  -- of a list that is over, no values are left, n being at least the number of tokens
  pub values_over : (n : ℕ) (ts r : List Token) (left : List Data) → length ts ≤ n → after_end_array ts ≡ Some r → listed (converted of_items (items p n ts)) ≡ Some left → left ≡ []
  values_over n ts r left enough over e = sym (same_Some [] left (sym (ap listed (items_over p n ts r enough over)) ∙ e))

-- a refusal goes on through what would come next
pub answers_bind : {A B : Type 0} (e : Refusal) (said : Result A Refusal) (f : A → Result B Refusal) → Answers {A = A} (Err e) said → Answers {A = B} (Err e) (said >>= f)
answers_bind refusal.NoMemory said f h = tt
answers_bind {A} e said f h = ap (λ (r : Result A Refusal). r >>= f) h

-- an entry's fault is that of the entries from there on
pub entry_fault : (format : ℕ) (columns : List Column) (es : List Entry) (d : Data) (ds : List Data) (n : ℕ) (e : Refusal) → n ≡ length es + 1 → Answers {A = Entry} (Err e) (entry_in format columns n d) → Answers {A = List Column × List Entry} (Err e) (entries_after format columns es (d ∷ ds))
entry_fault format columns es d ds n e place h =
    let now = entry_learned columns d in
    subst (λ m. Answers {A = List Column × List Entry} (Err e) (entry_in format columns m d >>= λ x. entries_after format now (es ++ x ∷ []) ds)) place (answers_bind {A = Entry} {B = List Column × List Entry} e (entry_in format columns n d) (λ x. entries_after format now (es ++ x ∷ []) ds) h)

-- ---- the part outside the entries

abbrev frame_from : Option (List Column × ℕ) → Option ℕ → Option (List Data) → Option (List Data) → Option Frame
frame_from cs l rs es =
    option_and_then (λ c. option_and_then (λ limit. option_and_then (λ r. option_map (λ items. frame r.0 c.1 limit r.1 items) es) (option_and_then (rows_up_to c.0 limit) rs)) l) cs

abbrev with_items : List Data → Frame → Frame
with_items ds f = frame f.columns f.format f.limit f.rows ds

nothing_in : (format limit : ℕ) (rs : Option (List Column × List Row)) → option_and_then (λ r. option_map {T = List Data} {U = Frame} (λ items. frame r.0 format limit r.1 items) None) rs ≡ None
nothing_in format limit None = refl
nothing_in format limit (Some r) = refl

from_none : (cs : Option (List Column × ℕ)) (l : Option ℕ) (rs : Option (List Data)) → frame_from cs l rs None ≡ None
from_none None l rs = refl
from_none (Some c) None rs = refl
from_none (Some c) (Some limit) rs = nothing_in c.1 limit (option_and_then (rows_up_to c.0 limit) rs)

same_map : (f : Data → Data) (o : Option Data) → ((d : Data) → f d ≡ d) → option_map f o ≡ o
same_map f None h = refl
same_map f (Some d) h = ap (λ x. Some x) (h d)

-- outside the entries the outline has the same members
kept_get : (k : List ℕ) (ms : Members) → ((d : Data) → outline_at k d ≡ d) → get_member k (outline_of ms) ≡ get_member k ms
kept_get k ms h = outline_get k ms ∙ same_map (outline_at k) (get_member k ms) h

-- a value stands in the outline where it stands in the object
is_array_kept : (o : Option Data) → is_some (option_map items_list (option_and_then as_array (option_map emptied o))) ≡ is_some (option_map items_list (option_and_then as_array o))
is_array_kept None = refl
is_array_kept (Some null) = refl
is_array_kept (Some (boolean b)) = refl
is_array_kept (Some (number n)) = refl
is_array_kept (Some (string s)) = refl
is_array_kept (Some (array xs)) = refl
is_array_kept (Some (object ms)) = refl

same_test : (ms : Members) → has_members 5 (object (outline_of ms)) ≡ has_members 5 (object ms)
same_test ms = ap (λ n. n == 5) (outline_long ms)

-- the attributes and the format of these members, if they are there
abbrev columns_from : Option Data → Option Data → Option (List Column × ℕ)
columns_from names format =
    option_and_then (λ columns. option_map (λ n. (columns, n)) (option_and_then (in_range (least_format columns) 3) (option_and_then as_u64 (option_and_then as_number format))))
    (option_and_then (λ ts. result_ok (header_of ts)) (option_and_then (texts_after []) (option_map items_list (option_and_then as_array names))))

abbrev front_from : Bool → Bool → Option (List Column × ℕ) → Option ℕ → Option ((List Column × ℕ) × ℕ)
front_from b some cs l = option_and_then (λ limit. option_map (λ columns. (columns, limit)) cs) (cond b (cond some l None) None)

-- the front is that of the outline
same_front : (ms : Members) → front_of (object (outline_of ms)) ≡ front_of (object ms)
same_front ms =
    let u = object (outline_of ms) in
    let d = object ms in
    let columns : columns_in u ≡ columns_in d =
    ap (λ o. columns_from o (get_member (codes "format") (outline_of ms))) (kept_get (codes "attributes") ms (λ d. refl))
    ∙ ap (columns_from (get_member (codes "attributes") ms)) (kept_get (codes "format") ms (λ d. refl)) in
    let limit : limit_in u ≡ limit_in d = ap (λ o. option_and_then (in_range 1 MOST_ROWS) (option_and_then as_u64 (option_and_then as_number o))) (kept_get (codes "limit") ms (λ d. refl)) in
    let some : is_some (array_at (codes "entries") u) ≡ is_some (array_at (codes "entries") d) =
    ap (λ o. is_some (option_map items_list (option_and_then as_array o))) (outline_get (codes "entries") ms)
    ∙ is_array_kept (get_member (codes "entries") ms) in
    ap (λ b. front_from b (is_some (array_at (codes "entries") u)) (columns_in u) (limit_in u)) (same_test ms)
    ∙ ap (λ b. front_from (has_members 5 d) b (columns_in u) (limit_in u)) some
    ∙ ap (λ cs. front_from (has_members 5 d) (is_some (array_at (codes "entries") d)) cs (limit_in u)) columns
    ∙ ap (λ l. front_from (has_members 5 d) (is_some (array_at (codes "entries") d)) (columns_in d) l) limit

-- what the front and the values of rows make of the part outside the entries
abbrev pub outer_from : List Data → (List Column × ℕ) × ℕ → Option Frame
outer_from ds f = option_map (λ r. frame r.0 f.0.1 f.1 r.1 []) (rows_up_to f.0.0 f.1 ds)

rows_without : (format limit : ℕ) (es : List Data) (rs : Option (List Column × List Row))
    → option_map without_items (option_and_then (λ r. option_map (λ items. frame r.0 format limit r.1 items) (Some es)) rs) ≡ option_map (λ r. frame r.0 format limit r.1 []) rs
rows_without format limit es None = refl
rows_without format limit es (Some r) = refl

outer_is : (b : Bool) (cs : Option (List Column × ℕ)) (l : Option ℕ) (es : Option (List Data)) (ds : List Data)
    → option_map without_items (cond b (frame_from cs l (Some ds) es) None) ≡ option_and_then (outer_from ds) (front_from b (is_some es) cs l)
outer_is false cs l es ds = refl
outer_is true cs l None ds = ap (option_map without_items) (from_none cs l (Some ds))
outer_is true None None (Some xs) ds = refl
outer_is true None (Some limit) (Some xs) ds = refl
outer_is true (Some c) None (Some xs) ds = refl
outer_is true (Some c) (Some limit) (Some xs) ds = rows_without c.1 limit xs (rows_up_to c.0 limit ds)

abbrev outer_by : Members → Option (List Data) → Option (List Data) → Option Frame
outer_by ms rs es = cond (has_members 5 (object ms)) (frame_from (columns_in (object ms)) (limit_in (object ms)) rs es) None

-- the part outside the entries is that of the outline's front, with the rows
pub outside_is : (ms : Members) (ds : List Data) → array_at (codes "rows") (object ms) ≡ Some ds → outside_of (object ms) ≡ option_and_then (outer_from ds) (front_of (object (outline_of ms)))
outside_is ms ds h =
    ap (λ rs. option_map without_items (outer_by ms rs (array_at (codes "entries") (object ms)))) h
    ∙ outer_is (has_members 5 (object ms)) (columns_in (object ms)) (limit_in (object ms)) (array_at (codes "entries") (object ms)) ds
    ∙ ap (option_and_then (outer_from ds)) (sym (same_front ms))

none_either : {A : Type 0} (b : Bool) → ◌≡◌ {A = Option A} (cond b None None) None
none_either true = refl
none_either false = refl

-- without entries there is no frame
pub no_entries : (ms : Members) → array_at (codes "entries") (object ms) ≡ None → frame_of (object ms) ≡ None
no_entries ms h =
    let rs = array_at (codes "rows") (object ms) in
    ap (outer_by ms rs) h
    ∙ ap (λ f. cond (has_members 5 (object ms)) f None) (from_none (columns_in (object ms)) (limit_in (object ms)) rs)
    ∙ none_either (has_members 5 (object ms))

items_put : (format limit : ℕ) (ds : List Data) (rs : Option (List Column × List Row))
    → option_and_then (λ r. option_map (λ items. frame r.0 format limit r.1 items) (Some ds)) rs
    ≡ option_map (with_items ds) (option_map without_items (option_and_then (λ r. option_map (λ items. frame r.0 format limit r.1 items) (Some ds)) rs))
items_put format limit ds None = refl
items_put format limit ds (Some r) = refl

with_entries : (b : Bool) (cs : Option (List Column × ℕ)) (l : Option ℕ) (rs : Option (List Data)) (ds : List Data)
    → cond b (frame_from cs l rs (Some ds)) None ≡ option_map (with_items ds) (option_map without_items (cond b (frame_from cs l rs (Some ds)) None))
with_entries false cs l rs ds = refl
with_entries true None l rs ds = refl
with_entries true (Some c) None rs ds = refl
with_entries true (Some c) (Some limit) rs ds = items_put c.1 limit ds (option_and_then (rows_up_to c.0 limit) rs)

-- the frame is the part outside the entries, with the entries
frame_outside : (ms : Members) (ds : List Data) → array_at (codes "entries") (object ms) ≡ Some ds → frame_of (object ms) ≡ option_map (with_items ds) (outside_of (object ms))
frame_outside ms ds h =
    let by = outer_by ms (array_at (codes "rows") (object ms)) in
    ap by h
    ∙ with_entries (has_members 5 (object ms)) (columns_in (object ms)) (limit_in (object ms)) (array_at (codes "rows") (object ms)) ds
    ∙ ap (λ es. option_map (with_items ds) (option_map without_items (by es))) (sym h)

-- what was read of the part outside the entries is the frame's
pub outer_some : (ms : Members) (ds : List Data) (columns : List Column) (format limit : ℕ) (rows : List Row) → array_at (codes "entries") (object ms) ≡ Some ds → Some (frame columns format limit rows []) ≡ outside_of (object ms) → frame_of (object ms) ≡ Some (frame columns format limit rows ds)
outer_some ms ds columns format limit rows there h = frame_outside ms ds there ∙ ap (option_map (with_items ds)) (sym h)

-- no frame where the part outside is none
pub outer_none : (ms : Members) (ds : List Data) → array_at (codes "entries") (object ms) ≡ Some ds → None ≡ outside_of (object ms) → frame_of (object ms) ≡ None
outer_none ms ds there h = frame_outside ms ds there ∙ ap (option_map (with_items ds)) (sym h)

-- ---- the record

-- no record where there is no frame
pub no_record : (text : List ℕ) (ms : Members) → read text ≡ Some (object ms) → frame_of (object ms) ≡ None → record_in text ≡ Err (BadLine 0 why.History)
no_record text ms is none = ap (λ o. or_fault 0 o >>= history_of) is ∙ ap (λ f. or_fault 0 f >>= entries_of) none

-- a text whose frame is read has the record that its entries make
pub record_is : (text : List ℕ) (ms : Members) (f : Frame) → read text ≡ Some (object ms) → frame_of (object ms) ≡ Some f → record_in text ≡ entries_of f
record_is text ms f is there = ap (λ o. or_fault 0 o >>= history_of) is ∙ ap (λ x. or_fault 0 x >>= entries_of) there

-- more entries than may be are refused
pub too_many : (f : Frame) → MOST_ENTRIES < length f.items → entries_of f ≡ Err (TooMany MOST_ENTRIES)
too_many f many = let test : nat_le (length f.items) MOST_ENTRIES ≡ false = grind (arith, nat_tests, many) in rw test refl

-- as many entries as may be are read one by one
pub few_enough : (f : Frame) → length f.items ≤ MOST_ENTRIES → entries_of f ≡ (entries_after f.format f.columns [] f.items >>= λ r. Ok (history_with f r))
few_enough f few = let test : nat_le (length f.items) MOST_ENTRIES ≡ true = grind (arith, nat_tests, few) in rw test refl

-- bytes that are a text are read as it
pub text_record : (bytes : List ℕ) → IsUtf8 bytes → record_at bytes ≡ record_in bytes
unfolding record_at
text_record bytes text = let utf8 : is_utf8 bytes ≡ true = is_utf8-from_IsUtf8 bytes text in rw utf8 refl

not_text : (bytes : List ℕ) (b : Bool) → is_utf8 bytes ≡ b → ¬ (IsUtf8 bytes) → is_utf8 bytes ≡ false
not_text bytes true e h = absurd (h (IsUtf8-from_is_utf8 bytes e))
not_text bytes false e h = e

-- bytes that are none are no history
pub other_record : (bytes : List ℕ) → ¬ (IsUtf8 bytes) → record_at bytes ≡ Err (BadLine 0 why.History)
unfolding record_at
other_record bytes h = rw (not_text bytes (is_utf8 bytes) refl h) refl

-- ---- where items stand

-- items stand where an outline tells it
pub stand_some : (name : List ℕ) (o : Option ItemsAt) (i : ItemsAt) (ms : Members) (ts : List Token) → o ≡ Some i → Stands name o ms ts → Stands name (Some i) ms ts
stand_some name o i ms ts is h = subst (λ x. Stands name x ms ts) is h

-- the items of a member that was passed over: their values, in the object and in the text
pub record AreValues (name text : List ℕ) (all : Members) (i : ItemsAt) : Type 0 where
  pub values : List Data
  pub there : array_at name (object all) ≡ Some values
  pub stands : values_at i.place (tokens text) ≡ Some values
  pub counted : IsCount i.count (length values)

stood_at : (name text : List ℕ) (all : Members) (begun : List Token) (o : Option ItemsAt) (i : ItemsAt) → after_brace (tokens text) ≡ Some begun → Stands name o all begun → o ≡ Some i → AreValues name text all i
stood_at name text all begun o i begins h is =
    let at = stand_some name o i all begun is h in
    record {
      values = at.0;
      there = at.1;
      stands = ap (option_and_then (values_after i.place)) begins ∙ at.2;
      counted = at.3;
    }

-- the entries that an outline tells of stand there
pub stood : (text : List ℕ) (o : Outline) (i : ItemsAt) (h : IsOutlineOf text o) → o.entries ≡ Some i → AreValues (codes "entries") text h.all i
stood text o i h is = stood_at (codes "entries") text h.all h.begun o.entries i h.is_begun h.entries is

-- the rows that it tells of stand there
pub rows_stood : (text : List ℕ) (o : Outline) (i : ItemsAt) (h : IsOutlineOf text o) → o.rows ≡ Some i → AreValues (codes "rows") text h.all i
rows_stood text o i h is = stood_at (codes "rows") text h.all h.begun o.rows i h.is_begun h.rows is

-- what a front that was read makes of the part outside the entries, with the values of the rows
pub outer_read : (text : List ℕ) (o : Outline) (i : ItemsAt) (f : Option Front) (h : IsOutlineOf text o) (at : AreValues (codes "rows") text h.all i)
    → option_map front_as f ≡ front_of (object (members_view o.members.entries)) → outside_in text ≡ option_and_then (outer_from at.values) (option_map front_as f)
outer_read text o i f h at told =
    ap (option_and_then outside_of) h.read ∙ outside_is h.all at.values at.there
    ∙ ap (option_and_then (outer_from at.values)) (sym (told ∙ ap (λ ms. front_of (object ms)) h.outline))

-- packed rows that are the same are told alike
pub rows_said : (said : Option (List Column × List Row)) (columns : List Column) (o p : Option Packed) → AreRows said columns o → o ≡ p → AreRows said columns p
rows_said said columns o p h is = subst (AreRows said columns) is h
