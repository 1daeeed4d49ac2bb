-- The reader finds just what the grammar of files relates.
use Rattle.std.proofs.Common.{◌≡◌, ◌∙◌, sym, ap, refl, subst, ℕ, ℤ, pos, ◌+◌, ◌<◌, ◌≤◌, ◌^◌, ◌==◌, ◌&&◌, ◌||◌, ◌⊎◌, inl, inr, Bool, true, false, not, true≢false, cond, List, [], ◌∷◌, ◌++◌, length, length-append, map, append_assoc, arith, bytes_eq, codes, Option, Some, None, Result, Ok, Err, nat_le, nat_lt}
use Rattle.std.specs.List.{cons_option}
use Rattle.std.specs.Prelude.{filter_map, option_and_then, option_map, unwrap_or}
use Rattle.std.specs.Ordering.{int_eq}
use Rattle.std.specs.Result.{result_ok}
use Rattle.std.proofs.lemmas.Bool.{and_parts}
use Rattle.std.proofs.lemmas.Bool.Decides.{Decides-int_eq, nat_tests}
use Rattle.std.proofs.lemmas.List.{append-nil}
use Rattle.std.proofs.lemmas.Option.{none-some, same_Some}
use Rattle.std.proofs.lemmas.Slice.Eq.{bytes_eq-Decides}
use Rattle.serde_json.specs.Data.{Data, Items, array, boolean, float, item, negative, no_items, null, number, object, string, unsigned}
use Rattle.serde_json.specs.Events.{members_len}
use Rattle.serde_json.specs.Find.{as_array, as_i64, as_number, as_str, as_u64, get}
use Rattle.serde_json.specs.View.{items_of}
use Rattle.sw_rows.specs.Domains.{Domain}
use Rattle.sw_rows.specs.Domains as kind
use Rattle.sw_rows.specs.Header.{Column, Fault as TableFault, header_of, kinds_of}
use Rattle.sw_rows.specs.Spelling.{WritesHeader}
use Rattle.sw_rows.specs.Tables.{padded, row_of}
use Rattle.sw_rows.specs.Texts.{code_of, is_text}
use Rattle.sw_query.specs.declared.query.Call.{Call}
use Rattle.sw_rows.specs.declared.table.TheConstants.{MOST_ROWS}
use Rattle.sw_rows.proofs.Schemas.HeaderSpelling.{header_read_back, header_spelled}
use Rattle.sw_rows.proofs.Options.{if_some, then_some}
use Rattle.sw_table.specs.declared.row.Row.{Row}
use Rattle.sw_lang.specs.Learning.{knowing, learned}
use Rattle.sw_spine.specs.History.{History, is_select}
use Rattle.sw_spine.specs.declared.history.Entry.{Entry}
use Rattle.sw_spine.specs.declared.history.State.{State}
use Rattle.sw_spine.specs.declared.history.State.TheVariants as state
use Rattle.sw_spine.specs.declared.spine.TheConstants.{MOST_SESSIONS}
use Rattle.sw_histories.specs.RecordReading.{array_at, cell_in, cells_after, cells_of, entry_learned, has_members, header_in, in_range, items_list, number_at, of_kind, record_at, row_in, row_learned, rows_after, rows_in, rows_up_to, state_of, text_at, text_in, texts_after, texts_at, with_row, word_in}
use Rattle.sw_histories.specs.RecordRelation.{AreCells, AreEntries, AreRows, HasMembers, IsCell, IsEntry, IsRecord, IsReply, IsRow, IsWhole, IsWithin, texts_among}
use Rattle.sw_histories.specs.RecordText.{is_delete_where, least_format, list_data, texts_data}
use Rattle.sw_histories.proofs.Found.ReadParts.{AreReadEntries, IsReadEntry}
use Rattle.sw_histories.proofs.Back.RecordLaws.{record_found, record_only}
use Rattle.sw_histories.proofs.Found.RecordReadingLemmas.{list_items, map_some}

-- ---- members

items_again : (is : Items) → items_of (items_list is) ≡ is
items_again no_items = refl
items_again (item d is) = ap (item d) (items_again is)

is_array : (d : Data) (is : Items) → as_array d ≡ Some is → d ≡ array is
is_array null is h = absurd (none-some is h)
is_array (boolean b) is h = absurd (none-some is h)
is_array (number n) is h = absurd (none-some is h)
is_array (string s) is h = absurd (none-some is h)
is_array (array ds) is h = ap (λ l. array l) (same_Some ds is h)
is_array (object ms) is h = absurd (none-some is h)

list_of : (d : Data) (is : Items) (ds : List Data) → as_array d ≡ Some is → items_list is ≡ ds → d ≡ list_data ds
list_of d is ds h same = is_array d is h ∙ ap (λ l. array l) (sym (items_again is) ∙ ap items_of same)

array_found : (name : List ℕ) (d : Data) (ds : List Data) → array_at name d ≡ Some ds → get name d ≡ Some (list_data ds)
array_found name d ds h =
    let is = map_some {A = Items} {B = List Data} items_list (option_and_then as_array (get name d)) ds h in
    let v = then_some {A = Data} {B = Items} as_array (get name d) is.0 is.1 in
    v.1 ∙ ap (λ x. Some x) (list_of v.0 is.0 ds v.2 is.2)

array_only : (name : List ℕ) (d : Data) (ds : List Data) → get name d ≡ Some (list_data ds) → array_at name d ≡ Some ds
array_only name d ds h =
    ap (λ o. option_map items_list (option_and_then as_array o)) h ∙ ap (λ l. Some l) (list_items ds)

is_unsigned : (d : Data) (n : ℕ) → option_and_then as_u64 (as_number d) ≡ Some n → d ≡ number (unsigned n)
is_unsigned null n h = absurd (none-some n h)
is_unsigned (boolean b) n h = absurd (none-some n h)
is_unsigned (number (unsigned k)) n h = ap (λ m. number (unsigned m)) (same_Some k n h)
is_unsigned (number (negative z)) n h = absurd (none-some n h)
is_unsigned (number (float x)) n h = absurd (none-some n h)
is_unsigned (string s) n h = absurd (none-some n h)
is_unsigned (array ds) n h = absurd (none-some n h)
is_unsigned (object ms) n h = absurd (none-some n h)

and_then : (o : Option Data) (n : ℕ) → option_and_then as_u64 (option_and_then as_number o) ≡ Some n → (d : Data) × (o ≡ Some d) × (option_and_then as_u64 (as_number d) ≡ Some n)
and_then None n h = absurd (none-some n h)
and_then (Some d) n h = (d, refl, h)

number_found : (name : List ℕ) (d : Data) (n : ℕ) → number_at name d ≡ Some n → get name d ≡ Some (number (unsigned n))
number_found name d n h =
    let v = and_then (get name d) n h in
    v.1 ∙ ap (λ x. Some x) (is_unsigned v.0 n v.2)

number_only : (name : List ℕ) (d : Data) (n : ℕ) → get name d ≡ Some (number (unsigned n)) → number_at name d ≡ Some n
number_only name d n h = ap (λ o. option_and_then as_u64 (option_and_then as_number o)) h

within_of : (least most n : ℕ) → (nat_le least n && nat_le n most) ≡ true → IsWithin least most n
within_of least most n h =
    let low : least ≤ n = grind (arith, nat_tests, h) in
    let high : n ≤ most = grind (arith, nat_tests, h) in
    (low, high)

within_back : (least most n : ℕ) → IsWithin least most n → (nat_le least n && nat_le n most) ≡ true
within_back least most n h =
    let low = h.0 in
    let high = h.1 in
    grind (arith, nat_tests, low, high)

ranged_found : (least most : ℕ) (name : List ℕ) (d : Data) (n : ℕ) → option_and_then (in_range least most) (number_at name d) ≡ Some n → (get name d ≡ Some (number (unsigned n))) × IsWithin least most n
ranged_found least most name d n h =
    let m = then_some {A = ℕ} {B = ℕ} (in_range least most) (number_at name d) n h in
    let inside = if_some {A = ℕ} (nat_le least m.0 && nat_le m.0 most) (Some m.0) n m.2 in
    let same : m.0 ≡ n = same_Some m.0 n inside.1 in
    (number_found name d n (m.1 ∙ inside.1), subst (IsWithin least most) same (within_of least most m.0 inside.0))

ranged_only : (least most : ℕ) (name : List ℕ) (d : Data) (n : ℕ) → get name d ≡ Some (number (unsigned n)) → IsWithin least most n → option_and_then (in_range least most) (number_at name d) ≡ Some n
ranged_only least most name d n is within =
    ap (option_and_then (in_range least most)) (number_only name d n is)
    ∙ ap (λ b. cond b (Some n) None) (within_back least most n within)

members_found : (n : ℕ) (d : Data) → has_members n d ≡ true → HasMembers n d
members_found n null h = absurd cc
members_found n (boolean b) h = absurd cc
members_found n (number x) h = absurd cc
members_found n (string s) h = absurd cc
members_found n (array ds) h = absurd cc
members_found n (object ms) h =
    let many : members_len ms ≡ n = grind (arith, nat_tests, h) in
    (ms, refl, many)

members_only : (n : ℕ) (d : Data) → HasMembers n d → has_members n d ≡ true
members_only n d h =
    let many = h.2 in
    let same : (members_len h.0 == n) ≡ true = grind (arith, nat_tests, many) in
    ap (has_members n) h.1 ∙ same

-- ---- texts

is_string : (d : Data) (s : List ℕ) → as_str d ≡ Some s → d ≡ string s
is_string null s h = absurd (none-some s h)
is_string (boolean b) s h = absurd (none-some s h)
is_string (number n) s h = absurd (none-some s h)
is_string (string t) s h = ap (λ x. string x) (same_Some t s h)
is_string (array ds) s h = absurd (none-some s h)
is_string (object ms) s h = absurd (none-some s h)

text_found : (name : List ℕ) (d : Data) (s : List ℕ) → text_at name d ≡ Some s → get name d ≡ Some (string s)
text_found name d s h =
    let v = then_some {A = Data} {B = List ℕ} as_str (get name d) s h in
    v.1 ∙ ap (λ x. Some x) (is_string v.0 s v.2)

text_only : (name : List ℕ) (d : Data) (s : List ℕ) → get name d ≡ Some (string s) → text_at name d ≡ Some s
text_only name d s h = ap (option_and_then as_str) h

abbrev strings : List (List ℕ) → List Data
strings ts = map (λ (t : List ℕ). string t) ts

texts_found : (done : List (List ℕ)) (ds : List Data) (ts : List (List ℕ)) → texts_after done ds ≡ Some ts → (more : List (List ℕ)) × (ds ≡ strings more) × (ts ≡ done ++ more)
texts_found done [] ts h = ([], refl, sym (same_Some done ts h) ∙ sym (append-nil done))
texts_found done (d ∷ ds) ts h =
    let s = then_some {A = List ℕ} {B = List (List ℕ)} (λ t. texts_after (done ++ t ∷ []) ds) (as_str d) ts h in
    let rest = texts_found (done ++ s.0 ∷ []) ds ts s.2 in
    (s.0 ∷ rest.0, ap (λ x. x ∷ ds) (is_string d s.0 s.1) ∙ ap (λ l. string s.0 ∷ l) rest.1, rest.2 ∙ append_assoc done (s.0 ∷ []) rest.0)

texts_only : (done more : List (List ℕ)) → texts_after done (strings more) ≡ Some (done ++ more)
texts_only done [] = ap (λ l. Some l) (sym (append-nil done))
texts_only done (t ∷ more) = texts_only (done ++ t ∷ []) more ∙ ap (λ l. Some l) (append_assoc done (t ∷ []) more)

-- ---- the header

ok_of : (r : Result (List Column) TableFault) (cs : List Column) → result_ok r ≡ Some cs → r ≡ Ok cs
ok_of (Ok x) cs h = ap (λ z. Ok z) (same_Some x cs h)
ok_of (Err e) cs h = absurd (none-some cs h)

record HasHeader (d : Data) (columns : List Column) : Type 0 where
  fields : List (List ℕ)
  are : get (codes "attributes") d ≡ Some (texts_data fields)
  header : WritesHeader fields columns

header_found : (d : Data) (columns : List Column) → header_in d ≡ Some columns → HasHeader d columns
header_found d columns h =
    let ts = then_some {A = List (List ℕ)} {B = List Column} (λ ts. result_ok (header_of ts)) (texts_at (codes "attributes") d) columns h in
    let ds = then_some {A = List Data} {B = List (List ℕ)} (texts_after []) (array_at (codes "attributes") d) ts.0 ts.1 in
    let found = texts_found [] ds.0 ts.0 ds.2 in
    let same : ds.0 ≡ strings ts.0 = found.1 ∙ ap strings (sym found.2) in
    record {
      fields = ts.0;
      are = array_found (codes "attributes") d ds.0 ds.1 ∙ ap (λ l. Some (list_data l)) same;
      header = header_spelled ts.0 columns (ok_of (header_of ts.0) columns ts.2);
    }

header_only : (d : Data) (fields : List (List ℕ)) (columns : List Column) → get (codes "attributes") d ≡ Some (texts_data fields) → WritesHeader fields columns → header_in d ≡ Some columns
header_only d fields columns are header =
    ap (λ o. option_and_then (λ ts. result_ok (header_of ts)) (option_and_then (texts_after []) o)) (array_only (codes "attributes") d (strings fields) are)
    ∙ ap (option_and_then (λ ts. result_ok (header_of ts))) (texts_only [] fields)
    ∙ ap result_ok (header_read_back fields columns header)

-- ---- cells

less_of : (n m : ℕ) → nat_lt n m ≡ true → n < m
less_of n m h = grind (arith, nat_tests, h)

less_back : (n m : ℕ) → n < m → nat_lt n m ≡ true
less_back n m h = grind (arith, nat_tests, h)

whole_found : (d : Data) (z : ℤ) → option_and_then as_i64 (as_number d) ≡ Some z → IsWhole d z
whole_found null z h = absurd (none-some z h)
whole_found (boolean b) z h = absurd (none-some z h)
whole_found (number (unsigned n)) z h =
    let inside = if_some {A = ℤ} (nat_lt n (2 ^ 63)) (Some (pos n)) z h in
    inl (n, refl, less_of n (2 ^ 63) inside.0, sym (same_Some (pos n) z inside.1))
whole_found (number (negative y)) z h = inr (ap (λ x. number (negative x)) (same_Some y z h))
whole_found (number (float x)) z h = absurd (none-some z h)
whole_found (string s) z h = absurd (none-some z h)
whole_found (array ds) z h = absurd (none-some z h)
whole_found (object ms) z h = absurd (none-some z h)

whole_only : (d : Data) (z : ℤ) → IsWhole d z → option_and_then as_i64 (as_number d) ≡ Some z
whole_only d z (inl (n, is, few, same)) =
    ap (λ x. option_and_then as_i64 (as_number x)) is
    ∙ ap (λ b. cond b (Some (pos n)) None) (less_back n (2 ^ 63) few)
    ∙ ap (λ y. Some y) (sym same)
whole_only d z (inr is) = ap (λ x. option_and_then as_i64 (as_number x)) is

flag_found : (x z : ℤ) → of_kind kind.Flag x ≡ Some z → (x ≡ z) × ((z ≡ pos 0) ⊎ (z ≡ pos 1))
flag_found x z h =
    let inside = if_some {A = ℤ} (int_eq x (pos 0) || int_eq x (pos 1)) (Some x) z h in
    let same : x ≡ z = same_Some x z inside.1 in
    (same, subst (λ y. (y ≡ pos 0) ⊎ (y ≡ pos 1)) same (by_tests (int_eq x (pos 0)) (int_eq x (pos 1)) refl refl inside.0))
  where
    by_tests : (a b : Bool) → int_eq x (pos 0) ≡ a → int_eq x (pos 1) ≡ b → (a || b) ≡ true → (x ≡ pos 0) ⊎ (x ≡ pos 1)
    by_tests true b p q h = inl ((Decides-int_eq x (pos 0)).0 p)
    by_tests false true p q h = inr ((Decides-int_eq x (pos 1)).0 q)
    by_tests false false p q h = absurd (true≢false (sym h))

flag_only : (z : ℤ) → (z ≡ pos 0) ⊎ (z ≡ pos 1) → (int_eq z (pos 0) || int_eq z (pos 1)) ≡ true
flag_only z (inl is) = subst (λ y. (int_eq y (pos 0) || int_eq y (pos 1)) ≡ true) (sym is) refl
flag_only z (inr is) = subst (λ y. (int_eq y (pos 0) || int_eq y (pos 1)) ≡ true) (sym is) refl

text_cell : (texts : List (List ℕ)) (d : Data) (z : ℤ) → cell_in (kind.Text texts) d ≡ Some z → IsCell (kind.Text texts) d z
text_cell texts d z h =
    let t = then_some {A = List ℕ} {B = ℤ} (λ t. option_map (λ n. pos n) (code_of texts t)) (text_in d) z h in
    let s = then_some {A = List ℕ} {B = List ℕ} (λ s. cond (is_text s) (Some s) None) (as_str d) t.0 t.1 in
    let inside = if_some {A = List ℕ} (is_text s.0) (Some s.0) t.0 s.2 in
    let same : s.0 ≡ t.0 = same_Some s.0 t.0 inside.1 in
    let c = map_some {A = ℕ} {B = ℤ} (λ n. pos n) (code_of texts t.0) z t.2 in
    (t.0, is_string d t.0 (s.1 ∙ inside.1), (subst (λ x. is_text x ≡ true) same inside.0, (c.0, c.1, sym c.2)))

cell_found : (k : Domain) (d : Data) (z : ℤ) → cell_in k d ≡ Some z → IsCell k d z
cell_found kind.Int d z h =
    let w = then_some {A = ℤ} {B = ℤ} (of_kind kind.Int) (option_and_then as_i64 (as_number d)) z h in
    subst (IsWhole d) (same_Some w.0 z w.2) (whole_found d w.0 w.1)
cell_found (kind.Fix places) d z h =
    let w = then_some {A = ℤ} {B = ℤ} (of_kind (kind.Fix places)) (option_and_then as_i64 (as_number d)) z h in
    subst (IsWhole d) (same_Some w.0 z w.2) (whole_found d w.0 w.1)
cell_found kind.Flag d z h =
    let w = then_some {A = ℤ} {B = ℤ} (of_kind kind.Flag) (option_and_then as_i64 (as_number d)) z h in
    let f = flag_found w.0 z w.2 in
    (subst (IsWhole d) f.0 (whole_found d w.0 w.1), f.1)
cell_found (kind.Text texts) d z h = text_cell texts d z h

cell_only : (k : Domain) (d : Data) (z : ℤ) → IsCell k d z → cell_in k d ≡ Some z
cell_only kind.Int d z w = ap (option_and_then (of_kind kind.Int)) (whole_only d z w)
cell_only (kind.Fix places) d z w = ap (option_and_then (of_kind (kind.Fix places))) (whole_only d z w)
cell_only kind.Flag d z c =
    ap (option_and_then (of_kind kind.Flag)) (whole_only d z c.0) ∙ ap (λ b. cond b (Some z) None) (flag_only z c.1)
cell_only (kind.Text texts) d z (t, is, (text, (code, coded, same))) =
    ap (cell_in (kind.Text texts)) is
    ∙ ap (λ b. option_and_then (λ t. option_map (λ n. pos n) (code_of texts t)) (cond b (Some t) None)) text
    ∙ ap (option_map (λ n. pos n)) coded
    ∙ ap (λ y. Some y) (sym same)

whole_text : (d : Data) (z : ℤ) → IsWhole d z → text_in d ≡ as_str d
whole_text d z (inl (n, is, few, same)) = ap text_in is ∙ sym (ap as_str is)
whole_text d z (inr is) = ap text_in is ∙ sym (ap as_str is)

text_same : (k : Domain) (d : Data) (z : ℤ) → IsCell k d z → text_in d ≡ as_str d
text_same kind.Int d z c = whole_text d z c
text_same (kind.Fix places) d z c = whole_text d z c
text_same kind.Flag d z c = whole_text d z c.0
text_same (kind.Text texts) d z (t, is, (text, coded)) = ap text_in is ∙ ap (λ b. cond b (Some t) None) text ∙ sym (ap as_str is)

texts_same : (ks : List Domain) (ds : List Data) (zs : List ℤ) → AreCells ks ds zs → filter_map text_in ds ≡ texts_among ds
texts_same [] [] [] h = refl
texts_same [] [] (z ∷ zs) h = absurd h
texts_same [] (d ∷ ds) [] h = absurd h
texts_same [] (d ∷ ds) (z ∷ zs) h = absurd h
texts_same (k ∷ ks) [] [] h = absurd h
texts_same (k ∷ ks) [] (z ∷ zs) h = absurd h
texts_same (k ∷ ks) (d ∷ ds) [] h = absurd h
texts_same (k ∷ ks) (d ∷ ds) (z ∷ zs) h =
    ap (λ o. cons_option o (filter_map text_in ds)) (text_same k d z h.0) ∙ ap (λ l. cons_option (as_str d) l) (texts_same ks ds zs h.1)

-- ---- rows

cells_found : (done : List ℤ) (ks : List Domain) (ds : List Data) (all : List ℤ) → length ds ≡ length ks → cells_after done ks ds ≡ Some all → (zs : List ℤ) × AreCells ks ds zs × (all ≡ done ++ zs)
cells_found done [] [] all long h = ([], tt, sym (same_Some done all h) ∙ sym (append-nil done))
cells_found done [] (d ∷ ds) all long h = absurd (omega (arith, long))
cells_found done (k ∷ ks) [] all long h = absurd (omega (arith, long))
cells_found done (k ∷ ks) (d ∷ ds) all long h =
    let z = then_some {A = ℤ} {B = List ℤ} (λ z. cells_after (done ++ z ∷ []) ks ds) (cell_in k d) all h in
    let rest = cells_found (done ++ z.0 ∷ []) ks ds all (omega (arith, long)) z.2 in
    (z.0 ∷ rest.0, (cell_found k d z.0 z.1, rest.1), rest.2 ∙ append_assoc done (z.0 ∷ []) rest.0)

cells_long : (ks : List Domain) (ds : List Data) (zs : List ℤ) → AreCells ks ds zs → length ds ≡ length ks
cells_long [] [] [] h = refl
cells_long [] [] (z ∷ zs) h = absurd h
cells_long [] (d ∷ ds) [] h = absurd h
cells_long [] (d ∷ ds) (z ∷ zs) h = absurd h
cells_long (k ∷ ks) [] [] h = absurd h
cells_long (k ∷ ks) [] (z ∷ zs) h = absurd h
cells_long (k ∷ ks) (d ∷ ds) [] h = absurd h
cells_long (k ∷ ks) (d ∷ ds) (z ∷ zs) h = omega (arith, cells_long ks ds zs h.1)

cells_only : (done : List ℤ) (ks : List Domain) (ds : List Data) (zs : List ℤ) → AreCells ks ds zs → cells_after done ks ds ≡ Some (done ++ zs)
cells_only done [] [] [] h = ap (λ l. Some l) (sym (append-nil done))
cells_only done [] [] (z ∷ zs) h = absurd h
cells_only done [] (d ∷ ds) [] h = absurd h
cells_only done [] (d ∷ ds) (z ∷ zs) h = absurd h
cells_only done (k ∷ ks) [] [] h = absurd h
cells_only done (k ∷ ks) [] (z ∷ zs) h = absurd h
cells_only done (k ∷ ks) (d ∷ ds) [] h = absurd h
cells_only done (k ∷ ks) (d ∷ ds) (z ∷ zs) h =
    ap (option_and_then (λ y. cells_after (done ++ y ∷ []) ks ds)) (cell_only k d z h.0)
    ∙ cells_only (done ++ z ∷ []) ks ds zs h.1
    ∙ ap (λ l. Some l) (append_assoc done (z ∷ []) zs)

record HasCells (kinds : List Domain) (d : Data) (cells : List ℤ) : Type 0 where
  items : List Data
  is : d ≡ list_data items
  zs : List ℤ
  are : AreCells kinds items zs
  same : cells ≡ padded zs

row_found : (kinds : List Domain) (d : Data) (cells : List ℤ) → row_in kinds d ≡ Some cells → HasCells kinds d cells
row_found kinds d cells h =
    let is = then_some {A = Items} {B = List ℤ} (λ ds. cells_of kinds (items_list ds)) (as_array d) cells h in
    let ds = items_list is.0 in
    let inside = if_some {A = List ℤ} (length ds == length kinds) (option_map padded (cells_after [] kinds ds)) cells is.2 in
    let all = map_some {A = List ℤ} {B = List ℤ} padded (cells_after [] kinds ds) cells inside.1 in
    let test = inside.0 in
    let long : length ds ≡ length kinds = grind (arith, nat_tests, test) in
    let found = cells_found [] kinds ds all.0 long all.1 in
    record { items = ds; is = list_of d is.0 ds is.1 refl; zs = found.0; are = found.1; same = sym all.2 ∙ ap padded found.2 }

row_only : (kinds : List Domain) (items : List Data) (zs : List ℤ) → AreCells kinds items zs → row_in kinds (list_data items) ≡ Some (padded zs)
row_only kinds items zs are =
    let long = cells_long kinds items zs are in
    let test : (length items == length kinds) ≡ true = grind (arith, nat_tests, long) in
    ap (cells_of kinds) (list_items items)
    ∙ ap (λ b. cond b (option_map padded (cells_after [] kinds items)) None) test
    ∙ ap (option_map padded) (cells_only [] kinds items zs are)

learned_same : (columns : List Column) (items : List Data) (ks : List Domain) (zs : List ℤ) → AreCells ks items zs → row_learned columns (list_data items) ≡ knowing (texts_among items) columns
learned_same columns items ks zs are =
    ap (λ l. knowing (filter_map text_in l) columns) (list_items items) ∙ ap (λ ts. knowing ts columns) (texts_same ks items zs are)

rows_found : (columns : List Column) (done : List Row) (ds : List Data) (r : List Column × List Row) → rows_after columns done ds ≡ Some r → (rows : List Row) × AreRows columns (length done + 1) ds r.0 rows × (r.1 ≡ done ++ rows)
rows_found columns done [] r h =
    let same : (columns, done) ≡ r = same_Some (columns, done) r h in
    ([], sym (ap (λ p. p.0) same), sym (ap (λ p. p.1) same) ∙ sym (append-nil done))
rows_found columns done (d ∷ ds) r h =
    let now = row_learned columns d in
    let parts = then_some {A = List ℤ} {B = List Column × List Row} (λ cells. rows_after now (with_row done cells) ds) (row_in (kinds_of now) d) r h in
    let has = row_found (kinds_of now) d parts.0 parts.1 in
    let next = knowing (texts_among has.items) columns in
    let known : now ≡ next = ap (row_learned columns) has.is ∙ learned_same columns has.items (kinds_of now) has.zs has.are in
    let key = length done + 1 in
    let one = row_of key parts.0 in
    let rest = rows_found now (with_row done parts.0) ds r parts.2 in
    let long : length (with_row done parts.0) + 1 ≡ key + 1 = omega (arith, length-append done (one ∷ [])) in
    let here : IsRow next key has.items one = (has.zs, subst (λ cs. AreCells (kinds_of cs) has.items has.zs) known has.are, ap (row_of key) has.same) in
    let later : AreRows next (key + 1) ds r.0 rest.0 = subst (λ n. AreRows next n ds r.0 rest.0) long (subst (λ cs. AreRows cs (length (with_row done parts.0) + 1) ds r.0 rest.0) known rest.1) in
    (one ∷ rest.0, (has.items, has.is, here, later), rest.2 ∙ append_assoc done (one ∷ []) rest.0)

rows_only : (columns : List Column) (done : List Row) (ds : List Data) (last : List Column) (rows : List Row) → AreRows columns (length done + 1) ds last rows → rows_after columns done ds ≡ Some (last, done ++ rows)
rows_only columns done [] last [] h = ap (λ cs. Some (cs, done)) (sym h) ∙ ap (λ l. Some (last, l)) (sym (append-nil done))
rows_only columns done [] last (r ∷ rows) h = absurd h
rows_only columns done (d ∷ ds) last [] h = absurd h
rows_only columns done (d ∷ ds) last (r ∷ rows) (items, is, (zs, are, same), later) =
    let next = knowing (texts_among items) columns in
    let known : row_learned columns d ≡ next = ap (row_learned columns) is ∙ learned_same columns items (kinds_of next) zs are in
    let read : row_in (kinds_of next) d ≡ Some (padded zs) = ap (row_in (kinds_of next)) is ∙ row_only (kinds_of next) items zs are in
    let long : length (done ++ r ∷ []) + 1 ≡ length done + 1 + 1 = omega (arith, length-append done (r ∷ [])) in
    ap (λ cs. option_and_then (λ cells. rows_after cs (with_row done cells) ds) (row_in (kinds_of cs) d)) known
    ∙ ap (option_and_then (λ cells. rows_after next (with_row done cells) ds)) read
    ∙ ap (λ x. rows_after next (done ++ x ∷ []) ds) (sym same)
    ∙ rows_only next (done ++ r ∷ []) ds last rows (subst (λ n. AreRows next n ds last rows) (sym long) later)
    ∙ ap (λ l. Some (last, l)) (append_assoc done (r ∷ []) rows)

record HasRows (named : List Column) (limit : ℕ) (d : Data) (known : List Column) (rows : List Row) : Type 0 where
  lines : List Data
  lines_are : get (codes "rows") d ≡ Some (list_data lines)
  few : length lines ≤ limit
  rows_are : AreRows named 1 lines known rows

all_rows_found : (named : List Column) (limit : ℕ) (d : Data) (known : List Column) (rows : List Row) → rows_in named limit d ≡ Some (known, rows) → HasRows named limit d known rows
all_rows_found named limit d known rows h =
    let ds = then_some {A = List Data} {B = List Column × List Row} (rows_up_to named limit) (array_at (codes "rows") d) (known, rows) h in
    let inside = if_some {A = List Column × List Row} (nat_le (length ds.0) limit) (rows_after named [] ds.0) (known, rows) ds.2 in
    let found = rows_found named [] ds.0 (known, rows) inside.1 in
    let test = inside.0 in
    let few : length ds.0 ≤ limit = grind (arith, nat_tests, test) in
    record { lines = ds.0; lines_are = array_found (codes "rows") d ds.0 ds.1; few = few; rows_are = subst (AreRows named 1 ds.0 known) (sym found.2) found.1 }

all_rows_only : (named : List Column) (limit : ℕ) (d : Data) (known : List Column) (rows : List Row) → HasRows named limit d known rows → rows_in named limit d ≡ Some (known, rows)
all_rows_only named limit d known rows h =
    let few = h.few in
    let test : nat_le (length h.lines) limit ≡ true = grind (arith, nat_tests, few) in
    ap (option_and_then (rows_up_to named limit)) (array_only (codes "rows") d h.lines h.lines_are)
    ∙ ap (λ b. cond b (rows_after named [] h.lines) None) test
    ∙ rows_only named [] h.lines known rows h.rows_are

-- ---- entries

word_found : (c : Call) (s : List ℕ) (st : State) → word_in c s ≡ Some st → IsReply c (string s) st
word_found c s st h = first (is_select c && bytes_eq s (codes "open")) refl h
  where
    second : (b : Bool) → (is_select c && bytes_eq s (codes "void")) ≡ b → cond b (Some state.Void) None ≡ Some st → IsReply c (string s) st
    second true e h =
        let parts = and_parts (is_select c) (bytes_eq s (codes "void")) e in
        subst (IsReply c (string s)) (same_Some state.Void st h) (ap (λ x. string x) ((bytes_eq-Decides s (codes "void")).0 parts.1), parts.0)
    second false e h = absurd (none-some st h)

    first : (b : Bool) → (is_select c && bytes_eq s (codes "open")) ≡ b → cond b (Some state.Open) (cond (is_select c && bytes_eq s (codes "void")) (Some state.Void) None) ≡ Some st → IsReply c (string s) st
    first true e h =
        let parts = and_parts (is_select c) (bytes_eq s (codes "open")) e in
        subst (IsReply c (string s)) (same_Some state.Open st h) (ap (λ x. string x) ((bytes_eq-Decides s (codes "open")).0 parts.1), parts.0)
    first false e h = second (is_select c && bytes_eq s (codes "void")) refl h

reply_found : (c : Call) (d : Data) (st : State) → state_of c d ≡ Some st → IsReply c d st
reply_found c null st h = absurd (none-some st h)
reply_found c (boolean b) st h = absurd (none-some st h)
reply_found c (number x) st h = absurd (none-some st h)
reply_found c (string s) st h = word_found c s st h
reply_found c (array ds) st h =
    let m = map_some {A = List (List ℕ)} {B = State} (λ ls. state.Lines ls) (texts_after [] (items_list ds)) st h in
    let found = texts_found [] (items_list ds) m.0 m.1 in
    subst (IsReply c (array ds)) m.2 (list_of (array ds) ds (strings m.0) refl (found.1 ∙ ap strings (sym found.2)))
reply_found c (object ms) st h = absurd (none-some st h)

reply_only : (c : Call) (d : Data) (st : State) → IsReply c d st → state_of c d ≡ Some st
reply_only c d (state.Answered r) h = absurd h
reply_only c d (state.Lines ls) h =
    ap (state_of c) h
    ∙ ap (λ l. option_map (λ ls. state.Lines ls) (texts_after [] l)) (list_items (strings ls))
    ∙ ap (option_map (λ ls. state.Lines ls)) (texts_only [] ls)
reply_only c d state.Open h =
    ap (state_of c) h.0
    ∙ ap (λ b. cond (b && bytes_eq (codes "open") (codes "open")) (Some state.Open) (cond (b && bytes_eq (codes "open") (codes "void")) (Some state.Void) None)) h.1
reply_only c d state.Void h =
    ap (state_of c) h.0
    ∙ ap (λ b. cond (b && bytes_eq (codes "void") (codes "open")) (Some state.Open) (cond (b && bytes_eq (codes "void") (codes "void")) (Some state.Void) None)) h.1

stands_found : (b : Bool) (format : ℕ) → (not b || (format == 3)) ≡ true → b ≡ true → format ≡ 3
stands_found true format h e = grind (arith, nat_tests, h)
stands_found false format h e = absurd (true≢false (sym e))

stands_only : (b : Bool) (format : ℕ) → (b ≡ true → format ≡ 3) → (not b || (format == 3)) ≡ true
stands_only true format h = let is : format ≡ 3 = h refl in grind (arith, nat_tests, is)
stands_only false format h = refl

entry_found : (format : ℕ) (columns : List Column) (d : Data) (e : Entry) (i : IsReadEntry format columns d e) → IsEntry format columns d i.text e
entry_found format columns d e i =
    let session = ranged_found 1 MOST_SESSIONS (codes "session") d e.session i.session in
    let reply = then_some {A = Data} {B = State} (state_of e.call) (get (codes "reply") d) e.state i.state in
    record {
      members = members_found 3 d i.members;
      line = text_found (codes "call") d i.text i.text_is;
      call = i.call;
      stands = stands_found (is_delete_where e.call) format i.stands;
      session = session.0;
      sessions = session.1;
      reply = reply.0;
      reply_is = reply.1;
      state = reply_found e.call reply.0 e.state reply.2;
    }

entry_only : (format : ℕ) (columns : List Column) (d : Data) (text : List ℕ) (e : Entry) → IsEntry format columns d text e → IsReadEntry format columns d e
entry_only format columns d text e i = record {
  members = members_only 3 d i.members;
  text = text;
  text_is = text_only (codes "call") d text i.line;
  call = i.call;
  stands = stands_only (is_delete_where e.call) format i.stands;
  session = ranged_only 1 MOST_SESSIONS (codes "session") d e.session i.session i.sessions;
  state = ap (option_and_then (state_of e.call)) i.reply_is ∙ reply_only e.call i.reply e.state i.state;
}

known_same : (columns : List Column) (d : Data) (text : List ℕ) → text_at (codes "call") d ≡ Some text → entry_learned columns d ≡ learned columns text
known_same columns d text h = ap (λ o. learned columns (unwrap_or o [])) h

entries_found : (format : ℕ) (columns : List Column) (ds : List Data) (last : List Column) (es : List Entry) → AreReadEntries format columns ds last es → AreEntries format columns ds last es
entries_found format columns [] last [] h = h
entries_found format columns [] last (e ∷ es) h = absurd h
entries_found format columns (d ∷ ds) last [] h = absurd h
entries_found format columns (d ∷ ds) last (e ∷ es) h =
    let text = h.0.text in
    let next = subst (λ cs. AreReadEntries format cs ds last es) (known_same columns d text h.0.text_is) h.1 in
    (text, entry_found format columns d e h.0, entries_found format (learned columns text) ds last es next)

entries_only : (format : ℕ) (columns : List Column) (ds : List Data) (last : List Column) (es : List Entry) → AreEntries format columns ds last es → AreReadEntries format columns ds last es
entries_only format columns [] last [] h = h
entries_only format columns [] last (e ∷ es) h = absurd h
entries_only format columns (d ∷ ds) last [] h = absurd h
entries_only format columns (d ∷ ds) last (e ∷ es) (text, i, rest) =
    let known = known_same columns d text (text_only (codes "call") d text i.line) in
    (entry_only format columns d text e i, subst (λ cs. AreReadEntries format cs ds last es) (sym known) (entries_only format (learned columns text) ds last es rest))

-- ---- the file

-- the law: a file that is read is one of the grammar
pub file_found : (bytes : List ℕ) (h : History) → record_at bytes ≡ Ok h → IsRecord bytes h
file_found bytes h e =
    let r = record_found bytes h e in
    let header = header_found r.value r.named r.header in
    let format = ranged_found (least_format r.named) 3 (codes "format") r.value r.format r.format_is in
    let limit = ranged_found 1 MOST_ROWS (codes "limit") r.value h.limit r.limit in
    let rows = all_rows_found r.named h.limit r.value r.known h.rows r.rows in
    record {
      utf8 = r.utf8;
      value = r.value;
      json = r.json;
      members = members_found 5 r.value r.members;
      fields = header.fields;
      fields_are = header.are;
      named = r.named;
      header = header.header;
      format = r.format;
      format_is = format.0;
      formats = format.1;
      limit_is = limit.0;
      limits = limit.1;
      lines = rows.lines;
      lines_are = rows.lines_are;
      few_rows = rows.few;
      known = r.known;
      rows = rows.rows_are;
      items = r.items;
      items_are = array_found (codes "entries") r.value r.items r.items_are;
      few = r.few;
      entries = entries_found r.format r.known r.items h.columns h.entries r.entries;
    }

-- the law: a file of the grammar is read as that history
pub file_only : (bytes : List ℕ) (h : History) → IsRecord bytes h → record_at bytes ≡ Ok h
file_only bytes h r = record_only bytes h (record {
  utf8 = r.utf8;
  value = r.value;
  json = r.json;
  members = members_only 5 r.value r.members;
  named = r.named;
  header = header_only r.value r.fields r.named r.fields_are r.header;
  format = r.format;
  format_is = ranged_only (least_format r.named) 3 (codes "format") r.value r.format r.format_is r.formats;
  limit = ranged_only 1 MOST_ROWS (codes "limit") r.value h.limit r.limit_is r.limits;
  known = r.known;
  rows = all_rows_only r.named h.limit r.value r.known h.rows (record { lines = r.lines; lines_are = r.lines_are; few = r.few_rows; rows_are = r.rows });
  items = r.items;
  items_are = array_only (codes "entries") r.value r.items r.items_are;
  few = r.few;
  entries = entries_only r.format r.known r.items h.columns h.entries r.entries;
})
