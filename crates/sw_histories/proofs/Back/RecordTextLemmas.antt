-- A call is printed as UTF-8, and a record has no float.
use Rattle.std.proofs.Common.{◌≡◌, ◌∙◌, sym, ap, refl, subst, ℕ, ℤ, zero, suc, pos, negsuc, ◌+◌, ◌&&◌, ◌||◌, Bool, true, false, ◌<◌, ◌≤◌, List, [], ◌∷◌, ◌++◌, length, map, take, drop, get_or, codes, decimal, arith, Option, Some, None, slice_get, Result, Ok, Err, IsUtf8, add-one, append-nil, append_assoc, rules}
use Rattle.std.specs.List.{flat_map, list_all}
use Rattle.std.proofs.lemmas.Bool.Decides.{nat_tests}
use Rattle.std.proofs.lemmas.List.{drop_all, drop_more}
use Rattle.std.proofs.lemmas.Option.{get_or_from_slice_get, none-some, same_Some, slice_get_within}
use Rattle.serde_json.specs.Data.{Data, string}
use Rattle.serde_json.specs.Find.{is_float, of_integer}
use Rattle.serde_json.specs.View.{items_of, view}
use Rattle.serde_json.specs.declared.value.Value.{Value, the_lemmas}
use Rattle.serde_json.specs.declared.value.Value.TheVariants as value
use Rattle.std.specs.Prelude.{String, cond, string_bytes}
use Rattle.std.specs.Ordering.{int_eq}
use Rattle.std.specs.declared.alloc.Global.{Global}
use Rattle.std.specs.Fmt.{digits}
use Rattle.json.specs.Print.{escape_byte}
use Rattle.serde_json.specs.Written.{compact_text, has_float, items_have_float}
use Rattle.sw_rows.specs.Header.{Column, IsSchema, is_name, is_name_byte, kinds_of, names_of}
use Rattle.sw_query.specs.declared.bound.Bound.{Bound}
use Rattle.sw_query.specs.declared.bound.Bound.TheVariants.{Before, After}
use Rattle.sw_rows.specs.Domains.{Domain, is_of_texts}
use Rattle.sw_rows.specs.Domains as kind
use Rattle.sw_table.specs.declared.row.Row.{Row}
use Rattle.sw_query.specs.declared.query.Cond.{Cond}
use Rattle.sw_query.specs.declared.query.Want.{Want}
use Rattle.sw_query.specs.declared.query.Want.TheVariants as want
use Rattle.sw_query.specs.declared.query.Call.{Call}
use Rattle.sw_query.specs.declared.query.Call.TheVariants as call
use Rattle.sw_query.specs.declared.refusal.Refusal.{Refusal}
use Rattle.sw_lang.specs.PrintedCalls.{call_text, comparison, cond_terms, equal_terms, text_terms, joiner, lower_terms, more_names, name_at, names_text, terms_text, upper_terms, want_text, where_text}
use Rattle.sw_lang.specs.Replies.{cell_text, cells_text, kind_at, reply_lines}
use Rattle.sw_lang.specs.Sinks.{Writes}
use Rattle.sw_spine.specs.Printed.{is_line, is_printed}
use Rattle.sw_spine.specs.History.{History}
use Rattle.sw_spine.specs.declared.history.Entry.{Entry}
use Rattle.sw_spine.specs.declared.history.State.{State}
use Rattle.sw_spine.specs.declared.history.State.TheVariants as state
use Rattle.sw_spine.proofs.PrintedLemmas.{both, kind_sound, kinds_sound, cell_shown, cells_shown, decimal_shown, either, joined, line_utf8, printed}
use Rattle.sw_histories.specs.RecordText.{Stops, WritesText, attribute_text, cell_data, cells_data, entry_data, format_of, front_text, list_data, record_text, row_data, state_data, texts_data, whole_data}

-- ---- names

name_byte_shown : (b : ℕ) → is_name_byte b ≡ true → is_printed b ≡ true
name_byte_shown b h = grind (arith, nat_tests, h)

bytes_shown : (w : List ℕ) → list_all is_name_byte w ≡ true → list_all is_printed w ≡ true
bytes_shown [] h = refl
bytes_shown (b ∷ w) h =
    let here : is_name_byte b ≡ true = grind (arith, h) in
    let later : list_all is_name_byte w ≡ true = grind (arith, h) in
    both (is_printed b) (list_all is_printed w) (name_byte_shown b here) (bytes_shown w later)

-- a name of an attribute can stand in a line
pub name_shown : (w : List ℕ) → is_name w ≡ true → is_line w ≡ true
name_shown w h = printed w (bytes_shown w (grind (arith, h)))

front_of : (a b : Bool) → (a && b) ≡ true → a ≡ true
front_of true b h = refl
front_of false b h = h

rest_of : (a b : Bool) → (a && b) ≡ true → b ≡ true
rest_of true b h = h
rest_of false b h = absurd cc

named_shown : (columns : List Column) (a : ℕ) → list_all (λ c. is_name c.0) columns ≡ true → is_line (name_at columns a) ≡ true
named_shown [] a h = printed [] refl
named_shown (c ∷ cs) zero h = name_shown c.0 (front_of (is_name c.0) (list_all (λ d. is_name d.0) cs) h)
named_shown (c ∷ cs) (suc a) h = named_shown cs a (rest_of (is_name c.0) (list_all (λ d. is_name d.0) cs) h)

-- ---- calls

compared_shown : (columns : List Column) (a : ℕ) (op : List ℕ) (v : ℤ) → IsSchema columns → is_line op ≡ true → is_line (comparison columns a op v) ≡ true
compared_shown columns a op v good h = joined (name_at columns a) (op ++ cell_text (kind_at columns a) v) (named_shown columns a good.sound.names) (joined op (cell_text (kind_at columns a) v) h (cell_shown (kind_at columns a) v (kind_sound columns a good)))

abbrev all_shown : List (List ℕ) → Bool
all_shown ts = list_all (λ t. is_line t) ts

lower_shown : (columns : List Column) (a : ℕ) (o : Option Bound) → IsSchema columns → all_shown (lower_terms columns a o) ≡ true
lower_shown columns a None good = refl
lower_shown columns a (Some (Before v)) good = both (is_line (comparison columns a (codes " >= ") v)) true (compared_shown columns a (codes " >= ") v good (printed (codes " >= ") refl)) refl
lower_shown columns a (Some (After v)) good = both (is_line (comparison columns a (codes " > ") v)) true (compared_shown columns a (codes " > ") v good (printed (codes " > ") refl)) refl

upper_shown : (columns : List Column) (a : ℕ) (o : Option Bound) → IsSchema columns → all_shown (upper_terms columns a o) ≡ true
upper_shown columns a None good = refl
upper_shown columns a (Some (Before v)) good = both (is_line (comparison columns a (codes " < ") v)) true (compared_shown columns a (codes " < ") v good (printed (codes " < ") refl)) refl
upper_shown columns a (Some (After v)) good = both (is_line (comparison columns a (codes " <= ") v)) true (compared_shown columns a (codes " <= ") v good (printed (codes " <= ") refl)) refl

all_joined : (xs ys : List (List ℕ)) → all_shown xs ≡ true → all_shown ys ≡ true → all_shown (xs ++ ys) ≡ true
all_joined [] ys h k = k
all_joined (x ∷ xs) ys h k =
    let here : is_line x ≡ true = grind (arith, h) in
    let later : all_shown xs ≡ true = grind (arith, h) in
    both (is_line x) (all_shown (xs ++ ys)) here (all_joined xs ys later k)

equal_shown : (columns : List Column) (a : ℕ) (v w : ℤ) → IsSchema columns → all_shown (equal_terms columns a v w) ≡ true
equal_shown columns a v w good = by_same (int_eq v w)
  where
    one : (z : ℤ) → is_line (comparison columns a (codes " = ") z) ≡ true
    one z = compared_shown columns a (codes " = ") z good (printed (codes " = ") refl)

    by_same : (b : Bool) → all_shown (cond b (comparison columns a (codes " = ") v ∷ []) (comparison columns a (codes " = ") v ∷ comparison columns a (codes " = ") w ∷ [])) ≡ true
    by_same true = both (is_line (comparison columns a (codes " = ") v)) true (one v) refl
    by_same false = both (is_line (comparison columns a (codes " = ") v)) (all_shown (comparison columns a (codes " = ") w ∷ [])) (one v) (both (is_line (comparison columns a (codes " = ") w)) true (one w) refl)

bounds_shown : (columns : List Column) (a : ℕ) (l u : Option Bound) → IsSchema columns → all_shown (lower_terms columns a l ++ upper_terms columns a u) ≡ true
bounds_shown columns a l u good = all_joined (lower_terms columns a l) (upper_terms columns a u) (lower_shown columns a l good) (upper_shown columns a u good)

text_shown : (columns : List Column) (a : ℕ) (l u : Option Bound) → IsSchema columns → all_shown (text_terms columns a l u) ≡ true
text_shown columns a None u good = upper_shown columns a u good
text_shown columns a (Some (After v)) u good = bounds_shown columns a (Some (After v)) u good
text_shown columns a (Some (Before v)) None good = lower_shown columns a (Some (Before v)) good
text_shown columns a (Some (Before v)) (Some (Before w)) good = bounds_shown columns a (Some (Before v)) (Some (Before w)) good
text_shown columns a (Some (Before v)) (Some (After w)) good = equal_shown columns a v w good

cond_shown : (columns : List Column) (c : Cond) → IsSchema columns → all_shown (cond_terms columns c) ≡ true
cond_shown columns c good = by_kind (is_of_texts (kind_at columns c.attr))
  where
    by_kind : (b : Bool) → all_shown (cond b (text_terms columns c.attr c.lower c.upper) (lower_terms columns c.attr c.lower ++ upper_terms columns c.attr c.upper)) ≡ true
    by_kind true = text_shown columns c.attr c.lower c.upper good
    by_kind false = bounds_shown columns c.attr c.lower c.upper good

conds_shown : (columns : List Column) (cs : List Cond) → IsSchema columns → all_shown (flat_map (cond_terms columns) cs) ≡ true
conds_shown columns [] good = refl
conds_shown columns (c ∷ cs) good = all_joined (cond_terms columns c) (flat_map (cond_terms columns) cs) (cond_shown columns c good) (conds_shown columns cs good)

terms_shown : (started : Bool) (ts : List (List ℕ)) → all_shown ts ≡ true → is_line (terms_text started ts) ≡ true
terms_shown started [] h = printed [] refl
terms_shown started (t ∷ ts) h =
    let here : is_line t ≡ true = grind (arith, h) in
    let later : all_shown ts ≡ true = grind (arith, h) in
    joined (joiner started ++ t) (terms_text true ts) (joined (joiner started) t (either started (codes " and ") (codes " where ") (printed (codes " and ") refl) (printed (codes " where ") refl)) here) (terms_shown true ts later)

more_names_shown : (columns : List Column) (ns : List ℕ) → list_all (λ c. is_name c.0) columns ≡ true → is_line (more_names (map (name_at columns) ns)) ≡ true
more_names_shown columns [] good = printed [] refl
more_names_shown columns (a ∷ ns) good = joined (codes ", " ++ name_at columns a) (more_names (map (name_at columns) ns)) (joined (codes ", ") (name_at columns a) (printed (codes ", ") refl) (named_shown columns a good)) (more_names_shown columns ns good)

names_shown : (columns : List Column) (ns : List ℕ) → list_all (λ c. is_name c.0) columns ≡ true → is_line (names_text (map (name_at columns) ns)) ≡ true
names_shown columns [] good = printed [] refl
names_shown columns (a ∷ ns) good = joined (name_at columns a) (more_names (map (name_at columns) ns)) (named_shown columns a good) (more_names_shown columns ns good)

want_shown : (columns : List Column) (w : Want) → list_all (λ c. is_name c.0) columns ≡ true → is_line (want_text columns w) ≡ true
want_shown columns (want.Rows names) good = joined (codes "select ") (names_text (map (name_at columns) names)) (printed (codes "select ") refl) (names_shown columns names good)
want_shown columns want.Count good = printed (codes "count") refl
want_shown columns (want.Sum a) good = joined (codes "sum ") (name_at columns a) (printed (codes "sum ") refl) (named_shown columns a good)
want_shown columns (want.Min a) good = joined (codes "min ") (name_at columns a) (printed (codes "min ") refl) (named_shown columns a good)
want_shown columns (want.Max a) good = joined (codes "max ") (name_at columns a) (printed (codes "max ") refl) (named_shown columns a good)

call_shown : (columns : List Column) (c : Call) → IsSchema columns → is_line (call_text columns c) ≡ true
call_shown columns (call.Select q) good = joined (want_text columns q.want) (where_text columns false q.conds) (want_shown columns q.want good.sound.names) (terms_shown false (flat_map (cond_terms columns) q.conds) (conds_shown columns q.conds good))
call_shown columns (call.Insert cells) good = joined (codes "insert ") (cells_text (kinds_of columns) cells) (printed (codes "insert ") refl) (cells_shown (kinds_of columns) cells (kinds_sound columns good))
call_shown columns (call.Delete key) good = joined (codes "delete ") (decimal key) (printed (codes "delete ") refl) (decimal_shown key)
call_shown columns (call.DeleteWhere conds) good = joined (codes "delete") (where_text columns false conds) (printed (codes "delete") refl) (terms_shown false (flat_map (cond_terms columns) conds) (conds_shown columns conds good))

-- a call is printed as text
pub call_utf8 : (columns : List Column) (c : Call) → IsSchema columns → IsUtf8 (call_text columns c)
call_utf8 columns c ok = line_utf8 (call_text columns c) (call_shown columns c ok)

-- ---- lists

-- two passes over a list are one
pub map_twice : {A B C : Type 0} (f : B → C) (g : A → B) (xs : List A) → map (λ x. f (g x)) xs ≡ map f (map g xs)
map_twice f g [] = refl
map_twice f g (x ∷ xs) = ap (λ l. f (g x) ∷ l) (map_twice f g xs)

-- one more column, by its name and its domain
pub take_column : (columns : List Column) (i : ℕ) (name : List ℕ) (k : Domain) → slice_get (names_of columns) i ≡ Some name → slice_get (kinds_of columns) i ≡ Some k → take (suc i) columns ≡ take i columns ++ (name, k) ∷ []
take_column [] i name k h e = absurd (none-some name h)
take_column (c ∷ cs) zero name k h e =
    let n : c.0 ≡ name = same_Some c.0 name h in
    let t : c.1 ≡ k = same_Some c.1 k e in
    ap (λ m. (m, c.1) ∷ []) n ∙ ap (λ m. (name, m) ∷ []) t
take_column (c ∷ cs) (suc i) name k h e = ap (λ l. c ∷ l) (take_column cs i name k h e)

-- ---- no floats

texts_have_none : (ts : List (List ℕ)) → items_have_float (items_of (map (λ t. string t) ts)) ≡ false
texts_have_none [] = refl
texts_have_none (t ∷ ts) = texts_have_none ts

neither : (a b : Bool) → a ≡ false → b ≡ false → (a || b) ≡ false
neither a b h k = rw (h, k) refl

integer_is_none : (z : ℤ) → is_float (of_integer z) ≡ false
integer_is_none (pos n) = refl
integer_is_none (negsuc n) = refl

cell_has_none : (k : Domain) (z : ℤ) → has_float (cell_data k z) ≡ false
cell_has_none kind.Int z = integer_is_none z
cell_has_none (kind.Fix places) z = integer_is_none z
cell_has_none kind.Flag z = integer_is_none z
cell_has_none (kind.Text texts) z = refl

cells_have_none : (ks : List Domain) (zs : List ℤ) → items_have_float (items_of (cells_data ks zs)) ≡ false
cells_have_none [] zs = refl
cells_have_none (k ∷ ks) [] = refl
cells_have_none (k ∷ ks) (z ∷ zs) = neither (has_float (cell_data k z)) (items_have_float (items_of (cells_data ks zs))) (cell_has_none k z) (cells_have_none ks zs)

state_has_none : (columns : List Column) (c : Call) (s : State) → has_float (state_data columns c s) ≡ false
state_has_none columns c (state.Answered r) = texts_have_none (reply_lines columns c r)
state_has_none columns c (state.Lines ls) = texts_have_none ls
state_has_none columns c state.Open = refl
state_has_none columns c state.Void = refl

-- ---- what a writer of a whole text does

-- what a sink takes of a text is what a writer of that text promises
pub writes_text : (old new : Option (List ℕ)) (failed_old failed_new : ℕ) (r : Result (Unit {0}) Refusal) (text : List ℕ) → Writes old new failed_old failed_new r text → WritesText old new failed_old failed_new r text
writes_text old new failed_old failed_new (Ok x) text w = record { whole = w.whole; part = tt }
writes_text old new failed_old failed_new (Err e) text w = record {
  whole = tt;
  part = subst (Stops old new failed_old failed_new text) (sym w.part.0) (w.part.1, w.part.2);
}

-- ---- one attribute more

texts_more : (ts : List (List ℕ)) (t : List ℕ) → map (λ t. string t) (ts ++ t ∷ []) ≡ map (λ t. string t) ts ++ string t ∷ []
texts_more [] t = refl
texts_more (x ∷ ts) t = ap (λ l. string x ∷ l) (texts_more ts t)

columns_more : (cs : List Column) (c : Column) → map attribute_text (cs ++ c ∷ []) ≡ map attribute_text cs ++ attribute_text c ∷ []
columns_more [] c = refl
columns_more (x ∷ cs) c = ap (λ l. attribute_text x ∷ l) (columns_more cs c)

views_more : (vs : List Value) (v : Value) → map view (vs ++ v ∷ []) ≡ map view vs ++ view v ∷ []
views_more [] v = refl
views_more (x ∷ vs) v = ap (λ l. view x ∷ l) (views_more vs v)

-- one more attribute is put behind those that stand
pub one_attribute : (vs ws : List Value) (v : Value) (columns : List Column) (i : ℕ) (name : List ℕ) (k : Domain) → slice_get (names_of columns) i ≡ Some name → slice_get (kinds_of columns) i ≡ Some k → map view vs ≡ map (λ t. string t) (map attribute_text (take i columns)) → ws ≡ vs ++ v ∷ [] → view v ≡ string (attribute_text (name, k)) → map view ws ≡ map (λ t. string t) (map attribute_text (take (i + 1) columns))
one_attribute vs ws v columns i name k named kinded before more is =
    ap (map view) more ∙ views_more vs v
    ∙ ap (λ l. l ++ view v ∷ []) before
    ∙ ap (λ d. map (λ t. string t) (map attribute_text (take i columns)) ++ d ∷ []) is
    ∙ sym (texts_more (map attribute_text (take i columns)) (attribute_text (name, k)))
    ∙ ap (map (λ t. string t)) (sym (columns_more (take i columns) (name, k)))
    ∙ ap (λ cs. map (λ t. string t) (map attribute_text cs)) (sym (rw add-one (take_column columns i name k named kinded)))

-- a text as a value is its bytes
pub view_String : (s : String Global) (t : List ℕ) → string_bytes s ≡ t → view (value.String s) ≡ string t
view_String s t is =
    let as_text : view (value.String s) ≡ string (string_bytes s) = search (rules, the_lemmas) in
    as_text ∙ ap (λ b. string b) is

-- ---- one cell more

-- the cells that are left begin with the one at hand
pub cells_step : (ks : List Domain) (zs : List ℤ) (i : ℕ) (k : Domain) (z d : ℤ) → slice_get ks i ≡ Some k → i < length zs → z ≡ get_or zs i d → cells_data (drop i ks) (drop i zs) ≡ cell_data k z ∷ cells_data (drop (i + 1) ks) (drop (i + 1) zs)
cells_step ks zs i k z d e lt is =
    let one : drop i ks ≡ k ∷ drop (i + 1) ks = drop_more ks i k (slice_get_within ks i k e) ∙ ap (λ x. x ∷ drop (i + 1) ks) (get_or_from_slice_get ks i k k e) in
    let other : drop i zs ≡ z ∷ drop (i + 1) zs = drop_more zs i d lt ∙ ap (λ x. x ∷ drop (i + 1) zs) (sym is) in
    rw (one, other) refl

-- a cell goes from those that are left behind those that stand
pub cell_more : (ks : List Domain) (zs : List ℤ) (i : ℕ) (k : Domain) (z d : ℤ) (all : List Data) (vs ws : List Value) (v : Value) → slice_get ks i ≡ Some k → i < length zs → z ≡ get_or zs i d → map view vs ++ cells_data (drop i ks) (drop i zs) ≡ all → ws ≡ vs ++ v ∷ [] → view v ≡ cell_data k z → map view ws ++ cells_data (drop (i + 1) ks) (drop (i + 1) zs) ≡ all
cell_more ks zs i k z d all vs ws v e lt is before more shown =
    let rest = cells_data (drop (i + 1) ks) (drop (i + 1) zs) in
    ap (λ l. map view l ++ rest) more
    ∙ ap (λ l. l ++ rest) (views_more vs v)
    ∙ append_assoc (map view vs) (view v ∷ []) rest
    ∙ ap (λ x. map view vs ++ (x ∷ rest)) shown
    ∙ ap (λ l. map view vs ++ l) (sym (cells_step ks zs i k z d e lt is))
    ∙ before

-- none is left past the last kind
pub cells_over : (ks : List Domain) (zs : List ℤ) (i : ℕ) (all : List Data) (vs : List Value) → length ks ≤ i → map view vs ++ cells_data (drop i ks) (drop i zs) ≡ all → map view vs ≡ all
cells_over ks zs i all vs past before = sym (append-nil (map view vs)) ∙ ap (λ l. map view vs ++ cells_data l (drop i zs)) (sym (drop_all i ks past)) ∙ before

-- ---- a text grows

-- attributes are no floats
pub attributes_have_none : (columns : List Column) → has_float (texts_data (map attribute_text columns)) ≡ false
attributes_have_none columns = texts_have_none (map attribute_text columns)

-- an entry has no float
pub entry_has_none : (columns : List Column) (e : Entry) → has_float (entry_data columns e) ≡ false
entry_has_none columns e = neither (has_float (state_data columns e.call e.state)) false (state_has_none columns e.call e.state) refl

-- a row has no float
pub row_has_none : (ks : List Domain) (r : Row) → has_float (row_data ks r) ≡ false
row_has_none ks r = cells_have_none ks r.cells

-- a list without a member
pub none_left : {A : Type 0} (xs : List A) → length xs ≡ 0 → xs ≡ []
none_left [] h = refl
none_left (x ∷ xs) h = absurd (omega (arith, h))

-- a list's bracket goes behind the text before it
pub list_begun : (t all : List ℕ) → t ++ (91 ∷ all) ≡ (t ++ 91 ∷ []) ++ all
list_begun t all = sym (append_assoc t (91 ∷ []) all)

-- an item goes behind its comma
pub item_put : (t more comma d rest : List ℕ) → more ≡ t ++ (comma ++ d) → t ++ (comma ++ (d ++ rest)) ≡ more ++ rest
item_put t more comma d rest is = ap (λ m. t ++ m) (sym (append_assoc comma d rest)) ∙ sym (append_assoc t (comma ++ d) rest) ∙ ap (λ m. m ++ rest) (sym is)

-- the members of a file, one after another
pub whole_text : (a e r : Data) (format limit : ℕ) → compact_text (whole_data a e format limit r)
    ≡ codes "{\"attributes\":" ++ (compact_text a ++ (codes ",\"entries\":" ++ (compact_text e ++ (codes ",\"format\":" ++ (decimal format ++ (codes ",\"limit\":" ++ (decimal limit ++ (codes ",\"rows\":" ++ (compact_text r ++ 125 ∷ [])))))))))
unfolding escape_byte digits
whole_text a e r format limit = refl

flat : (x a y e z f u l w r end : List ℕ) → (((((((((x ++ a) ++ y) ++ e) ++ z) ++ f) ++ u) ++ l) ++ w) ++ r) ++ end ≡ x ++ (a ++ (y ++ (e ++ (z ++ (f ++ (u ++ (l ++ (w ++ (r ++ end)))))))))
flat x a y e z f u l w r end =
    append_assoc ((((((((x ++ a) ++ y) ++ e) ++ z) ++ f) ++ u) ++ l) ++ w) r end
    ∙ append_assoc (((((((x ++ a) ++ y) ++ e) ++ z) ++ f) ++ u) ++ l) w (r ++ end)
    ∙ append_assoc ((((((x ++ a) ++ y) ++ e) ++ z) ++ f) ++ u) l (w ++ (r ++ end))
    ∙ append_assoc (((((x ++ a) ++ y) ++ e) ++ z) ++ f) u (l ++ (w ++ (r ++ end)))
    ∙ append_assoc ((((x ++ a) ++ y) ++ e) ++ z) f (u ++ (l ++ (w ++ (r ++ end))))
    ∙ append_assoc (((x ++ a) ++ y) ++ e) z (f ++ (u ++ (l ++ (w ++ (r ++ end)))))
    ∙ append_assoc ((x ++ a) ++ y) e (z ++ (f ++ (u ++ (l ++ (w ++ (r ++ end))))))
    ∙ append_assoc (x ++ a) y (e ++ (z ++ (f ++ (u ++ (l ++ (w ++ (r ++ end)))))))
    ∙ append_assoc x a (y ++ (e ++ (z ++ (f ++ (u ++ (l ++ (w ++ (r ++ end))))))))

-- the parts of a record's text, one after another
pub record_parts : (h : History) → ((front_text [] h ++ codes ",\"rows\":") ++ compact_text (list_data (map (row_data (kinds_of h.columns)) h.rows))) ++ 125 ∷ [] ≡ record_text h
unfolding record_text
record_parts h =
    let a = texts_data (map attribute_text h.columns) in
    let e = list_data (map (entry_data h.columns) h.entries) in
    let r = list_data (map (row_data (kinds_of h.columns)) h.rows) in
    let f = format_of h.columns h.entries in
    flat (codes "{\"attributes\":") (compact_text a) (codes ",\"entries\":") (compact_text e) (codes ",\"format\":") (decimal f) (codes ",\"limit\":") (decimal h.limit) (codes ",\"rows\":") (compact_text r) (125 ∷ [])
    ∙ sym (whole_text a e r f h.limit)
