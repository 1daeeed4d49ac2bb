-- The printed text of a call that a line gives is not long.
use Rattle.std.proofs.Common.{◌≡◌, ap, refl, ℕ, ℤ, pos, ◌-◌, ◌*◌, ◌^◌, ◌<◌, ◌≤◌, Bool, true, false, ◌||◌, eqb, List, [], ◌∷◌, ◌++◌, inr, length, map, replicate, codes, decimal, Option, Some, None, length-append, arith}
use Rattle.std.specs.List.{list_any}
use Rattle.std.proofs.lemmas.Bool.Decides.{Decides-eqb}
use Rattle.std.proofs.lemmas.Fmt.{length-decimal-le}
use Rattle.std.proofs.lemmas.List.{length-map}
use Rattle.std.proofs.lemmas.List.Elements.{recursion_from_All}
use Rattle.std.proofs.lemmas.Map.Steps.{length-le_from_distinct_below}
use Rattle.sw_rows.specs.Domains.{IsDomain}
use Rattle.sw_rows.specs.Header.{Column, IsSchema, kinds_of}
use Rattle.sw_query.specs.declared.bound.Bound.{Bound}
use Rattle.sw_query.specs.declared.bound.Bound.TheVariants.{Before, After}
use Rattle.std.specs.Ordering.{int_eq}
use Rattle.sw_rows.specs.Domains.{Domain, is_of_texts}
use Rattle.sw_query.specs.declared.query.Call.{Call}
use Rattle.sw_query.specs.declared.query.Call.TheVariants.{Select, Insert, Delete, DeleteWhere}
use Rattle.sw_query.specs.declared.query.Cond.{Cond}
use Rattle.sw_query.specs.declared.query.Want.{Want}
use Rattle.sw_query.specs.declared.query.Want.TheVariants.{Rows, Count, Sum, Min, Max}
use Rattle.sw_lang.specs.declared.reading.parse.TheConstants.{MOST_LINE}
use Rattle.sw_lang.specs.declared.reading.term.Term.{Term}
use Rattle.sw_lang.specs.declared.reading.token.Op.{Op}
use Rattle.sw_lang.specs.declared.reading.token.Op.TheVariants.{Lt, Le, Eq, Ge, Gt}
use Rattle.sw_lang.specs.Grammar.{IsCall, IsValues, IsWant, MoreValues}
use Rattle.sw_lang.specs.PrintedCalls.{call_text, joiner, more_names, name_at, names_text, terms_text, want_text, where_text}
use Rattle.sw_lang.specs.Replies.{cell_text, cells_text, kind_at, more_cells}
use Rattle.sw_lang.specs.Tokens.{Tok}
use Rattle.sw_lang.proofs.Parsing.Fits.{distinct, name_within, names_below}
use Rattle.sw_lang.proofs.Parsing.Conds.{AreStored, CondsOf, printed_good, value_stored, where_conds}
use Rattle.sw_lang.proofs.Printed.Cells.{cell_printed}
use Rattle.sw_lang.proofs.Printed.Digits.{key_fits}
use Rattle.sw_lang.proofs.Printed.Merge.{attrs}
use Rattle.sw_lang.proofs.Printed.Names.{name_word}
use Rattle.sw_lang.proofs.Printed.Terms.{AreGood, IsGood, conds-text, equal_terms_of, lower_term, printed, printed_all, term_text, text_terms_of, upper_term}
use Rattle.sw_lang.proofs.Printed.Tokens.{op_text}
use Rattle.sw_lang.proofs.Printed.ReadBack.{AllPlaces, Below, kinds_places}

-- ---- comparisons

op_short : (o : Op) → length (op_text o) ≤ 4
op_short Lt = omega arith
op_short Le = omega arith
op_short Eq = omega arith
op_short Ge = omega arith
op_short Gt = omega arith

term_short : (schema : List Column) (t : Term) → IsSchema schema → IsGood schema t → length (term_text schema t) ≤ 166
term_short schema t ok good =
    let name : List ℕ = name_at schema t.attr in
    let sign : List ℕ = op_text t.op in
    let value : List ℕ = cell_text (kind_at schema t.attr) t.value in
    let name_few : length name ≤ 32 = (name_word schema t.attr ok good.attr).short in
    let value_few : length value ≤ 130 = (cell_printed (kind_at schema t.attr) t.value good.cell).short in
    omega (arith, name_few, value_few, op_short t.op, length-append name (sign ++ value), length-append sign value)

joiner_short : (s : Bool) → length (joiner s) ≤ 7
joiner_short true = omega arith
joiner_short false = omega arith

terms_short : (schema : List Column) (s : Bool) (ts : List Term) → IsSchema schema → AreGood schema ts → length (terms_text s (map (term_text schema) ts)) ≤ 173 * length ts
terms_short schema s [] ok good = omega arith
terms_short schema s (t ∷ ts) ok good =
    let first = joiner s in
    let one = term_text schema t in
    let rest : List ℕ = terms_text true (map (term_text schema) ts) in
    omega (arith, joiner_short s, term_short schema t ok good.0, terms_short schema true ts ok good.1, length-append (first ++ one) rest, length-append first one)

lower_few : (a : ℕ) (o : Option Bound) → length (lower_term a o) ≤ 1
lower_few a None = omega arith
lower_few a (Some (Before v)) = omega arith
lower_few a (Some (After v)) = omega arith

upper_few : (a : ℕ) (o : Option Bound) → length (upper_term a o) ≤ 1
upper_few a None = omega arith
upper_few a (Some (Before v)) = omega arith
upper_few a (Some (After v)) = omega arith

bounds_few : (a : ℕ) (lower upper : Option Bound) → length (lower_term a lower ++ upper_term a upper) ≤ 2
bounds_few a lower upper = omega (arith, lower_few a lower, upper_few a upper, length-append (lower_term a lower) (upper_term a upper))

equal_few : (b : Bool) (a : ℕ) (v w : ℤ) → int_eq v w ≡ b → length (equal_terms_of a v w) ≤ 2
equal_few true a v w e = rw e (omega arith)
equal_few false a v w e = rw e (omega arith)

texts_few : (a : ℕ) (lower upper : Option Bound) → length (text_terms_of a lower upper) ≤ 2
texts_few a None upper = omega (arith, upper_few a upper)
texts_few a (Some (After v)) upper = bounds_few a (Some (After v)) upper
texts_few a (Some (Before v)) None = omega arith
texts_few a (Some (Before v)) (Some (Before w)) = omega arith
texts_few a (Some (Before v)) (Some (After w)) = equal_few (int_eq v w) a v w refl

cond_few : (b : Bool) (schema : List Column) (c : Cond) → is_of_texts (kind_at schema c.attr) ≡ b → length (printed schema c) ≤ 2
cond_few true schema c e = rw e (texts_few c.attr c.lower c.upper)
cond_few false schema c e = rw e (bounds_few c.attr c.lower c.upper)

printed_few : (schema : List Column) (cs : List Cond) → length (printed_all schema cs) ≤ 2 * length cs
printed_few schema [] = omega arith
printed_few schema (c ∷ cs) =
    let one : length (printed schema c) ≤ 2 = cond_few (is_of_texts (kind_at schema c.attr)) schema c refl in
    omega (arith, one, printed_few schema cs, length-append (printed schema c) (printed_all schema cs))

-- each attribute has one condition at most
below-first : (v : Bool) (schema : List Column) (c : Cond) (cs : List Cond) (q : ℕ) → eqb q c.attr ≡ v → c.attr < length schema → (v || list_any (eqb q) (attrs cs)) ≡ true
    → (list_any (eqb q) (attrs cs) ≡ true → q < length schema) → q < length schema
below-first true schema c cs q e within h more = let same : q ≡ c.attr = (Decides-eqb q c.attr).0 e in omega arith
below-first false schema c cs q e within h more = more h

all_below : (schema : List Column) (cs : List Cond) (q : ℕ) → AreStored schema cs → list_any (eqb q) (attrs cs) ≡ true → q < length schema
all_below schema [] q s h = absurd cc
all_below schema (c ∷ cs) q s h = below-first (eqb q c.attr) schema c cs q refl s.0.attr h (all_below schema cs q s.1)

conds_few : (schema : List Column) (cs : List Cond) → CondsOf schema cs → length cs ≤ length schema
conds_few schema cs c =
    let few = length-le_from_distinct_below (attrs cs) (length schema) (distinct (attrs cs) c.once) (λ q h. all_below schema cs q c.stored h) in
    omega (arith, few, length-map cs (λ (d : Cond). d.attr))

where_short : (schema : List Column) (cs : List Cond) → IsSchema schema → CondsOf schema cs → length (where_text schema false cs) ≤ 2768
where_short schema cs ok c =
    let terms : List Term = printed_all schema cs in
    let long = terms_short schema false terms ok (printed_good schema cs c.stored) in
    let same : where_text schema false cs ≡ terms_text false (map (term_text schema) terms) = ap (terms_text false) (conds-text schema cs) in
    rw same (omega (arith, long, printed_few schema cs, conds_few schema cs c, ok.sound.few))

-- ---- names

more_short : (schema : List Column) (xs : List ℕ) → IsSchema schema → Below schema xs → length (more_names (map (name_at schema) xs)) ≤ 34 * length xs
more_short schema [] ok b = omega arith
more_short schema (a ∷ xs) ok b =
    let name : List ℕ = name_at schema a in
    let rest : List ℕ = more_names (map (name_at schema) xs) in
    let name_few : length name ≤ 32 = (name_word schema a ok b.0).short in
    omega (arith, name_few, more_short schema xs ok b.1, length-append (codes ", " ++ name) rest)

names_short : (schema : List Column) (xs : List ℕ) → IsSchema schema → Below schema xs → length (names_text (map (name_at schema) xs)) ≤ 34 * length xs
names_short schema [] ok b = omega arith
names_short schema (a ∷ xs) ok b =
    let name : List ℕ = name_at schema a in
    let rest : List ℕ = more_names (map (name_at schema) xs) in
    let name_few : length name ≤ 32 = (name_word schema a ok b.0).short in
    omega (arith, name_few, more_short schema xs ok b.1, length-append name rest)

want_short : (schema : List Column) (ts : List Tok) (want : Want) → IsSchema schema → IsWant schema ts want → length (want_text schema want) ≤ 300
want_short schema ts (Rows names) ok (more, e, is, few) = omega (arith, names_short schema names ok (names_below schema more names is), few)
want_short schema ts Count ok e = omega arith
want_short schema ts (Sum a) ok (t, e, is) = let short : length (name_at schema a) ≤ 32 = (name_word schema a ok (name_within schema t a is.0)).short in omega arith
want_short schema ts (Min a) ok (t, e, is) = let short : length (name_at schema a) ≤ 32 = (name_word schema a ok (name_within schema t a is.0)).short in omega arith
want_short schema ts (Max a) ok (t, e, is) = let short : length (name_at schema a) ≤ 32 = (name_word schema a ok (name_within schema t a is.0)).short in omega arith

-- ---- rows

cells_more : (ks : List Domain) (ts : List Tok) (zs pad : List ℤ) → AllPlaces ks → MoreValues ks ts zs → length (more_cells ks (zs ++ pad)) ≤ 132 * length ks
cells_more [] ts zs pad p h = omega arith
cells_more (k ∷ ks) ts [] pad p h = absurd h
cells_more (k ∷ ks) ts (z ∷ zs) pad p (a, rest, e, is, others) =
    let short : length (cell_text k z) ≤ 130 = (cell_printed k z (value_stored k a z p.0 is)).short in
    omega (arith, short, cells_more ks rest zs pad p.1 others, length-append (cell_text k z) (more_cells ks (zs ++ pad)))

cells_short : (ks : List Domain) (ts : List Tok) (zs pad : List ℤ) → AllPlaces ks → IsValues ks ts zs → length (cells_text ks (zs ++ pad)) ≤ 132 * length ks
cells_short [] ts zs pad p h = omega arith
cells_short (k ∷ ks) ts [] pad p h = absurd h
cells_short (k ∷ ks) ts (z ∷ zs) pad p (a, rest, e, is, others) =
    let short : length (cell_text k z) ≤ 130 = (cell_printed k z (value_stored k a z p.0 is)).short in
    omega (arith, short, cells_more ks rest zs pad p.1 others, length-append (cell_text k z) (more_cells ks (zs ++ pad)))

-- ---- calls

-- the printed text of a related call is no longer than a line may be
pub call_short : (schema : List Column) (ts : List Tok) (c : Call) → IsSchema schema → IsCall schema ts c → length (call_text schema c) ≤ MOST_LINE
call_short schema ts (Select q) ok (front, rest, parts, is, h) =
    omega (arith, want_short schema front q.want ok is, where_short schema q.conds ok (where_conds schema rest q.conds ok h), length-append (want_text schema q.want) (where_text schema false q.conds))
call_short schema ts (Insert cells) ok (zs, rest, e, is, pad) =
    let places = kinds_places schema (recursion_from_All (λ (c : Column). IsDomain c.1) schema ok.sound.domains) in
    let count : length (kinds_of schema) ≡ length schema = length-map schema (λ (c : Column). c.1) in
    let short : length (cells_text (kinds_of schema) cells) ≤ 132 * length (kinds_of schema) = rw pad (cells_short (kinds_of schema) rest zs (replicate (8 - length zs) (pos 0)) places is) in
    omega (arith, short, count, ok.sound.few)
call_short schema ts (Delete key) ok (t, e, (w, word_is, value)) =
    let fits : key < 2 ^ 64 = key_fits w key value in
    let short : length (decimal key) ≤ 20 = length-decimal-le 20 key (omega arith) (omega arith) fits in
    omega (arith, short)
call_short schema ts (DeleteWhere conds) ok (rest, e, given) =
    omega (arith, where_short schema conds ok (where_conds schema rest conds ok (inr given)))
