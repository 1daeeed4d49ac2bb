-- What the grammar relates to a line fits the table.
use Rattle.std.proofs.Common.{◌≡◌, ap, sym, refl, subst, ℕ, zero, suc, ℤ, pos, negsuc, ◌-◌, ◌<◌, ◌≤◌, inl, inr, int_lt, Bool, true, false, not, cond, eqb, ◌&&◌, ◌||◌, is_some, List, [], ◌∷◌, ◌++◌, length, map, replicate, Option, Some, None, IfSome, nat_eq, nat_lt, arith}
use Rattle.std.specs.Prelude.{bytes_eq, codes}
use Rattle.std.specs.List.{AllByRecursion, IsDistinct}
use Rattle.std.proofs.lemmas.Bool.{false≢true, le-ltb, ltb-true}
use Rattle.std.proofs.lemmas.Bool.Decides.{Decides-eqb}
use Rattle.std.proofs.lemmas.List.{length-map}
use Rattle.std.proofs.lemmas.List.Elements.{All-from_recursion}
use Rattle.std.proofs.lemmas.Option.{slice_get_within}
use Rattle.sw_rows.proofs.Tables.CellSpelling.{cell_spelled}
use Rattle.sw_rows.proofs.Schemas.TextLaws.{code_only}
use Rattle.sw_query.specs.Bounds.{bound_below, greater, lesser}
use Rattle.sw_rows.specs.Header.{Column, kinds_of, names_of}
use Rattle.sw_query.specs.declared.bound.Bound.{Bound}
use Rattle.sw_query.specs.declared.bound.Bound.TheVariants.{Before, After}
use Rattle.sw_query.specs.Scan.{WantsBelow}
use Rattle.sw_rows.specs.Domains.{Domain, is_of_texts}
use Rattle.sw_rows.specs.Domains as kind
use Rattle.sw_query.specs.declared.query.Cond.{Cond}
use Rattle.sw_query.specs.declared.query.Call.{Call}
use Rattle.sw_query.specs.declared.query.Call.TheVariants.{Select, Insert, Delete, DeleteWhere}
use Rattle.sw_query.specs.declared.query.Want.{Want}
use Rattle.sw_query.specs.declared.query.Want.TheVariants.{Rows, Count, Sum, Min, Max}
use Rattle.sw_lang.specs.declared.reading.term.Term.{Term}
use Rattle.sw_lang.specs.declared.reading.token.Op.{Op}
use Rattle.sw_lang.specs.declared.reading.token.Op.TheVariants.{Lt, Le, Eq, Ge, Gt}
use Rattle.sw_lang.specs.Replies.{kind_at}
use Rattle.sw_lang.specs.Terms.{add_term, attrs_after, cond_of, conditions, lower_of, narrowed, upper_of, with_attr}
use Rattle.sw_lang.specs.Tokens.{Tok}
use Rattle.sw_lang.specs.Fits.{AreEqualBounds, FitsCall, FitsCells, FitsConds, FitsQuery, HasBoundsOfKind, HasFewNames, IsBound, IsBoundOfKind, IsEqualOnTexts, IsOfKind, TakesNumbers, is_bound}
use Rattle.sw_lang.specs.Reading.{is_equality}
use Rattle.sw_lang.specs.Grammar.{HasTerms, IsCall, IsLine, IsName, IsNames, IsTerm, IsTerms, IsValue, IsValues, IsWant, IsWhere, MoreValues}
use Rattle.sw_lang.proofs.Parsing.Names.{Serves}
use Rattle.sw_lang.proofs.Parsing.Merge.{Distinct, conds_from, conds_from-conditions, distinct-more, eqb-turned, has, or-false}

-- a name is of an attribute that there is
pub name_within : (schema : List Column) (t : Tok) (i : ℕ) → IsName schema t i → i < length schema
name_within schema t i (w, is, at) = rw length-map at (slice_get_within (names_of schema) i w at)

flag-kind : (p q : Bool) (z : ℤ) → cond p (Some (pos 1)) (cond q (Some (pos 0)) None) ≡ Some z → IsOfKind kind.Flag z
flag-kind true q z h = inr (cc)
flag-kind false true z h = inl (cc)
flag-kind false false z h = absurd cc

-- a value is of its kind
pub value_kind : (k : Domain) (t : Tok) (z : ℤ) → IsValue k t z → IsOfKind k z
value_kind kind.Int t z h = tt
value_kind (kind.Fix places) t z h = tt
value_kind kind.Flag t z (inl (w, is, value)) = flag-kind (bytes_eq w (codes "true")) (bytes_eq w (codes "false")) z value
value_kind kind.Flag t z (inr (text, is, of_texts, value)) = absurd (false≢true of_texts)
value_kind (kind.Text texts) t z (inl (w, is, value)) = absurd cc
value_kind (kind.Text texts) t z (inr (text, is, of_texts, value)) =
    let spelled = cell_spelled (kind.Text texts) text z value in
    (spelled.1.0, spelled.1.2, text, code_only texts spelled.1.0 text spelled.1.1)

-- ---- conditions

abbrev TermFits : List Column → Term → Type 0
TermFits schema t =
    (t.attr < length schema) × IsOfKind (kind_at schema t.attr) t.value
    × Serves (kind_at schema t.attr) t.op

abbrev TermsFit : List Column → List Term → Type 0
TermsFit schema [] = Unit {0}
TermsFit schema (t ∷ ts) = TermFits schema t × TermsFit schema ts

term_fits : (schema : List Column) (a b c : Tok) (t : Term) → IsTerm schema a b c t → TermFits schema t
term_fits schema a b c t is = (name_within schema a t.attr is.name, value_kind (kind_at schema t.attr) c t.value is.value, is.fits)

terms_fit : (schema : List Column) (ts : List Tok) (us : List Term) → IsTerms schema ts us → TermsFit schema us
terms_fit schema ts [] h = absurd h
terms_fit schema ts (t ∷ []) (a, b, c, e, is) = (term_fits schema a b c t is, tt)
terms_fit schema ts (t ∷ u ∷ us) (a, b, c, rest, e, is, more) = (term_fits schema a b c t is, terms_fit schema rest (u ∷ us) more)

abbrev CondFits : List Column → Cond → Type 0
CondFits schema c = (c.attr < length schema) × HasBoundsOfKind schema c × IsEqualOnTexts schema c × IsBound c

abbrev CondsFit : List Column → List Cond → Type 0
CondsFit schema [] = Unit {0}
CondsFit schema (c ∷ cs) = CondFits schema c × CondsFit schema cs

one_of : (k : Domain) (v : Bool) (a b : Bound) → IsBoundOfKind k (Some a) → IsBoundOfKind k (Some b) → IsBoundOfKind k (cond v (Some a) (Some b))
one_of k true a b ha hb = ha
one_of k false a b ha hb = hb

greater_kind : (k : Domain) (l m : Option Bound) → IsBoundOfKind k l → IsBoundOfKind k m → IsBoundOfKind k (greater l m)
greater_kind k None m hl hm = hm
greater_kind k (Some a) None hl hm = hl
greater_kind k (Some a) (Some b) hl hm = one_of k (bound_below a b) b a hm hl

lesser_kind : (k : Domain) (l m : Option Bound) → IsBoundOfKind k l → IsBoundOfKind k m → IsBoundOfKind k (lesser l m)
lesser_kind k None m hl hm = hm
lesser_kind k (Some a) None hl hm = hl
lesser_kind k (Some a) (Some b) hl hm = one_of k (bound_below a b) a b hl hm

lower_kind : (k : Domain) (o : Op) (z : ℤ) → IsOfKind k z → IsBoundOfKind k (lower_of o z)
lower_kind k Lt z h = tt
lower_kind k Le z h = tt
lower_kind k Eq z h = h
lower_kind k Ge z h = h
lower_kind k Gt z h = h

upper_kind : (k : Domain) (o : Op) (z : ℤ) → IsOfKind k z → IsBoundOfKind k (upper_of o z)
upper_kind k Lt z h = h
upper_kind k Le z h = h
upper_kind k Eq z h = h
upper_kind k Ge z h = tt
upper_kind k Gt z h = tt

-- a term has one bound at least
pub term_bound : (o : Op) (z : ℤ) → is_bound (lower_of o z) (upper_of o z) ≡ true
term_bound Lt z = refl
term_bound Le z = refl
term_bound Eq z = refl
term_bound Ge z = refl
term_bound Gt z = refl

some_if : (v : Bool) (a b : Bound) → is_some (cond v (Some a) (Some b)) ≡ true
some_if true a b = refl
some_if false a b = refl

greater_some : (a : Bound) (m : Option Bound) → is_some (greater (Some a) m) ≡ true
greater_some a None = refl
greater_some a (Some b) = some_if (bound_below a b) b a

lesser_some : (a : Bound) (m : Option Bound) → is_some (lesser (Some a) m) ≡ true
lesser_some a None = refl
lesser_some a (Some b) = some_if (bound_below a b) a b

or-true : (p : Bool) → (p || true) ≡ true
or-true true = refl
or-true false = refl

-- bounds that are narrowed are bounds
pub still_bound : (lower upper l u : Option Bound) → is_bound lower upper ≡ true → is_bound (greater lower l) (lesser upper u) ≡ true
still_bound None None l u h = absurd cc
still_bound (Some a) upper l u h = rw (greater_some a l) refl
still_bound None (Some b) l u h = rw (lesser_some b u) (or-true (is_some l))

-- ---- bounds of equality

not_itself : (v : ℤ) → int_lt v v ≡ false
not_itself (pos a) = le-ltb a a (omega arith)
not_itself (negsuc a) = le-ltb a a (omega arith)

not_both : (a b : ℕ) → nat_lt a b ≡ true → nat_lt b a ≡ false
not_both a b h = le-ltb b a (omega (arith, ltb-true a b h))

not_turned : (v w : ℤ) → int_lt v w ≡ true → int_lt w v ≡ false
not_turned (pos a) (pos b) h = not_both a b h
not_turned (pos a) (negsuc b) h = absurd (false≢true h)
not_turned (negsuc a) (pos b) h = refl
not_turned (negsuc a) (negsuc b) h = not_both b a h

-- narrowing an equality by another one keeps it one
equal-by : (y z v : ℤ) (p q : Bool) → int_lt y v ≡ p → int_lt z v ≡ q → int_lt y z ≡ false
    → AreEqualBounds (cond p (Some (Before v)) (Some (Before y))) (cond q (Some (After z)) (Some (After v)))
equal-by y z v true true e f h = not_turned z v f
equal-by y z v true false e f h = not_itself v
equal-by y z v false true e f h = h
equal-by y z v false false e f h = e

equal_more : (l u : Option Bound) (o : Op) (v : ℤ) → is_equality o ≡ true → AreEqualBounds l u → AreEqualBounds (greater l (lower_of o v)) (lesser u (upper_of o v))
equal_more l u Lt v o h = absurd (false≢true o)
equal_more l u Le v o h = absurd (false≢true o)
equal_more l u Ge v o h = absurd (false≢true o)
equal_more l u Gt v o h = absurd (false≢true o)
equal_more None u Eq v o h = absurd h
equal_more (Some (After y)) u Eq v o h = absurd h
equal_more (Some (Before y)) None Eq v o h = absurd h
equal_more (Some (Before y)) (Some (Before z)) Eq v o h = absurd h
equal_more (Some (Before y)) (Some (After z)) Eq v o h = equal-by y z v (int_lt y v) (int_lt z v) refl refl h

equal_new : (o : Op) (v : ℤ) → is_equality o ≡ true → AreEqualBounds (lower_of o v) (upper_of o v)
equal_new Lt v o = absurd (false≢true o)
equal_new Le v o = absurd (false≢true o)
equal_new Eq v o = not_itself v
equal_new Ge v o = absurd (false≢true o)
equal_new Gt v o = absurd (false≢true o)

-- the operator of a term on texts
served : (p q : Bool) → (p && not q) ≡ false → p ≡ true → q ≡ true
served true true h e = refl
served true false h e = absurd (false≢true (sym h))
served false q h e = absurd (false≢true e)

add-by : (v : Bool) (schema : List Column) (c : Cond) (cs : List Cond) (t : Term) → eqb c.attr t.attr ≡ v → CondsFit schema (c ∷ cs) → TermFits schema t → CondsFit schema (add_term cs t) → CondsFit schema (add_term (c ∷ cs) t)
add-by true schema c cs t e h f ih =
    let same : t.attr ≡ c.attr = sym ((Decides-eqb c.attr t.attr).0 e) in
    let of_kind : IsOfKind (kind_at schema c.attr) t.value = subst (λ (a : ℕ). IsOfKind (kind_at schema a) t.value) same f.1 in
    let k = kind_at schema c.attr in
    let bounds : HasBoundsOfKind schema (narrowed c t) =
    (greater_kind k c.lower (lower_of t.op t.value) h.0.1.0 (lower_kind k t.op t.value of_kind), lesser_kind k c.upper (upper_of t.op t.value) h.0.1.1 (upper_kind k t.op t.value of_kind)) in
    let on_texts : is_of_texts k ≡ true → is_equality t.op ≡ true =
    λ texts. served (is_of_texts k) (is_equality t.op) (subst (λ (a : ℕ). Serves (kind_at schema a) t.op) same f.2) texts in
    let equal : IsEqualOnTexts schema (narrowed c t) = λ texts. equal_more c.lower c.upper t.op t.value (on_texts texts) (h.0.2 texts) in
    rw e ((h.0.0, bounds, equal, still_bound c.lower c.upper (lower_of t.op t.value) (upper_of t.op t.value) h.0.3), h.1)
add-by false schema c cs t e h f ih = rw e (h.0, ih)

add_fits : (schema : List Column) (cs : List Cond) (t : Term) → CondsFit schema cs → TermFits schema t → CondsFit schema (add_term cs t)
add_fits schema [] t h f =
    let k = kind_at schema t.attr in
    let equal : IsEqualOnTexts schema (cond_of t) = λ texts. equal_new t.op t.value (served (is_of_texts k) (is_equality t.op) f.2 texts) in
    ((f.0, (lower_kind k t.op t.value f.1, upper_kind k t.op t.value f.1), equal, term_bound t.op t.value), tt)
add_fits schema (c ∷ cs) t h f = add-by (eqb c.attr t.attr) schema c cs t refl h f (add_fits schema cs t h.1 f)

from_fits : (schema : List Column) (cs : List Cond) (ts : List Term) → CondsFit schema cs → TermsFit schema ts → CondsFit schema (conds_from cs ts)
from_fits schema cs [] h f = h
from_fits schema cs (t ∷ ts) h f = from_fits schema (add_term cs t) ts (add_fits schema cs t h f.0) f.1

-- the attributes of terms stay distinct as terms come
pub attrs_distinct : (xs : List ℕ) (ts : List Term) → Distinct xs → Distinct (attrs_after xs ts)
attrs_distinct xs [] d = d
attrs_distinct xs (t ∷ ts) d = attrs_distinct (with_attr xs t.attr) ts (distinct-more xs t.attr d)

-- conditions made for attributes have these attributes
pub attrs-conditions : (ts : List Term) (xs : List ℕ) (f : ℕ → Cond) → ((a : ℕ) → (f a).attr ≡ a) → map (λ c. c.attr) (map f xs) ≡ xs
attrs-conditions ts [] f h = refl
attrs-conditions ts (x ∷ xs) f h = rw (h x, attrs-conditions ts xs f h) refl

apart : (xs : List ℕ) (a : ℕ) → has xs a ≡ false → AllByRecursion (λ y. nat_eq a y ≡ false) xs
apart [] a h = tt
apart (b ∷ xs) a h = let parts = or-false (eqb b a) (has xs a) h in (eqb-turned false b a parts.0, apart xs a parts.1)

-- distinct by recursion is distinct by places
pub distinct : (xs : List ℕ) → Distinct xs → IsDistinct nat_eq xs
unfolding IsDistinct
distinct [] d = tt
distinct (a ∷ xs) d = (apart xs a d.0, distinct xs d.1)

-- what holds of conditions that a line gives
pub record CondsOf (schema : List Column) (conds : List Cond) : Type 0 where
  pub fit : CondsFit schema conds
  pub once : IsDistinct nat_eq (map (λ c. c.attr) conds)

none_once : IsDistinct nat_eq []
unfolding IsDistinct
none_once = tt

where_fits : (schema : List Column) (ts : List Tok) (conds : List Cond) → IsWhere schema ts conds → CondsOf schema conds
where_fits schema ts conds (inl (none, no_conds)) = subst (λ (w : List Cond). CondsOf schema w) (sym no_conds) (record { fit = tt; once = none_once })
where_fits schema ts conds (inr (terms, rest, e, is, made)) =
    let fit : CondsFit schema (conditions terms) = subst (λ (w : List Cond). CondsFit schema w) (conds_from-conditions terms) (from_fits schema [] terms tt (terms_fit schema rest terms is)) in
    let attrs : map (λ c. c.attr) (conditions terms) ≡ attrs_after [] terms = attrs-conditions terms (attrs_after [] terms) _ (λ a. refl) in
    let once : IsDistinct nat_eq (map (λ c. c.attr) (conditions terms)) = subst (λ (w : List ℕ). IsDistinct nat_eq w) (sym attrs) (distinct (attrs_after [] terms) (attrs_distinct [] terms tt)) in
    subst (λ (w : List Cond). CondsOf schema w) (sym made) (record { fit = fit; once = once })

-- ---- questions

below : (schema : List Column) (cs : List Cond) → CondsFit schema cs → AllByRecursion (λ c. c.attr < length schema) cs
below schema [] h = tt
below schema (c ∷ cs) h = (h.0.0, below schema cs h.1)

kinds : (schema : List Column) (cs : List Cond) → CondsFit schema cs → AllByRecursion (HasBoundsOfKind schema) cs
kinds schema [] h = tt
kinds schema (c ∷ cs) h = (h.0.1, kinds schema cs h.1)

equals : (schema : List Column) (cs : List Cond) → CondsFit schema cs → AllByRecursion (IsEqualOnTexts schema) cs
equals schema [] h = tt
equals schema (c ∷ cs) h = (h.0.2, equals schema cs h.1)

bounds : (schema : List Column) (cs : List Cond) → CondsFit schema cs → AllByRecursion IsBound cs
bounds schema [] h = tt
bounds schema (c ∷ cs) h = (h.0.3, bounds schema cs h.1)

-- each name of a list is of an attribute that there is
pub names_below : (schema : List Column) (ts : List Tok) (is : List ℕ) → IsNames schema ts is → AllByRecursion (λ a. a < length schema) is
names_below schema ts [] h = absurd h
names_below schema ts (i ∷ []) (a, e, is) = (name_within schema a i is, tt)
names_below schema ts (i ∷ j ∷ js) (a, rest, e, is, more) = (name_within schema a i is, names_below schema rest (j ∷ js) more)

some_names : (schema : List Column) (ts : List Tok) (is : List ℕ) → IsNames schema ts is → 1 ≤ length is
some_names schema ts [] h = absurd h
some_names schema ts (i ∷ is) h = omega arith

question_fits : (schema : List Column) (conds : List Cond) (want : Want) → CondsOf schema conds → WantsBelow (length schema) want → TakesNumbers schema want → HasFewNames want
    → FitsQuery schema (record { conds = conds; want = want })
question_fits schema conds want h within numbers few = record {
  attrs = record { conds = All-from_recursion (λ c. c.attr < length schema) conds (below schema conds h.fit); want = within };
  once = h.once;
  bounds = All-from_recursion (HasBoundsOfKind schema) conds (kinds schema conds h.fit);
  equal = All-from_recursion (IsEqualOnTexts schema) conds (equals schema conds h.fit);
  numbers = numbers;
  names = few;
}

want_fits : (schema : List Column) (front : List Tok) (conds : List Cond) (want : Want) → IsWant schema front want → CondsOf schema conds → FitsQuery schema (record { conds = conds; want = want })
want_fits schema front conds (Rows names) (rest, e, is, few) h =
    question_fits schema conds (Rows names) h (All-from_recursion (λ a. a < length schema) names (names_below schema rest names is)) tt (some_names schema rest names is, few)
want_fits schema front conds Count e h = question_fits schema conds Count h tt tt tt
want_fits schema front conds (Sum a) (t, e, is) h = question_fits schema conds (Sum a) h (name_within schema t a is.0) is.1 tt
want_fits schema front conds (Min a) (t, e, is) h = question_fits schema conds (Min a) h (name_within schema t a is.0) is.1 tt
want_fits schema front conds (Max a) (t, e, is) h = question_fits schema conds (Max a) h (name_within schema t a is.0) is.1 tt

-- ---- rows

zeros : (n : ℕ) → replicate n (pos 0) ≡ replicate (length (replicate n (pos 0))) (pos 0)
zeros zero = refl
zeros (suc n) = ap (λ (w : List ℤ). pos 0 ∷ w) (zeros n)

more_fit : (ks : List Domain) (ts : List Tok) (zs : List ℤ) (n : ℕ) → MoreValues ks ts zs → FitsCells ks (zs ++ replicate n (pos 0))
more_fit [] ts zs n (none, no_values) = rw no_values (zeros n)
more_fit (k ∷ ks) ts [] n h = absurd h
more_fit (k ∷ ks) ts (z ∷ zs) n (a, rest, e, is, more) = (value_kind k a z is, more_fit ks rest zs n more)

values_fit : (ks : List Domain) (ts : List Tok) (zs : List ℤ) (n : ℕ) → IsValues ks ts zs → FitsCells ks (zs ++ replicate n (pos 0))
values_fit [] ts zs n (none, no_values) = rw no_values (zeros n)
values_fit (k ∷ ks) ts [] n h = absurd h
values_fit (k ∷ ks) ts (z ∷ zs) n (a, rest, e, is, more) = (value_kind k a z is, more_fit ks rest zs n more)

-- ---- conditions of a delete

more_terms : (cs : List Cond) (t : Term) → 1 ≤ length (add_term cs t)
more_terms [] t = omega arith
more_terms (c ∷ cs) t = by_attr (eqb c.attr t.attr)
  where
    by_attr : (b : Bool) → 1 ≤ length (cond b (narrowed c t ∷ cs) (c ∷ add_term cs t))
    by_attr true = omega arith
    by_attr false = omega arith

from_some : (cs : List Cond) (ts : List Term) → 1 ≤ length cs → 1 ≤ length (conds_from cs ts)
from_some cs [] h = h
from_some cs (t ∷ ts) h = from_some (add_term cs t) ts (more_terms cs t)

-- terms make one condition at least
pub some_conds : (schema : List Column) (ts : List Tok) (terms : List Term) → IsTerms schema ts terms → 1 ≤ length (conditions terms)
some_conds schema ts [] h = absurd h
some_conds schema ts (t ∷ terms) h = subst (λ (w : List Cond). 1 ≤ length w) (conds_from-conditions (t ∷ terms)) (from_some (add_term [] t) terms (more_terms [] t))

conds_fit : (schema : List Column) (ts : List Tok) (conds : List Cond) → HasTerms schema ts conds → FitsConds schema conds
conds_fit schema ts conds (terms, rest, e, is, made) =
    let h = where_fits schema ts conds (inr (terms, rest, e, is, made)) in
    record {
      query = question_fits schema conds Count h tt tt tt;
      some = subst (λ (w : List Cond). 1 ≤ length w) (sym made) (some_conds schema rest terms is);
      bound = All-from_recursion IsBound conds (bounds schema conds h.fit);
    }

-- a related call fits the table
pub call_fits : (schema : List Column) (ts : List Tok) (c : Call) → IsCall schema ts c → FitsCall schema c
call_fits schema ts (Select q) (front, rest, parts, is, h) = want_fits schema front q.conds q.want is (where_fits schema rest q.conds h)
call_fits schema ts (Insert cells) (zs, rest, e, is, pad) = subst (λ (w : List ℤ). FitsCells (kinds_of schema) w) (sym pad) (values_fit (kinds_of schema) rest zs (8 - length zs) is)
call_fits schema ts (Delete key) h = tt
call_fits schema ts (DeleteWhere conds) (rest, e, given) = conds_fit schema rest conds given

-- the call of a related line fits the table
pub line_fits : (schema : List Column) (text : List ℕ) (call : Option Call) → IsLine schema text call → IfSome call (λ c. FitsCall schema c)
line_fits schema text None h = tt
line_fits schema text (Some c) h = call_fits schema _ c h.2
