-- The conditions that a line gives: each has a bound, and its bounds stand at stored cells.
use Rattle.std.proofs.Common.{◌≡◌, sym, refl, subst, ℕ, ℤ, ◌<◌, inl, inr, Bool, true, false, cond, eqb, List, [], ◌∷◌, ◌++◌, length, Option, Some, None, ap, ◌∙◌, ◌&&◌, not, int_lt, true≢false, arith}
use Rattle.std.proofs.lemmas.Bool.Decides.{Decides-eqb}
use Rattle.std.proofs.lemmas.Int.{ints}
use Rattle.std.proofs.lemmas.List.{length-map}
use Rattle.std.specs.Ordering.{int_eq}
use Rattle.std.proofs.lemmas.Option.{slice_get-get_or}
use Rattle.sw_rows.proofs.Schemas.ColumnLemmas.{places_at}
use Rattle.sw_query.specs.Bounds.{bound_below, greater, lesser}
use Rattle.sw_rows.specs.Domains.{IsDomain}
use Rattle.sw_rows.specs.Header.{Column, IsSchema, kinds_of}
use Rattle.sw_query.specs.declared.bound.Bound.{Bound}
use Rattle.sw_query.specs.declared.bound.Bound.TheVariants.{Before, After}
use Rattle.sw_rows.specs.Domains.{Domain, is_of_texts}
use Rattle.sw_rows.specs.Domains as kind
use Rattle.sw_query.specs.declared.query.Cond.{Cond}
use Rattle.sw_lang.specs.declared.reading.term.Term.{Term}
use Rattle.sw_lang.specs.declared.reading.token.Op.{Op}
use Rattle.sw_lang.specs.declared.reading.token.Op.TheVariants.{Lt, Le, Eq, Ge, Gt}
use Rattle.sw_lang.specs.Fits.{AreEqualBounds, IsEqualOnTexts, is_bound}
use Rattle.sw_lang.specs.Reading.{is_equality}
use Rattle.sw_lang.specs.Grammar.{IsTerm, IsTerms, IsValue, IsWhere}
use Rattle.sw_lang.specs.Replies.{kind_at}
use Rattle.sw_lang.specs.Terms.{add_term, attrs_after, cond_of, conditions, lower_of, narrowed, upper_of}
use Rattle.sw_lang.specs.Tokens.{Tok}
use Rattle.sw_lang.proofs.Parsing.Fits.{attrs-conditions, attrs_distinct, name_within, still_bound, term_bound}
use Rattle.sw_lang.proofs.Parsing.Merge.{Distinct, conds_from, conds_from-conditions}
use Rattle.sw_lang.proofs.Printed.Cells.{IsCell, cell_stored, word_is}
use Rattle.sw_lang.proofs.Printed.Merge.{AllBound, attrs}
use Rattle.sw_lang.proofs.Printed.Terms.{AreGood, IsGood, equal_term, equal_terms_of, lower_term, printed, printed_all, text_terms_of, upper_term}

-- the kind of an attribute of a schema is a kind of cells
pub kind_places : (schema : List Column) (a : ℕ) → IsSchema schema → a < length schema → IsDomain (kind_at schema a)
kind_places schema a ok h =
    let within : a < length (kinds_of schema) = rw length-map h in
    places_at schema a (kind_at schema a) ok.sound (slice_get-get_or (kinds_of schema) a kind.Int within)

-- a value of a line can be stored
pub value_stored : (k : Domain) (t : Tok) (z : ℤ) → IsDomain k → IsValue k t z → IsCell k z
value_stored k t z p (inl (w, is, value)) = cell_stored k w z p (word_is k w z value).1
value_stored k t z p (inr (text, is, of_texts, value)) = cell_stored k text z p value

-- ---- terms

term_good : (schema : List Column) (a b c : Tok) (t : Term) → IsSchema schema → IsTerm schema a b c t → IsGood schema t
term_good schema a b c t ok is =
    let within = name_within schema a t.attr is.name in
    record { attr = within; fits = is.fits; cell = value_stored (kind_at schema t.attr) c t.value (kind_places schema t.attr ok within) is.value }

terms_good : (schema : List Column) (ts : List Tok) (us : List Term) → IsSchema schema → IsTerms schema ts us → AreGood schema us
terms_good schema ts [] ok h = absurd h
terms_good schema ts (t ∷ []) ok (a, b, c, e, is) = (term_good schema a b c t ok is, tt)
terms_good schema ts (t ∷ u ∷ us) ok (a, b, c, rest, e, is, more) = (term_good schema a b c t ok is, terms_good schema rest (u ∷ us) ok more)

-- ---- bounds

-- a bound that may be missing stands at a stored cell of the kind
abbrev pub IsBoundOf : Domain → Option Bound → Type 0
IsBoundOf k None = Unit {0}
IsBoundOf k (Some (Before z)) = IsCell k z
IsBoundOf k (Some (After z)) = IsCell k z

one_of : (k : Domain) (v : Bool) (a b : Bound) → IsBoundOf k (Some a) → IsBoundOf k (Some b) → IsBoundOf k (cond v (Some a) (Some b))
one_of k true a b ha hb = ha
one_of k false a b ha hb = hb

greater_of : (k : Domain) (l m : Option Bound) → IsBoundOf k l → IsBoundOf k m → IsBoundOf k (greater l m)
greater_of k None m hl hm = hm
greater_of k (Some a) None hl hm = hl
greater_of k (Some a) (Some b) hl hm = one_of k (bound_below a b) b a hm hl

lesser_of : (k : Domain) (l m : Option Bound) → IsBoundOf k l → IsBoundOf k m → IsBoundOf k (lesser l m)
lesser_of k None m hl hm = hm
lesser_of k (Some a) None hl hm = hl
lesser_of k (Some a) (Some b) hl hm = one_of k (bound_below a b) a b hl hm

lower_cell : (k : Domain) (o : Op) (z : ℤ) → IsCell k z → IsBoundOf k (lower_of o z)
lower_cell k Lt z h = tt
lower_cell k Le z h = tt
lower_cell k Eq z h = h
lower_cell k Ge z h = h
lower_cell k Gt z h = h

upper_cell : (k : Domain) (o : Op) (z : ℤ) → IsCell k z → IsBoundOf k (upper_of o z)
upper_cell k Lt z h = h
upper_cell k Le z h = h
upper_cell k Eq z h = h
upper_cell k Ge z h = tt
upper_cell k Gt z h = tt

no_texts : (a b : Bool) → a ≡ false → (a && b) ≡ false
no_texts a b h = rw h refl

equality_fits : (a : Bool) → (a && false) ≡ false
equality_fits true = refl
equality_fits false = refl

-- ---- bounds of equality

only_equality : (a b : Bool) → a ≡ true → (a && not b) ≡ false → b ≡ true
only_equality true true h k = refl
only_equality true false h k = absurd (true≢false k)
only_equality false b h k = absurd (true≢false (sym h))

not_below_itself : (z : ℤ) → int_lt z z ≡ false
not_below_itself z = grind (arith, ints)

not_above : (v w : ℤ) → int_lt v w ≡ true → int_lt w v ≡ false
not_above v w h = grind (arith, ints)

new_equal : (o : Op) (z : ℤ) → is_equality o ≡ true → AreEqualBounds (lower_of o z) (upper_of o z)
new_equal Lt z h = absurd (true≢false (sym h))
new_equal Le z h = absurd (true≢false (sym h))
new_equal Eq z h = not_below_itself z
new_equal Ge z h = absurd (true≢false (sym h))
new_equal Gt z h = absurd (true≢false (sym h))

-- the bounds of equality with one more value
narrower : (a b : Bool) (v w z : ℤ) → int_lt v z ≡ a → int_lt w z ≡ b → int_lt v w ≡ false
    → AreEqualBounds (cond a (Some (Before z)) (Some (Before v))) (cond b (Some (After w)) (Some (After z)))
narrower true true v w z e f h = not_above w z f
narrower true false v w z e f h = not_below_itself z
narrower false true v w z e f h = h
narrower false false v w z e f h = e

equal_more : (lower upper : Option Bound) (z : ℤ) → AreEqualBounds lower upper → AreEqualBounds (greater lower (Some (Before z))) (lesser upper (Some (After z)))
equal_more None upper z h = absurd h
equal_more (Some (After v)) upper z h = absurd h
equal_more (Some (Before v)) None z h = absurd h
equal_more (Some (Before v)) (Some (Before w)) z h = absurd h
equal_more (Some (Before v)) (Some (After w)) z h = narrower (int_lt v z) (int_lt w z) v w z refl refl h

still_equal : (lower upper : Option Bound) (o : Op) (z : ℤ) → AreEqualBounds lower upper → is_equality o ≡ true → AreEqualBounds (greater lower (lower_of o z)) (lesser upper (upper_of o z))
still_equal lower upper Lt z h k = absurd (true≢false (sym k))
still_equal lower upper Le z h k = absurd (true≢false (sym k))
still_equal lower upper Eq z h k = equal_more lower upper z h
still_equal lower upper Ge z h k = absurd (true≢false (sym k))
still_equal lower upper Gt z h k = absurd (true≢false (sym k))

-- ---- conditions

pub record IsStored (schema : List Column) (c : Cond) : Type 0 where
  pub attr : c.attr < length schema
  pub lower : IsBoundOf (kind_at schema c.attr) c.lower
  pub upper : IsBoundOf (kind_at schema c.attr) c.upper
  pub some : is_bound c.lower c.upper ≡ true
  pub equal : IsEqualOnTexts schema c

-- each condition has an attribute of the schema, a bound, bounds at cells of its kind, and on texts equality
abbrev pub AreStored : List Column → List Cond → Type 0
AreStored schema [] = Unit {0}
AreStored schema (c ∷ cs) = IsStored schema c × AreStored schema cs

new_stored : (schema : List Column) (t : Term) → IsGood schema t → IsStored schema (cond_of t)
new_stored schema t g = record {
  attr = g.attr;
  lower = lower_cell (kind_at schema t.attr) t.op t.value g.cell;
  upper = upper_cell (kind_at schema t.attr) t.op t.value g.cell;
  some = term_bound t.op t.value;
  equal = λ of_texts. new_equal t.op t.value (only_equality (is_of_texts (kind_at schema t.attr)) (is_equality t.op) of_texts g.fits);
}

narrowed_stored : (schema : List Column) (c : Cond) (t : Term) → c.attr ≡ t.attr → IsStored schema c → IsGood schema t → IsStored schema (narrowed c t)
narrowed_stored schema c t same s g =
    let k = kind_at schema c.attr in
    let cell : IsCell k t.value = subst (λ (a : ℕ). IsCell (kind_at schema a) t.value) (sym same) g.cell in
    record {
      attr = s.attr;
      lower = greater_of k c.lower (lower_of t.op t.value) s.lower (lower_cell k t.op t.value cell);
      upper = lesser_of k c.upper (upper_of t.op t.value) s.upper (upper_cell k t.op t.value cell);
      some = still_bound c.lower c.upper (lower_of t.op t.value) (upper_of t.op t.value) s.some;
      equal = λ of_texts.
          let there : is_of_texts (kind_at schema t.attr) ≡ true = ap (λ (a : ℕ). is_of_texts (kind_at schema a)) (sym same) ∙ of_texts in
          still_equal c.lower c.upper t.op t.value (s.equal of_texts) (only_equality (is_of_texts (kind_at schema t.attr)) (is_equality t.op) there g.fits);
    }

add-by : (v : Bool) (schema : List Column) (c : Cond) (cs : List Cond) (t : Term) → eqb c.attr t.attr ≡ v → AreStored schema (c ∷ cs) → IsGood schema t → AreStored schema (add_term cs t) → AreStored schema (add_term (c ∷ cs) t)
add-by true schema c cs t e h g ih = rw e (narrowed_stored schema c t ((Decides-eqb c.attr t.attr).0 e) h.0 g, h.1)
add-by false schema c cs t e h g ih = rw e (h.0, ih)

add_stored : (schema : List Column) (cs : List Cond) (t : Term) → AreStored schema cs → IsGood schema t → AreStored schema (add_term cs t)
add_stored schema [] t h g = (new_stored schema t g, tt)
add_stored schema (c ∷ cs) t h g = add-by (eqb c.attr t.attr) schema c cs t refl h g (add_stored schema cs t h.1 g)

from_stored : (schema : List Column) (cs : List Cond) (ts : List Term) → AreStored schema cs → AreGood schema ts → AreStored schema (conds_from cs ts)
from_stored schema cs [] h g = h
from_stored schema cs (t ∷ ts) h g = from_stored schema (add_term cs t) ts (add_stored schema cs t h g.0) g.1

-- what holds of the conditions of a line
pub record CondsOf (schema : List Column) (conds : List Cond) : Type 0 where
  pub stored : AreStored schema conds
  pub once : Distinct (attrs conds)

-- the conditions of a line have bounds at stored cells
pub where_conds : (schema : List Column) (ts : List Tok) (conds : List Cond) → IsSchema schema → IsWhere schema ts conds → CondsOf schema conds
where_conds schema ts conds ok (inl (none, no_conds)) = subst (λ (w : List Cond). CondsOf schema w) (sym no_conds) (record { stored = tt; once = tt })
where_conds schema ts conds ok (inr (terms, rest, e, is, made)) =
    let stored : AreStored schema (conditions terms) = subst (λ (w : List Cond). AreStored schema w) (conds_from-conditions terms) (from_stored schema [] terms tt (terms_good schema rest terms ok is)) in
    let places : attrs (conditions terms) ≡ attrs_after [] terms = attrs-conditions terms (attrs_after [] terms) _ (λ a. refl) in
    let once : Distinct (attrs (conditions terms)) = subst (λ (w : List ℕ). Distinct w) (sym places) (attrs_distinct [] terms tt) in
    subst (λ (w : List Cond). CondsOf schema w) (sym made) (record { stored = stored; once = once })

-- ---- and of the terms that they are printed by

-- such conditions have a bound each
pub all_bound : (schema : List Column) (cs : List Cond) → AreStored schema cs → AllBound schema cs
all_bound schema [] h = tt
all_bound schema (c ∷ cs) h = (h.0.some, h.0.equal, all_bound schema cs h.1)

good_append : (schema : List Column) (ts us : List Term) → AreGood schema ts → AreGood schema us → AreGood schema (ts ++ us)
good_append schema [] us g h = h
good_append schema (t ∷ ts) us g h = (g.0, good_append schema ts us g.1 h)

lower_good : (schema : List Column) (a : ℕ) (o : Option Bound) → a < length schema → is_of_texts (kind_at schema a) ≡ false → IsBoundOf (kind_at schema a) o → AreGood schema (lower_term a o)
lower_good schema a None h n b = tt
lower_good schema a (Some (Before v)) h n b = (record { attr = h; fits = no_texts (is_of_texts (kind_at schema a)) true n; cell = b }, tt)
lower_good schema a (Some (After v)) h n b = (record { attr = h; fits = no_texts (is_of_texts (kind_at schema a)) true n; cell = b }, tt)

upper_good : (schema : List Column) (a : ℕ) (o : Option Bound) → a < length schema → is_of_texts (kind_at schema a) ≡ false → IsBoundOf (kind_at schema a) o → AreGood schema (upper_term a o)
upper_good schema a None h n b = tt
upper_good schema a (Some (Before v)) h n b = (record { attr = h; fits = no_texts (is_of_texts (kind_at schema a)) true n; cell = b }, tt)
upper_good schema a (Some (After v)) h n b = (record { attr = h; fits = no_texts (is_of_texts (kind_at schema a)) true n; cell = b }, tt)

equal_good : (schema : List Column) (a : ℕ) (v : ℤ) → a < length schema → IsCell (kind_at schema a) v → AreGood schema (equal_term a v)
equal_good schema a v h c = (record { attr = h; fits = equality_fits (is_of_texts (kind_at schema a)); cell = c }, tt)

equal_by : (b : Bool) (schema : List Column) (a : ℕ) (v w : ℤ) → int_eq v w ≡ b → a < length schema → IsCell (kind_at schema a) v → IsCell (kind_at schema a) w → AreGood schema (equal_terms_of a v w)
equal_by true schema a v w e h c d = rw e (equal_good schema a v h c)
equal_by false schema a v w e h c d = rw e (good_append schema (equal_term a v) (equal_term a w) (equal_good schema a v h c) (equal_good schema a w h d))

text_good : (schema : List Column) (a : ℕ) (lower upper : Option Bound) → a < length schema → AreEqualBounds lower upper → IsBoundOf (kind_at schema a) lower → IsBoundOf (kind_at schema a) upper → AreGood schema (text_terms_of a lower upper)
text_good schema a None upper h e l u = absurd e
text_good schema a (Some (After v)) upper h e l u = absurd e
text_good schema a (Some (Before v)) None h e l u = absurd e
text_good schema a (Some (Before v)) (Some (Before w)) h e l u = absurd e
text_good schema a (Some (Before v)) (Some (After w)) h e l u = equal_by (int_eq v w) schema a v w refl h l u

cond_good : (b : Bool) (schema : List Column) (c : Cond) → is_of_texts (kind_at schema c.attr) ≡ b → IsStored schema c → AreGood schema (printed schema c)
cond_good true schema c e s = rw e (text_good schema c.attr c.lower c.upper s.attr (s.equal e) s.lower s.upper)
cond_good false schema c e s =
    rw e (good_append schema (lower_term c.attr c.lower) (upper_term c.attr c.upper) (lower_good schema c.attr c.lower s.attr e s.lower) (upper_good schema c.attr c.upper s.attr e s.upper))

-- such conditions are printed by comparisons that can be read
pub printed_good : (schema : List Column) (cs : List Cond) → AreStored schema cs → AreGood schema (printed_all schema cs)
printed_good schema [] h = tt
printed_good schema (c ∷ cs) h =
    good_append schema (printed schema c) (printed_all schema cs) (cond_good (is_of_texts (kind_at schema c.attr)) schema c refl h.0) (printed_good schema cs h.1)
