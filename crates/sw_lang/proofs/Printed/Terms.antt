-- The comparisons that a condition is printed by, and the tokens of their text.
use Rattle.std.proofs.Common.{◌≡◌, ◌∙◌, ap, sym, refl, ℕ, ◌<◌, true, false, List, [], ◌∷◌, ◌++◌, length, map, Option, Some, None, append_assoc, flat_map, inl, inr, subst, ℤ, Bool, not, ◌&&◌, if◌then◌else◌}
use Rattle.std.proofs.lemmas.List.{map-append}
use Rattle.std.specs.Ordering.{int_eq}
use Rattle.sw_rows.specs.Domains.{is_of_texts}
use Rattle.sw_rows.specs.Header.{Column, IsSchema}
use Rattle.sw_query.specs.declared.bound.Bound.{Bound}
use Rattle.sw_query.specs.declared.bound.Bound.TheVariants.{Before, After}
use Rattle.sw_query.specs.declared.query.Cond.{Cond}
use Rattle.sw_lang.specs.declared.reading.term.Term.{Term}
use Rattle.sw_lang.specs.declared.reading.token.Op.TheVariants.{Lt, Le, Eq, Ge, Gt}
use Rattle.sw_lang.specs.Grammar.{IsTerm, IsTerms, IsWhere}
use Rattle.sw_lang.specs.PrintedCalls.{comparison, cond_terms, equal_terms, lower_terms, name_at, terms_text, text_terms, upper_terms, where_text}
use Rattle.sw_lang.specs.Reading.{is_equality}
use Rattle.sw_lang.specs.Replies.{cell_text, kind_at}
use Rattle.sw_lang.specs.Terms.{conditions}
use Rattle.sw_lang.specs.Tokens.{Tok, word, op, tokens}
use Rattle.sw_lang.proofs.Printed.Cells.{Ends, IsCell, cell_printed, value_tok}
use Rattle.sw_lang.proofs.Printed.Names.{name_is, name_word}
use Rattle.sw_lang.proofs.Printed.Tokens.{Stops, front_op, front_word, op_stops, op_text}

-- ---- the terms that a condition is printed by

-- the comparison of a lower bound, if there is one: at least, or greater
abbrev pub lower_term : ℕ → Option Bound → List Term
lower_term a None = []
lower_term a (Some (Before v)) = record { attr = a; op = Ge; value = v } ∷ []
lower_term a (Some (After v)) = record { attr = a; op = Gt; value = v } ∷ []

-- the comparison of an upper bound, if there is one: less, or at most
abbrev pub upper_term : ℕ → Option Bound → List Term
upper_term a None = []
upper_term a (Some (Before v)) = record { attr = a; op = Lt; value = v } ∷ []
upper_term a (Some (After v)) = record { attr = a; op = Le; value = v } ∷ []

-- on an attribute of texts: equality with the text of the lower bound, and with that of the upper one where it is another
abbrev pub equal_term : ℕ → ℤ → List Term
equal_term a v = record { attr = a; op = Eq; value = v } ∷ []

-- equality with two texts, or with one where both are the same
abbrev pub equal_terms_of : ℕ → ℤ → ℤ → List Term
equal_terms_of a v w = if int_eq v w then equal_term a v else equal_term a v ++ equal_term a w

-- the comparisons of bounds on texts; other bounds than those of equality are compared as for numbers
abbrev pub text_terms_of : ℕ → Option Bound → Option Bound → List Term
text_terms_of a None upper = upper_term a upper
text_terms_of a (Some (After v)) upper = lower_term a (Some (After v)) ++ upper_term a upper
text_terms_of a (Some (Before v)) None = lower_term a (Some (Before v))
text_terms_of a (Some (Before v)) (Some (Before w)) = lower_term a (Some (Before v)) ++ upper_term a (Some (Before w))
text_terms_of a (Some (Before v)) (Some (After w)) = equal_terms_of a v w

-- the comparisons of a condition's bounds as for numbers, that of its lower bound first
abbrev pub bound_terms_of : Cond → List Term
bound_terms_of c = lower_term c.attr c.lower ++ upper_term c.attr c.upper

-- the comparisons that a condition is printed by, as its attribute is of texts or not
abbrev pub printed : List Column → Cond → List Term
printed schema c = if is_of_texts (kind_at schema c.attr) then text_terms_of c.attr c.lower c.upper else bound_terms_of c

-- the comparisons that conditions are printed by, in order
abbrev pub printed_all : List Column → List Cond → List Term
printed_all schema [] = []
printed_all schema (c ∷ cs) = printed schema c ++ printed_all schema cs

-- a comparison as it is printed: the attribute's name, the operator, and the value
abbrev pub term_text : List Column → Term → List ℕ
term_text schema t = comparison schema t.attr (op_text t.op) t.value

lower-text : (schema : List Column) (a : ℕ) (o : Option Bound) → lower_terms schema a o ≡ map (term_text schema) (lower_term a o)
lower-text schema a None = refl
lower-text schema a (Some (Before v)) = refl
lower-text schema a (Some (After v)) = refl

upper-text : (schema : List Column) (a : ℕ) (o : Option Bound) → upper_terms schema a o ≡ map (term_text schema) (upper_term a o)
upper-text schema a None = refl
upper-text schema a (Some (Before v)) = refl
upper-text schema a (Some (After v)) = refl

bounds-text : (schema : List Column) (a : ℕ) (lower upper : Option Bound) → lower_terms schema a lower ++ upper_terms schema a upper ≡ map (term_text schema) (lower_term a lower ++ upper_term a upper)
bounds-text schema a lower upper =
    ap (λ l. l ++ upper_terms schema a upper) (lower-text schema a lower)
    ∙ ap (λ l. map (term_text schema) (lower_term a lower) ++ l) (upper-text schema a upper)
    ∙ sym (map-append (term_text schema) (lower_term a lower) (upper_term a upper))

equal-text : (b : Bool) (schema : List Column) (a : ℕ) (v w : ℤ) → int_eq v w ≡ b → equal_terms schema a v w ≡ map (term_text schema) (equal_terms_of a v w)
equal-text true schema a v w e = rw e refl
equal-text false schema a v w e = rw e refl

text-text : (schema : List Column) (a : ℕ) (lower upper : Option Bound) → text_terms schema a lower upper ≡ map (term_text schema) (text_terms_of a lower upper)
text-text schema a None upper = upper-text schema a upper
text-text schema a (Some (After v)) upper = bounds-text schema a (Some (After v)) upper
text-text schema a (Some (Before v)) None = refl
text-text schema a (Some (Before v)) (Some (Before w)) = refl
text-text schema a (Some (Before v)) (Some (After w)) = equal-text (int_eq v w) schema a v w refl

cond-by : (b : Bool) (schema : List Column) (c : Cond) → is_of_texts (kind_at schema c.attr) ≡ b → cond_terms schema c ≡ map (term_text schema) (printed schema c)
cond-by true schema c e = rw e (text-text schema c.attr c.lower c.upper)
cond-by false schema c e = rw e (bounds-text schema c.attr c.lower c.upper)

cond-text : (schema : List Column) (c : Cond) → cond_terms schema c ≡ map (term_text schema) (printed schema c)
cond-text schema c = cond-by (is_of_texts (kind_at schema c.attr)) schema c refl

-- the comparisons of conditions, written one by one
pub conds-text : (schema : List Column) (cs : List Cond) → flat_map (cond_terms schema) cs ≡ map (term_text schema) (printed_all schema cs)
conds-text schema [] = refl
conds-text schema (c ∷ cs) =
    ap (λ l. l ++ flat_map (cond_terms schema) cs) (cond-text schema c)
    ∙ ap (λ l. map (term_text schema) (printed schema c) ++ l) (conds-text schema cs)
    ∙ sym (map-append (term_text schema) (printed schema c) (printed_all schema cs))

-- ---- terms of the table

pub record IsGood (schema : List Column) (t : Term) : Type 0 where
  pub attr : t.attr < length schema
  pub fits : (is_of_texts (kind_at schema t.attr) && not (is_equality t.op)) ≡ false
  pub cell : IsCell (kind_at schema t.attr) t.value

-- each term is on an attribute of the schema, with a cell of its kind, and compares texts by equality alone
abbrev pub AreGood : List Column → List Term → Type 0
AreGood schema [] = Unit {0}
AreGood schema (t ∷ ts) = IsGood schema t × AreGood schema ts

-- an attribute's name as a token
abbrev pub name_tok : List Column → ℕ → Tok
name_tok schema a = word (name_at schema a)

abbrev term_tok : List Column → Term → Tok
term_tok schema t = value_tok (kind_at schema t.attr) t.value

-- the text of a term, before what ends its last token
pub term_tokens : (schema : List Column) (t : Term) (rest : List ℕ) → IsSchema schema → IsGood schema t → Ends rest
    → tokens (term_text schema t ++ rest) ≡ name_tok schema t.attr ∷ op t.op ∷ term_tok schema t ∷ tokens rest
term_tokens schema t rest ok good ends =
    let name : List ℕ = name_at schema t.attr in
    let sign : List ℕ = op_text t.op in
    let value : List ℕ = cell_text (kind_at schema t.attr) t.value in
    ap tokens (append_assoc name (sign ++ value) rest)
    ∙ ap (λ l. tokens (name ++ l)) (append_assoc sign value rest)
    ∙ front_word name (sign ++ (value ++ rest)) (name_word schema t.attr ok good.attr).run (op_stops t.op (value ++ rest))
    ∙ ap (λ l. word name ∷ l) (front_op t.op (value ++ rest))
    ∙ ap (λ l. word name ∷ op t.op ∷ l) ((cell_printed (kind_at schema t.attr) t.value good.cell).front rest ends)

term_is : (schema : List Column) (t : Term) → IsGood schema t → IsTerm schema (name_tok schema t.attr) (op t.op) (term_tok schema t) t
term_is schema t good = record {
  name = name_is schema t.attr good.attr;
  op = refl;
  fits = good.fits;
  value = (cell_printed (kind_at schema t.attr) t.value good.cell).value;
}

-- one term, or a term and more of them
abbrev pub started : List Column → Term → List Term → List ℕ
started schema t ts = term_text schema t ++ terms_text true (map (term_text schema) ts)

terms_are : (schema : List Column) (t : Term) (ts : List Term) → IsSchema schema → AreGood schema (t ∷ ts) → IsTerms schema (tokens (started schema t ts)) (t ∷ ts)
terms_are schema t [] ok good = (name_tok schema t.attr, op t.op, term_tok schema t, term_tokens schema t [] ok good.0 (refl, refl), term_is schema t good.0)
terms_are schema t (u ∷ us) ok good =
    let rest : List ℕ = terms_text true (map (term_text schema) (u ∷ us)) in (
      name_tok schema t.attr,
      op t.op,
      term_tok schema t,
      tokens (started schema u us),
      term_tokens schema t rest ok good.0 (refl, refl),
      term_is schema t good.0,
      terms_are schema u us ok good.1,
    )

-- ---- the conditions' text

-- no word goes on into conditions that follow
pub where_stops : (schema : List Column) (conds : List Cond) → Stops (where_text schema false conds)
where_stops schema conds = by_terms (flat_map (cond_terms schema) conds)
  where
    by_terms : (ts : List (List ℕ)) → Stops (terms_text false ts)
    by_terms [] = refl
    by_terms (t ∷ ts) = refl

texts_where : (schema : List Column) (ts : List Term) (conds : List Cond) → IsSchema schema → AreGood schema ts → conditions ts ≡ conds → IsWhere schema (tokens (terms_text false (map (term_text schema) ts))) conds
texts_where schema [] conds ok good made = inl (refl, sym made)
texts_where schema (t ∷ ts) conds ok good made = inr (t ∷ ts, tokens (started schema t ts), refl, terms_are schema t ts ok good, sym made)

-- the tokens of printed conditions are related to them
pub where_is : (schema : List Column) (conds : List Cond) → IsSchema schema → AreGood schema (printed_all schema conds) → conditions (printed_all schema conds) ≡ conds → IsWhere schema (tokens (where_text schema false conds)) conds
where_is schema conds ok good made =
    subst (λ ts. IsWhere schema (tokens (terms_text false ts)) conds) (sym (conds-text schema conds)) (texts_where schema (printed_all schema conds) conds ok good made)
