-- The texts of a call, each of which has a code among those of a file.
use Rattle.std.proofs.Common.{◌≡◌, ◌∙◌, ap, sym, refl, ℕ, ℤ, suc, ◌+◌, inl, inr, Bool, true, false, ◌&&◌, if◌then◌else◌, All, List, [], ◌∷◌, ◌++◌, append_assoc, arith, Option, Some, None, option_map}
use Rattle.std.specs.List.{list_all}
use Rattle.std.specs.Prelude.{pos}
use Rattle.std.proofs.lemmas.List.Folds.{list_all-append}
use Rattle.std.proofs.lemmas.Option.{none-some}
use Rattle.sw_rows.specs.Cells.{coded_value}
use Rattle.sw_rows.specs.Domains.{Domain, IsOver}
use Rattle.sw_rows.specs.Domains as kind
use Rattle.sw_rows.specs.Header.{Column, kinds_of}
use Rattle.sw_rows.specs.Texts.{code_of, has_text, is_text}
use Rattle.sw_query.specs.declared.query.Call.{Call}
use Rattle.sw_query.specs.declared.query.Call.TheVariants.{Select, Insert, Delete, DeleteWhere}
use Rattle.sw_query.specs.declared.query.Cond.{Cond}
use Rattle.sw_query.specs.declared.query.Want.{Want}
use Rattle.sw_query.specs.declared.query.Want.TheVariants.{Rows, Count, Sum, Min, Max}
use Rattle.sw_lang.specs.Grammar.{IsCall, IsName, IsNames, IsTerm, IsTerms, IsValue, IsValues, IsWant, HasTerms, MoreValues}
use Rattle.sw_lang.specs.Learning.{quoted_text, quoted_texts}
use Rattle.sw_lang.specs.Replies.{kind_at}
use Rattle.sw_lang.specs.Tokens.{Tok}
use Rattle.sw_lang.specs.declared.reading.term.Term.{Term}
use Rattle.sw_lang.proofs.Known.Given.{AreIn, has_from_code}
use Rattle.sw_histories.proofs.Related.OtherCodes.{Texts, own_texts}

both : (ts xs ys : Texts) → AreIn ts xs → AreIn ts ys → AreIn ts (xs ++ ys)
both ts xs ys h k = list_all-append (has_text ts) xs ys ∙ ap (λ b. b && list_all (has_text ts) ys) h ∙ k

value-in : (ts : Texts) (d : Domain) (t : Tok) (z : ℤ) → IsOver ts d → IsValue d t z → AreIn ts (quoted_text t)
value-in ts d t z o (inl (w, e, h)) = ap (λ x. list_all (has_text ts) (quoted_text x)) e
value-in ts kind.Int t z o (inr (text, e, of, h)) = absurd cc
value-in ts (kind.Fix places) t z o (inr (text, e, of, h)) = absurd cc
value-in ts kind.Flag t z o (inr (text, e, of, h)) = absurd cc
value-in ts (kind.Text own) t z o (inr (text, e, of, h)) = ap (λ x. list_all (has_text ts) (quoted_text x)) e ∙ by-test (is_text text) refl (ap (λ vs. coded_value vs text) (sym o) ∙ h)
  where
    by-code : (c : Option ℕ) → code_of ts text ≡ c → option_map pos c ≡ Some z → (has_text ts text && true) ≡ true
    by-code None f g = absurd (none-some z g)
    by-code (Some code) f g = ap (λ b. b && true) (has_from_code ts text code f)

    by-test : (b : Bool) → is_text text ≡ b → (if b then option_map pos (code_of ts text) else None) ≡ Some z → list_all (has_text ts) (if b then text ∷ [] else []) ≡ true
    by-test true sound g = by-code (code_of ts text) refl g
    by-test false sound g = refl

name-in : (ts : Texts) (cs : List Column) (t : Tok) (a : ℕ) → IsName cs t a → quoted_text t ≡ []
name-in ts cs t a (w, e, h) = ap quoted_text e

names-in : (ts : Texts) (cs : List Column) (toks : List Tok) (names : List ℕ) → IsNames cs toks names → quoted_texts toks ≡ []
names-in ts cs toks [] is = absurd is
names-in ts cs toks (i ∷ []) (a, e, is) = ap quoted_texts e ∙ ap (λ l. l ++ []) (name-in ts cs a i is)
names-in ts cs toks (i ∷ j ∷ js) (a, rest, e, is, others) = ap quoted_texts e ∙ ap (λ l. l ++ ([] ++ quoted_texts rest)) (name-in ts cs a i is) ∙ names-in ts cs rest (j ∷ js) others

want-in : (ts : Texts) (cs : List Column) (toks : List Tok) (want : Want) → IsWant cs toks want → quoted_texts toks ≡ []
want-in ts cs toks (Rows names) (rest, e, is, few) = ap quoted_texts e ∙ names-in ts cs rest names is
want-in ts cs toks Count is = ap quoted_texts is
want-in ts cs toks (Sum a) (t, e, is) = ap quoted_texts e ∙ ap (λ l. l ++ []) (name-in ts cs t a is.0)
want-in ts cs toks (Min a) (t, e, is) = ap quoted_texts e ∙ ap (λ l. l ++ []) (name-in ts cs t a is.0)
want-in ts cs toks (Max a) (t, e, is) = ap quoted_texts e ∙ ap (λ l. l ++ []) (name-in ts cs t a is.0)

term-in : (ts : Texts) (cs : List Column) (a b c : Tok) (t : Term) → All (λ x. IsOver ts x.1) cs → IsTerm cs a b c t → AreIn ts (quoted_text a ++ (quoted_text b ++ quoted_text c))
term-in ts cs a b c t o is = rw (name-in ts cs a t.attr is.name, is.op) (value-in ts (kind_at cs t.attr) c t.value (own_texts ts cs t.attr o) is.value)

terms-in : (ts : Texts) (cs : List Column) (toks : List Tok) (terms : List Term) → All (λ x. IsOver ts x.1) cs → IsTerms cs toks terms → AreIn ts (quoted_texts toks)
terms-in ts cs toks [] o is = absurd is
terms-in ts cs toks (t ∷ []) o (a, b, c, e, is) = rw (e, name-in ts cs a t.attr is.name, is.op) (both ts (quoted_text c) [] (value-in ts (kind_at cs t.attr) c t.value (own_texts ts cs t.attr o) is.value) refl)
terms-in ts cs toks (t ∷ u ∷ more) o (a, b, c, rest, e, is, later) = rw (e, name-in ts cs a t.attr is.name, is.op) (both ts (quoted_text c) (quoted_texts rest) (value-in ts (kind_at cs t.attr) c t.value (own_texts ts cs t.attr o) is.value) (terms-in ts cs rest (u ∷ more) o later))

more-in : (ts : Texts) (cs : List Column) (toks : List Tok) (zs : List ℤ) → All (λ x. IsOver ts x.1) cs → MoreValues (kinds_of cs) toks zs → AreIn ts (quoted_texts toks)
more-in ts [] toks zs o is = ap (λ l. list_all (has_text ts) (quoted_texts l)) is.0
more-in ts (c ∷ cs) toks [] o is = absurd is
more-in ts (c ∷ cs) toks (z ∷ zs) o (a, rest, e, is, later) = rw e (both ts (quoted_text a) (quoted_texts rest) (value-in ts c.1 a z (o 0 c (omega arith)) is) (more-in ts cs rest zs (λ i d lt. o (suc i) d (omega (arith, lt))) later))

values-in : (ts : Texts) (cs : List Column) (toks : List Tok) (zs : List ℤ) → All (λ x. IsOver ts x.1) cs → IsValues (kinds_of cs) toks zs → AreIn ts (quoted_texts toks)
values-in ts [] toks zs o is = ap (λ l. list_all (has_text ts) (quoted_texts l)) is.0
values-in ts (c ∷ cs) toks [] o is = absurd is
values-in ts (c ∷ cs) toks (z ∷ zs) o (a, rest, e, is, later) = rw e (both ts (quoted_text a) (quoted_texts rest) (value-in ts c.1 a z (o 0 c (omega arith)) is) (more-in ts cs rest zs (λ i d lt. o (suc i) d (omega (arith, lt))) later))

front-in : (front rest : List Tok) → quoted_texts (front ++ rest) ≡ quoted_texts front ++ quoted_texts rest
front-in [] rest = refl
front-in (t ∷ front) rest = ap (λ l. quoted_text t ++ l) (front-in front rest) ∙ sym (append_assoc (quoted_text t) (quoted_texts front) (quoted_texts rest))

has-terms-in : (ts : Texts) (cs : List Column) (toks : List Tok) (conds : List Cond) → All (λ x. IsOver ts x.1) cs → HasTerms cs toks conds → AreIn ts (quoted_texts toks)
has-terms-in ts cs toks conds o (terms, rest, e, is, make) = rw e (terms-in ts cs rest terms o is)

-- the texts of a call's tokens are those of the schema
pub call_in : (ts : Texts) (cs : List Column) (toks : List Tok) (c : Call) → All (λ x. IsOver ts x.1) cs → IsCall cs toks c → AreIn ts (quoted_texts toks)
call_in ts cs toks (Select q) o (front, rest, e, want, inl (none, is)) = rw (e, front-in front rest, want-in ts cs front q.want want, none) refl
call_in ts cs toks (Select q) o (front, rest, e, want, inr has) = rw (e, front-in front rest, want-in ts cs front q.want want) (has-terms-in ts cs rest q.conds o has)
call_in ts cs toks (Insert cells) o (zs, rest, e, is, pad) = rw e (values-in ts cs rest zs o is)
call_in ts cs toks (Delete key) o (t, e, (w, f, is)) = rw (e, f) refl
call_in ts cs toks (DeleteWhere conds) o (rest, e, has) = rw e (has-terms-in ts cs rest conds o has)
