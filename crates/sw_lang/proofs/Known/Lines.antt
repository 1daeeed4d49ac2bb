-- A line that is a call under a schema is the same call over other texts where each quoted text has its code among them,
-- and so where the schema knows more texts.
use Rattle.std.proofs.Common.{◌≡◌, ◌∙◌, ap, sym, refl, subst, Ok, ℕ, ℤ, pos, zero, suc, inl, inr, All, Bool, true, false, not, List, [], ◌∷◌, ◌++◌, arith, Option, Some, None, option_map, slice_get, if◌then◌else◌, ◌&&◌}
use Rattle.std.specs.Prelude.{⊤}
use Rattle.std.proofs.lemmas.Option.{none-some}
use Rattle.sw_rows.specs.Cells.{coded_value}
use Rattle.sw_rows.specs.Domains.{Domain, IsOver, is_of_texts, over}
use Rattle.sw_rows.specs.Domains as kind
use Rattle.sw_rows.specs.Header.{Column, IsSchema, holding, kinds_of, texts_of}
use Rattle.sw_rows.specs.Texts.{code_of, is_text, with_texts}
use Rattle.sw_query.specs.declared.query.Call.{Call}
use Rattle.sw_query.specs.declared.query.Call.TheVariants.{Select, Insert, Delete, DeleteWhere}
use Rattle.sw_query.specs.declared.query.Cond.{Cond}
use Rattle.sw_query.specs.declared.query.Want.{Want}
use Rattle.sw_query.specs.declared.query.Want.TheVariants.{Rows, Count, Sum, Min, Max}
use Rattle.sw_rows.proofs.Schemas.DomainLaws.{holding_names, of_texts_over}
use Rattle.sw_rows.proofs.Schemas.TextLaws.{code_kept}
use Rattle.sw_lang.specs.Grammar.{IsCall, IsLine, IsName, IsNames, IsNumbersName, IsTerm, IsTerms, IsValue, IsValues, IsWant, IsWhere, MoreValues}
use Rattle.sw_lang.specs.Learning.{knowing}
use Rattle.sw_lang.specs.Reading.{is_equality, line_at}
use Rattle.sw_lang.specs.Replies.{kind_at}
use Rattle.sw_lang.specs.Tokens.{Tok, comma, op, quoted, stray, tokens, word}
use Rattle.sw_lang.specs.declared.reading.term.Term.{Term}
use Rattle.sw_lang.proofs.Parsing.Lines.{line_found, line_read}

abbrev Texts : Type 0
Texts = List (List ℕ)

-- the columns' domains, where they are of texts, have just these texts
abbrev pub AreOver : Texts → List Column → Type 0
AreOver ts cs = All (λ c. IsOver ts c.1) cs

-- ---- tokens

-- a quoted text that has a code among some texts has the same among others
abbrev pub IsCodedTok : Texts → Texts → Tok → Type 0
IsCodedTok ts us (word w) = ⊤
IsCodedTok ts us (op o) = ⊤
IsCodedTok ts us comma = ⊤
IsCodedTok ts us (quoted text) = (code : ℕ) → is_text text ≡ true → code_of ts text ≡ Some code → code_of us text ≡ Some code
IsCodedTok ts us stray = ⊤

-- each quoted text of the tokens that has a code among some texts has the same among others
abbrev pub AreCodedToks : Texts → Texts → List Tok → Type 0
AreCodedToks ts us [] = ⊤
AreCodedToks ts us (t ∷ toks) = IsCodedTok ts us t × AreCodedToks ts us toks

after_front : (ts us : Texts) (front rest : List Tok) → AreCodedToks ts us (front ++ rest) → AreCodedToks ts us rest
after_front ts us [] rest h = h
after_front ts us (t ∷ front) rest h = after_front ts us front rest h.1

-- further texts leave each its code
tok_coded : (ts more : Texts) (t : Tok) → IsCodedTok ts (with_texts ts more) t
tok_coded ts more (word w) = tt
tok_coded ts more (op o) = tt
tok_coded ts more comma = tt
tok_coded ts more (quoted text) = λ code sound has. code_kept ts more text code has
tok_coded ts more stray = tt

toks_coded : (ts more : Texts) (toks : List Tok) → AreCodedToks ts (with_texts ts more) toks
toks_coded ts more [] = tt
toks_coded ts more (t ∷ toks) = (tok_coded ts more t, toks_coded ts more toks)

-- ---- values

coded_kept : (ts us : Texts) (text : List ℕ) (z : ℤ) → IsCodedTok ts us (quoted text) → coded_value ts text ≡ Some z → coded_value us text ≡ Some z
coded_kept ts us text z k h = by_test (is_text text) refl h
  where
    by_code : (o : Option ℕ) → is_text text ≡ true → code_of ts text ≡ o → option_map pos o ≡ Some z → option_map pos (code_of us text) ≡ Some z
    by_code None sound e g = absurd (none-some z g)
    by_code (Some code) sound e g = ap (option_map pos) (k code sound e) ∙ g

    by_test : (b : Bool) → is_text text ≡ b → (if b then option_map pos (code_of ts text) else None) ≡ Some z → (if b then option_map pos (code_of us text) else None) ≡ Some z
    by_test true sound g = by_code (code_of ts text) sound refl g
    by_test false sound g = g

value_kept : (ts us : Texts) (d : Domain) (t : Tok) (z : ℤ) → IsOver ts d → IsCodedTok ts us t → IsValue d t z → IsValue (over us d) t z
value_kept ts us kind.Int t z o k h = h
value_kept ts us (kind.Fix places) t z o k h = h
value_kept ts us kind.Flag t z o k h = h
value_kept ts us (kind.Text own) t z o k (inl h) = inl h
value_kept ts us (kind.Text own) t z o k (inr (text, e, of, c)) =
    inr (text, e, of, coded_kept ts us text z (subst (IsCodedTok ts us) e k) (ap (λ vs. coded_value vs text) (sym o) ∙ c))

-- ---- attributes

kind_held : (us : Texts) (s : List Column) (a : ℕ) → kind_at (holding us s) a ≡ over us (kind_at s a)
kind_held us [] a = by_place a
  where
    by_place : (n : ℕ) → kind_at [] n ≡ over us (kind_at [] n)
    by_place zero = refl
    by_place (suc n) = refl
kind_held us (c ∷ cs) zero = refl
kind_held us (c ∷ cs) (suc a) = kind_held us cs a

over_at : (ts : Texts) (cs : List Column) (a : ℕ) → AreOver ts cs → IsOver ts (kind_at cs a)
over_at ts [] zero h = tt
over_at ts [] (suc a) h = tt
over_at ts (c ∷ cs) zero h = h 0 c (omega arith)
over_at ts (c ∷ cs) (suc a) h = over_at ts cs a (λ k d lt. h (suc k) d (omega (arith, lt)))

name_kept : (us : Texts) (s : List Column) (t : Tok) (a : ℕ) → IsName s t a → IsName (holding us s) t a
name_kept us s t a (w, e, h) = (w, e, ap (λ ns. slice_get ns a) (holding_names us s) ∙ h)

numbers_kept : (us : Texts) (s : List Column) (t : Tok) (a : ℕ) → IsNumbersName s t a → IsNumbersName (holding us s) t a
numbers_kept us s t a (name, h) = (name_kept us s t a name, ap is_of_texts (kind_held us s a) ∙ of_texts_over us (kind_at s a) ∙ h)

-- ---- the parts of a line

term_kept : (ts us : Texts) (s : List Column) (a b c : Tok) (t : Term) → AreOver ts s → IsCodedTok ts us c → IsTerm s a b c t → IsTerm (holding us s) a b c t
term_kept ts us s a b c t o k is =
    record {
      name = name_kept us s a t.attr is.name;
      op = is.op;
      fits = ap (λ v. v && not (is_equality t.op)) (ap is_of_texts (kind_held us s t.attr) ∙ of_texts_over us (kind_at s t.attr)) ∙ is.fits;
      value = subst (λ (d : Domain). IsValue d c t.value) (sym (kind_held us s t.attr)) (value_kept ts us (kind_at s t.attr) c t.value (over_at ts s t.attr o) k is.value);
    }

terms_kept : (ts us : Texts) (s : List Column) (toks : List Tok) (terms : List Term) → AreOver ts s → AreCodedToks ts us toks → IsTerms s toks terms → IsTerms (holding us s) toks terms
terms_kept ts us s toks [] o k is = is
terms_kept ts us s toks (t ∷ []) o k (a, b, c, e, is) =
    let here = subst (AreCodedToks ts us) e k in
    (a, b, c, e, term_kept ts us s a b c t o here.1.1.0 is)
terms_kept ts us s toks (t ∷ u ∷ more) o k (a, b, c, rest, e, is, others) =
    let here = subst (AreCodedToks ts us) e k in
    (a, b, c, rest, e, term_kept ts us s a b c t o here.1.1.0 is, terms_kept ts us s rest (u ∷ more) o here.1.1.1.1 others)

where_kept : (ts us : Texts) (s : List Column) (toks : List Tok) (conds : List Cond) → AreOver ts s → AreCodedToks ts us toks → IsWhere s toks conds → IsWhere (holding us s) toks conds
where_kept ts us s toks conds o k (inl h) = inl h
where_kept ts us s toks conds o k (inr (terms, rest, e, is, make)) =
    let here = subst (AreCodedToks ts us) e k in
    inr (terms, rest, e, terms_kept ts us s rest terms o here.1 is, make)

names_kept : (us : Texts) (s : List Column) (toks : List Tok) (names : List ℕ) → IsNames s toks names → IsNames (holding us s) toks names
names_kept us s toks [] is = is
names_kept us s toks (i ∷ []) (a, e, is) = (a, e, name_kept us s a i is)
names_kept us s toks (i ∷ j ∷ js) (a, rest, e, is, others) = (a, rest, e, name_kept us s a i is, names_kept us s rest (j ∷ js) others)

more_kept : (ts us : Texts) (cs : List Column) (toks : List Tok) (zs : List ℤ) → AreOver ts cs → AreCodedToks ts us toks → MoreValues (kinds_of cs) toks zs → MoreValues (kinds_of (holding us cs)) toks zs
more_kept ts us [] toks zs o k is = is
more_kept ts us (c ∷ cs) toks [] o k is = is
more_kept ts us (c ∷ cs) toks (z ∷ zs) o k (a, rest, e, is, others) =
    let here = subst (AreCodedToks ts us) e k in
    (a, rest, e, value_kept ts us c.1 a z (o 0 c (omega arith)) here.1.0 is, more_kept ts us cs rest zs (λ i d lt. o (suc i) d (omega (arith, lt))) here.1.1 others)

values_kept : (ts us : Texts) (cs : List Column) (toks : List Tok) (zs : List ℤ) → AreOver ts cs → AreCodedToks ts us toks → IsValues (kinds_of cs) toks zs → IsValues (kinds_of (holding us cs)) toks zs
values_kept ts us [] toks zs o k is = is
values_kept ts us (c ∷ cs) toks [] o k is = is
values_kept ts us (c ∷ cs) toks (z ∷ zs) o k (a, rest, e, is, others) =
    let here = subst (AreCodedToks ts us) e k in
    (a, rest, e, value_kept ts us c.1 a z (o 0 c (omega arith)) here.0 is, more_kept ts us cs rest zs (λ i d lt. o (suc i) d (omega (arith, lt))) here.1 others)

want_kept : (us : Texts) (s : List Column) (toks : List Tok) (want : Want) → IsWant s toks want → IsWant (holding us s) toks want
want_kept us s toks (Rows names) (rest, e, is, few) = (rest, e, names_kept us s rest names is, few)
want_kept us s toks Count is = is
want_kept us s toks (Sum a) (t, e, is) = (t, e, numbers_kept us s t a is)
want_kept us s toks (Min a) (t, e, is) = (t, e, numbers_kept us s t a is)
want_kept us s toks (Max a) (t, e, is) = (t, e, numbers_kept us s t a is)

-- the tokens of a call are those of the same call over other texts, where each quoted text has its code among them
pub call_kept : (ts us : Texts) (s : List Column) (toks : List Tok) (call : Call) → AreOver ts s → AreCodedToks ts us toks → IsCall s toks call → IsCall (holding us s) toks call
call_kept ts us s toks (Select q) o k (front, rest, e, want, is) =
    let here = after_front ts us front rest (subst (AreCodedToks ts us) e k) in
    (front, rest, e, want_kept us s front q.want want, where_kept ts us s rest q.conds o here is)
call_kept ts us s toks (Insert cells) o k (zs, rest, e, is, pad) =
    let here = subst (AreCodedToks ts us) e k in
    (zs, rest, e, values_kept ts us s rest zs o here.1 is, pad)
call_kept ts us s toks (Delete key) o k is = is
call_kept ts us s toks (DeleteWhere conds) o k (later, e, (terms, rest, f, is, make)) =
    let here = subst (AreCodedToks ts us) f (subst (AreCodedToks ts us) e k).1 in
    (later, e, (terms, rest, f, terms_kept ts us s rest terms o here.1 is, make))

-- ---- a line where more texts are known

line_kept : (ts more : Texts) (s : List Column) (text : List ℕ) (call : Option Call) → AreOver ts s → IsLine s text call → IsLine (holding (with_texts ts more) s) text call
line_kept ts more s text None o is = is
line_kept ts more s text (Some c) o (few, e, is) = (few, e, call_kept ts (with_texts ts more) s (tokens text) c o (toks_coded ts more (tokens text)) is)

-- ---- reading

-- a line that is read is read as the same call when more texts are known
pub read_still : (s : List Column) (more : Texts) (text : List ℕ) (call : Option Call) → IsSchema s → IsSchema (knowing more s) → line_at s text ≡ Ok call → line_at (knowing more s) text ≡ Ok call
read_still s more text call is again h = line_read (knowing more s) text call again (line_kept (texts_of s) more s text call is.shared (line_found s text call h))
