-- The tokens of a call are those of the same call where texts have other codes.
use Rattle.std.proofs.Common.{◌≡◌, ◌∙◌, ap, sym, refl, subst, ℕ, ℤ, pos, zero, suc, ◌-◌, inl, inr, Bool, true, false, not, ◌&&◌, if◌then◌else◌, All, List, [], ◌∷◌, ◌++◌, length, get_or, replicate, arith, Option, Some, None, option_map, slice_get}
use Rattle.std.specs.Prelude.{⊤}
use Rattle.std.proofs.lemmas.Option.{none-some, same_Some}
use Rattle.sw_rows.specs.Cells.{coded_value}
use Rattle.sw_rows.specs.Domains.{Domain, IsOver, is_of_texts, over}
use Rattle.sw_rows.specs.Domains as kind
use Rattle.sw_rows.specs.Header.{Column, holding, kinds_of}
use Rattle.sw_query.specs.Scan.{cell_of}
use Rattle.sw_rows.specs.Tables.{padded}
use Rattle.sw_rows.specs.Texts.{code_of, is_text}
use Rattle.sw_query.specs.declared.query.Call.{Call}
use Rattle.sw_query.specs.declared.query.Call.TheVariants.{Select, Insert, Delete, DeleteWhere}
use Rattle.sw_query.specs.declared.query.Cond.{Cond}
use Rattle.sw_query.specs.declared.query.Want.{Want}
use Rattle.sw_query.specs.declared.query.Want.TheVariants.{Rows, Count, Sum, Min, Max}
use Rattle.sw_rows.proofs.Schemas.DomainLaws.{holding_names, of_texts_over}
use Rattle.sw_rows.proofs.Schemas.TextLaws.{code_only}
use Rattle.sw_lang.specs.Grammar.{HasTerms, IsCall, IsName, IsNames, IsNumbersName, IsTerm, IsTerms, IsValue, IsValues, IsWant, IsWhere, MoreValues}
use Rattle.sw_lang.specs.Reading.{is_equality}
use Rattle.sw_lang.specs.Replies.{kind_at}
use Rattle.sw_lang.specs.Terms.{conditions}
use Rattle.sw_lang.specs.Tokens.{Tok, comma, op, quoted, stray, word}
use Rattle.sw_lang.specs.declared.reading.term.Term.{Term}
use Rattle.sw_spine.specs.Table.{row}
use Rattle.sw_histories.proofs.Related.OtherCodes.{AsksNumbers, SameCell, SameConds, SameRow, SameTerm, SameTerms, Texts, over_held, own_texts}
use Rattle.sw_histories.proofs.Related.OtherHistories.{SameCall}

-- a quoted text that has a code on one side has one on the other
abbrev pub IsKnownTok : Texts → Texts → Tok → Type 0
IsKnownTok ts us (word w) = ⊤
IsKnownTok ts us (op o) = ⊤
IsKnownTok ts us comma = ⊤
IsKnownTok ts us (quoted text) = (code : ℕ) → is_text text ≡ true → code_of ts text ≡ Some code → (other : ℕ) × (code_of us text ≡ Some other)
IsKnownTok ts us stray = ⊤

-- the texts of tokens are known to both
abbrev pub AreKnownToks : Texts → Texts → List Tok → Type 0
AreKnownToks ts us [] = ⊤
AreKnownToks ts us (t ∷ toks) = IsKnownTok ts us t × AreKnownToks ts us toks

after-front : (ts us : Texts) (front rest : List Tok) → AreKnownToks ts us (front ++ rest) → AreKnownToks ts us rest
after-front ts us [] rest h = h
after-front ts us (t ∷ front) rest h = after-front ts us front rest h.1

-- ---- values

abbrev Value : Texts → Texts → Domain → Tok → ℤ → Type 0
Value ts us d t z = (y : ℤ) × IsValue (over us d) t y × SameCell ts us d z y

text-value : (ts us own : Texts) (text : List ℕ) (t : Tok) (z : ℤ) → own ≡ ts → t ≡ quoted text → IsKnownTok ts us (quoted text) → coded_value own text ≡ Some z → Value ts us (kind.Text own) t z
text-value ts us own text t z o e k h = by-test (is_text text) refl (ap (λ vs. coded_value vs text) (sym o) ∙ h)
  where
    by-code : (c : Option ℕ) → is_text text ≡ true → code_of ts text ≡ c → option_map pos c ≡ Some z → Value ts us (kind.Text own) t z
    by-code None sound f g = absurd (none-some z g)
    by-code (Some code) sound f g =
        let (other, there) = k code sound f in
        let told : coded_value us text ≡ Some (pos other) = ap (λ b. if b then option_map pos (code_of us text) else None) sound ∙ ap (option_map pos) there in
        let is : pos code ≡ z = same_Some (pos code) z g in
        (pos other, inr (text, e, refl, told), subst (λ x. SameCell ts us (kind.Text own) x (pos other)) is (text, code_only ts code text f, code_only us other text there))

    by-test : (b : Bool) → is_text text ≡ b → (if b then option_map pos (code_of ts text) else None) ≡ Some z → Value ts us (kind.Text own) t z
    by-test true sound g = by-code (code_of ts text) sound refl g
    by-test false sound g = absurd (none-some z g)

value-same : (ts us : Texts) (d : Domain) (t : Tok) (z : ℤ) → IsOver ts d → IsKnownTok ts us t → IsValue d t z → Value ts us d t z
value-same ts us kind.Int t z o k h = (z, h, refl)
value-same ts us (kind.Fix places) t z o k h = (z, h, refl)
value-same ts us kind.Flag t z o k h = (z, h, refl)
value-same ts us (kind.Text own) t z o k (inl (w, e, h)) = absurd (none-some z h)
value-same ts us (kind.Text own) t z o k (inr (text, e, of, h)) = text-value ts us own text t z o e (subst (IsKnownTok ts us) e k) h

-- ---- names

name-same : (us : Texts) (cs : List Column) (t : Tok) (a : ℕ) → IsName cs t a → IsName (holding us cs) t a
name-same us cs t a (w, e, h) = (w, e, ap (λ ns. slice_get ns a) (holding_names us cs) ∙ h)

of-texts-same : (us : Texts) (cs : List Column) (a : ℕ) → is_of_texts (kind_at (holding us cs) a) ≡ is_of_texts (kind_at cs a)
of-texts-same us cs a = ap is_of_texts (over_held us cs a) ∙ of_texts_over us (kind_at cs a)

numbers-same : (us : Texts) (cs : List Column) (t : Tok) (a : ℕ) → IsNumbersName cs t a → IsNumbersName (holding us cs) t a
numbers-same us cs t a (name, h) = (name-same us cs t a name, of-texts-same us cs a ∙ h)

names-same : (us : Texts) (cs : List Column) (toks : List Tok) (names : List ℕ) → IsNames cs toks names → IsNames (holding us cs) toks names
names-same us cs toks [] is = is
names-same us cs toks (i ∷ []) (a, e, is) = (a, e, name-same us cs a i is)
names-same us cs toks (i ∷ j ∷ js) (a, rest, e, is, others) = (a, rest, e, name-same us cs a i is, names-same us cs rest (j ∷ js) others)

want-same : (us : Texts) (cs : List Column) (toks : List Tok) (want : Want) → IsWant cs toks want → IsWant (holding us cs) toks want
want-same us cs toks (Rows names) (rest, e, is, few) = (rest, e, names-same us cs rest names is, few)
want-same us cs toks Count is = is
want-same us cs toks (Sum a) (t, e, is) = (t, e, numbers-same us cs t a is)
want-same us cs toks (Min a) (t, e, is) = (t, e, numbers-same us cs t a is)
want-same us cs toks (Max a) (t, e, is) = (t, e, numbers-same us cs t a is)

asks-numbers : (cs : List Column) (toks : List Tok) (want : Want) → IsWant cs toks want → AsksNumbers cs want
asks-numbers cs toks (Rows names) is = tt
asks-numbers cs toks Count is = tt
asks-numbers cs toks (Sum a) (t, e, is) = is.1
asks-numbers cs toks (Min a) (t, e, is) = is.1
asks-numbers cs toks (Max a) (t, e, is) = is.1

-- ---- comparisons

term-same : (ts us : Texts) (cs : List Column) (a b c : Tok) (t : Term) → All (λ x. IsOver ts x.1) cs → IsKnownTok ts us c → IsTerm cs a b c t → (u : Term) × IsTerm (holding us cs) a b c u × SameTerm ts us cs t u
term-same ts us cs a b c t o k is =
    let (y, value, same) = value-same ts us (kind_at cs t.attr) c t.value (own_texts ts cs t.attr o) k is.value in
    let u : Term = record t { value = y } in (
      u,
      record {
        name = name-same us cs a t.attr is.name;
        op = is.op;
        fits = ap (λ v. v && not (is_equality t.op)) (of-texts-same us cs t.attr) ∙ is.fits;
        value = subst (λ (d : Domain). IsValue d c y) (sym (over_held us cs t.attr)) value;
      },
      record { attr = refl; op = refl; fits = is.fits; value = same },
    )

abbrev Terms : Texts → Texts → List Column → List Tok → List Term → Type 0
Terms ts us cs toks terms = (others : List Term) × IsTerms (holding us cs) toks others × SameTerms ts us cs terms others

terms-same : (ts us : Texts) (cs : List Column) (toks : List Tok) (terms : List Term) → All (λ x. IsOver ts x.1) cs → AreKnownToks ts us toks → IsTerms cs toks terms → Terms ts us cs toks terms
terms-same ts us cs toks [] o k is = absurd is
terms-same ts us cs toks (t ∷ []) o k (a, b, c, e, is) =
    let here = subst (AreKnownToks ts us) e k in
    let (u, there, same) = term-same ts us cs a b c t o here.1.1.0 is in
    (u ∷ [], (a, b, c, e, there), (same, tt))
terms-same ts us cs toks (t ∷ v ∷ more) o k (a, b, c, rest, e, is, later) =
    let here = subst (AreKnownToks ts us) e k in
    let (u, there, same) = term-same ts us cs a b c t o here.1.1.0 is in
    joined u there same (terms-same ts us cs rest (v ∷ more) o here.1.1.1.1 later)
  where
    joined : (u : Term) → IsTerm (holding us cs) a b c u → SameTerm ts us cs t u → Terms ts us cs rest (v ∷ more) → Terms ts us cs toks (t ∷ v ∷ more)
    joined u there same ([], h, s) = absurd h
    joined u there same (w ∷ ws, h, s) = (u ∷ w ∷ ws, (a, b, c, rest, e, there, h), (same, s))

abbrev Conds : Texts → Texts → List Column → (List Cond → Type 0) → List Cond → Type 0
Conds ts us cs Is conds = (others : List Cond) × Is others × SameConds ts us cs conds others

has-terms-same : (ts us : Texts) (cs : List Column) (toks : List Tok) (conds : List Cond) → All (λ x. IsOver ts x.1) cs → AreKnownToks ts us toks → HasTerms cs toks conds → Conds ts us cs (HasTerms (holding us cs) toks) conds
has-terms-same ts us cs toks conds o k (terms, rest, e, is, make) =
    let here = subst (AreKnownToks ts us) e k in
    let (others, there, same) = terms-same ts us cs rest terms o here.1 is in
    (conditions others, (others, rest, e, there, refl), (terms, others, make, refl, same))

where-same : (ts us : Texts) (cs : List Column) (toks : List Tok) (conds : List Cond) → All (λ x. IsOver ts x.1) cs → AreKnownToks ts us toks → IsWhere cs toks conds → Conds ts us cs (IsWhere (holding us cs) toks) conds
where-same ts us cs toks conds o k (inl (none, is)) = ([], inl (none, refl), ([], [], is, refl, tt))
where-same ts us cs toks conds o k (inr has) =
    let (others, there, same) = has-terms-same ts us cs toks conds o k has in
    (others, inr there, same)

-- ---- values of a row

-- two lists of cells that are the same values, each by its texts
abbrev pub Pairs : Texts → Texts → List Column → List ℤ → List ℤ → Type 0
Pairs ts us [] [] [] = ⊤
Pairs ts us (c ∷ cs) (z ∷ zs) (y ∷ ys) = SameCell ts us c.1 z y × Pairs ts us cs zs ys
Pairs ts us cs zs ys = ⊥

more-same : (ts us : Texts) (cs : List Column) (toks : List Tok) (zs : List ℤ) → All (λ x. IsOver ts x.1) cs → AreKnownToks ts us toks → MoreValues (kinds_of cs) toks zs → (ys : List ℤ) × MoreValues (kinds_of (holding us cs)) toks ys × Pairs ts us cs zs ys
more-same ts us [] toks [] o k is = ([], is, tt)
more-same ts us [] toks (z ∷ zs) o k is = absurd (let e = is.1 in cc)
more-same ts us (c ∷ cs) toks [] o k is = absurd is
more-same ts us (c ∷ cs) toks (z ∷ zs) o k (a, rest, e, is, later) =
    let here = subst (AreKnownToks ts us) e k in
    let (y, value, same) = value-same ts us c.1 a z (o 0 c (omega arith)) here.1.0 is in
    let (ys, there, pairs) = more-same ts us cs rest zs (λ i d lt. o (suc i) d (omega (arith, lt))) here.1.1 later in
    (y ∷ ys, (a, rest, e, value, there), (same, pairs))

values-same : (ts us : Texts) (cs : List Column) (toks : List Tok) (zs : List ℤ) → All (λ x. IsOver ts x.1) cs → AreKnownToks ts us toks → IsValues (kinds_of cs) toks zs → (ys : List ℤ) × IsValues (kinds_of (holding us cs)) toks ys × Pairs ts us cs zs ys
values-same ts us [] toks [] o k is = ([], is, tt)
values-same ts us [] toks (z ∷ zs) o k is = absurd (let e = is.1 in cc)
values-same ts us (c ∷ cs) toks [] o k is = absurd is
values-same ts us (c ∷ cs) toks (z ∷ zs) o k (a, rest, e, is, later) =
    let here = subst (AreKnownToks ts us) e k in
    let (y, value, same) = value-same ts us c.1 a z (o 0 c (omega arith)) here.0 is in
    let (ys, there, pairs) = more-same ts us cs rest zs (λ i d lt. o (suc i) d (omega (arith, lt))) here.1 later in
    (y ∷ ys, (a, rest, e, value, there), (same, pairs))

pair-at : (ts us : Texts) (cs : List Column) (zs ys xs : List ℤ) (a : ℕ) → Pairs ts us cs zs ys → SameCell ts us (kind_at cs a) (get_or (zs ++ xs) a (pos 0)) (get_or (ys ++ xs) a (pos 0))
pair-at ts us [] [] [] xs zero h = refl
pair-at ts us [] [] [] xs (suc a) h = refl
pair-at ts us [] [] (y ∷ ys) xs a h = absurd h
pair-at ts us [] (z ∷ zs) ys xs a h = absurd h
pair-at ts us (c ∷ cs) [] ys xs a h = absurd h
pair-at ts us (c ∷ cs) (z ∷ zs) [] xs a h = absurd h
pair-at ts us (c ∷ cs) (z ∷ zs) (y ∷ ys) xs zero h = h.0
pair-at ts us (c ∷ cs) (z ∷ zs) (y ∷ ys) xs (suc a) h = pair-at ts us cs zs ys xs a h.1

pairs-long : (ts us : Texts) (cs : List Column) (zs ys : List ℤ) → Pairs ts us cs zs ys → length zs ≡ length ys
pairs-long ts us [] [] [] h = refl
pairs-long ts us [] [] (y ∷ ys) h = absurd h
pairs-long ts us [] (z ∷ zs) ys h = absurd h
pairs-long ts us (c ∷ cs) [] ys h = absurd h
pairs-long ts us (c ∷ cs) (z ∷ zs) [] h = absurd h
pairs-long ts us (c ∷ cs) (z ∷ zs) (y ∷ ys) h = ap suc (pairs-long ts us cs zs ys h.1)

-- rows of eight cells pair as their cells do
pub padded_same : (ts us : Texts) (cs : List Column) (zs ys : List ℤ) (key : ℕ) → Pairs ts us cs zs ys → SameRow ts us cs (row key (padded zs)) (row key (padded ys))
padded_same ts us cs zs ys key h = record {
  key = refl;
  cells = λ a. subst (λ n. SameCell ts us (kind_at cs a) (cell_of a (row key (padded zs))) (get_or (ys ++ replicate (8 - n) (pos 0)) a (pos 0))) (pairs-long ts us cs zs ys h) (pair-at ts us cs zs ys (replicate (8 - length zs) (pos 0)) a h);
}

-- ---- the call

-- the call of tokens under other codes, and that it is the same
pub call_same : (ts us : Texts) (cs : List Column) (toks : List Tok) (c : Call) → All (λ x. IsOver ts x.1) cs → AreKnownToks ts us toks → IsCall cs toks c → (d : Call) × IsCall (holding us cs) toks d × SameCall ts us cs c d
call_same ts us cs toks (Select q) o k (front, rest, e, want, is) =
    let here = after-front ts us front rest (subst (AreKnownToks ts us) e k) in
    let (others, there, same) = where-same ts us cs rest q.conds o here is in
    (Select (record { conds = others; want = q.want }), (front, rest, e, want-same us cs front q.want want, there), (refl, asks-numbers cs front q.want want, same))
call_same ts us cs toks (Insert cells) o k (zs, rest, e, is, pad) =
    let here = subst (AreKnownToks ts us) e k in
    let (ys, there, pairs) = values-same ts us cs rest zs o here.1 is in
    (Insert (padded ys), (ys, rest, e, there, refl), λ key. subst (λ l. SameRow ts us cs (row key l) (row key (padded ys))) (sym pad) (padded_same ts us cs zs ys key pairs))
call_same ts us cs toks (Delete key) o k is = (Delete key, is, refl)
call_same ts us cs toks (DeleteWhere conds) o k (rest, e, has) =
    let here = subst (AreKnownToks ts us) e k in
    let (others, there, same) = has-terms-same ts us cs rest conds o here.1 has in
    (DeleteWhere others, (rest, e, there), same)
