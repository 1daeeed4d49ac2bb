-- The comparisons that conditions are printed by make those conditions again.
use Rattle.std.proofs.Common.{◌≡◌, ◌∙◌, ap, sym, refl, ℕ, ℤ, int_lt, Bool, true, false, eqb, List, [], ◌∷◌, ◌++◌, map, Option, Some, None, append_assoc, append-nil, subst}
use Rattle.std.proofs.lemmas.Bool.Decides.{Decides-eqb, Decides-int_eq}
use Rattle.std.proofs.lemmas.List.{map-append}
use Rattle.std.specs.Ordering.{int_eq}
use Rattle.sw_rows.specs.Domains.{is_of_texts}
use Rattle.sw_rows.specs.Header.{Column}
use Rattle.sw_query.specs.declared.bound.Bound.{Bound}
use Rattle.sw_query.specs.declared.bound.Bound.TheVariants.{Before, After}
use Rattle.sw_query.specs.declared.query.Cond.{Cond}
use Rattle.sw_lang.specs.declared.reading.term.Term.{Term}
use Rattle.sw_lang.specs.declared.reading.token.Op.TheVariants.{Lt, Le, Eq, Ge, Gt}
use Rattle.sw_lang.specs.Fits.{AreEqualBounds, IsEqualOnTexts, is_bound}
use Rattle.sw_lang.specs.Replies.{kind_at}
use Rattle.sw_lang.specs.Terms.{add_term, cond_of, conditions, narrowed}
use Rattle.sw_lang.proofs.Parsing.Merge.{Distinct, conds_from, conds_from-conditions, eqb-turned, has, has-last, or-false}
use Rattle.sw_lang.proofs.Printed.Terms.{equal_terms_of, lower_term, printed, printed_all, text_terms_of, upper_term}

-- the attributes that conditions are on
abbrev pub attrs : List Cond → List ℕ
attrs cs = map (λ c. c.attr) cs

-- a condition has a bound, and on texts the bounds of equality
abbrev pub AllBound : List Column → List Cond → Type 0
AllBound schema [] = Unit {0}
AllBound schema (c ∷ cs) = (is_bound c.lower c.upper ≡ true) × IsEqualOnTexts schema c × AllBound schema cs

-- ---- one term

add_new : (done : List Cond) (t : Term) → has (attrs done) t.attr ≡ false → add_term done t ≡ done ++ cond_of t ∷ []
add_new [] t h = refl
add_new (c ∷ cs) t h =
    let parts = or-false (eqb c.attr t.attr) (has (attrs cs) t.attr) h in
    rw parts.0 (ap (λ (l : List Cond). c ∷ l) (add_new cs t parts.1))

add_last : (done : List Cond) (c : Cond) (t : Term) → has (attrs done) t.attr ≡ false → c.attr ≡ t.attr → add_term (done ++ c ∷ []) t ≡ done ++ narrowed c t ∷ []
add_last [] c t h e = let same : eqb c.attr t.attr ≡ true = (Decides-eqb c.attr t.attr).1 e in rw same refl
add_last (d ∷ ds) c t h e =
    let parts = or-false (eqb d.attr t.attr) (has (attrs ds) t.attr) h in
    rw parts.0 (ap (λ (l : List Cond). d ∷ l) (add_last ds c t parts.1 e))

-- two terms on a new attribute
both : (done : List Cond) (t u : Term) → has (attrs done) t.attr ≡ false → t.attr ≡ u.attr → conds_from done (t ∷ u ∷ []) ≡ done ++ narrowed (cond_of t) u ∷ []
both done t u h e =
    ap (λ (l : List Cond). add_term l u) (add_new done t h) ∙ add_last done (cond_of t) u (ap (has (attrs done)) (sym e) ∙ h) e

-- ---- one condition

one : (done : List Cond) (a : ℕ) (lower upper : Option Bound) → has (attrs done) a ≡ false → is_bound lower upper ≡ true
    → conds_from done (lower_term a lower ++ upper_term a upper) ≡ done ++ record { attr = a; lower = lower; upper = upper } ∷ []
one done a None None h b = absurd cc
one done a None (Some (Before w)) h b = add_new done (record { attr = a; op = Lt; value = w }) h
one done a None (Some (After w)) h b = add_new done (record { attr = a; op = Le; value = w }) h
one done a (Some (Before v)) None h b = add_new done (record { attr = a; op = Ge; value = v }) h
one done a (Some (After v)) None h b = add_new done (record { attr = a; op = Gt; value = v }) h
one done a (Some (Before v)) (Some (Before w)) h b = both done (record { attr = a; op = Ge; value = v }) (record { attr = a; op = Lt; value = w }) h refl
one done a (Some (Before v)) (Some (After w)) h b = both done (record { attr = a; op = Ge; value = v }) (record { attr = a; op = Le; value = w }) h refl
one done a (Some (After v)) (Some (Before w)) h b = both done (record { attr = a; op = Gt; value = v }) (record { attr = a; op = Lt; value = w }) h refl
one done a (Some (After v)) (Some (After w)) h b = both done (record { attr = a; op = Gt; value = v }) (record { attr = a; op = Le; value = w }) h refl

-- the greater lower bound and the lesser upper one of two equalities, the second not above the first
apart_bounds : (v w : ℤ) (a : ℕ) → int_lt v w ≡ false
    → narrowed (cond_of (record { attr = a; op = Eq; value = v })) (record { attr = a; op = Eq; value = w }) ≡ record { attr = a; lower = Some (Before v); upper = Some (After w) }
apart_bounds v w a h = rw h refl

equal_by : (b : Bool) (done : List Cond) (a : ℕ) (v w : ℤ) → int_eq v w ≡ b → has (attrs done) a ≡ false → int_lt v w ≡ false
    → conds_from done (equal_terms_of a v w) ≡ done ++ record { attr = a; lower = Some (Before v); upper = Some (After w) } ∷ []
equal_by true done a v w e h low =
    let same : v ≡ w = (Decides-int_eq v w).0 e in
    rw e (add_new done (record { attr = a; op = Eq; value = v }) h ∙ ap (λ (x : ℤ). done ++ record { attr = a; lower = Some (Before v); upper = Some (After x) } ∷ []) same)
equal_by false done a v w e h low =
    rw e (both done (record { attr = a; op = Eq; value = v }) (record { attr = a; op = Eq; value = w }) h refl ∙ ap (λ (c : Cond). done ++ c ∷ []) (apart_bounds v w a low))

one_text : (done : List Cond) (a : ℕ) (lower upper : Option Bound) → has (attrs done) a ≡ false → AreEqualBounds lower upper
    → conds_from done (text_terms_of a lower upper) ≡ done ++ record { attr = a; lower = lower; upper = upper } ∷ []
one_text done a None upper h b = absurd b
one_text done a (Some (After v)) upper h b = absurd b
one_text done a (Some (Before v)) None h b = absurd b
one_text done a (Some (Before v)) (Some (Before w)) h b = absurd b
one_text done a (Some (Before v)) (Some (After w)) h b = equal_by (int_eq v w) done a v w refl h b

one_by : (t : Bool) (schema : List Column) (done : List Cond) (c : Cond) → is_of_texts (kind_at schema c.attr) ≡ t → has (attrs done) c.attr ≡ false → is_bound c.lower c.upper ≡ true → IsEqualOnTexts schema c
    → conds_from done (printed schema c) ≡ done ++ c ∷ []
one_by true schema done c e h b equal = rw e (one_text done c.attr c.lower c.upper h (equal e))
one_by false schema done c e h b equal = rw e (one done c.attr c.lower c.upper h b)

-- ---- all conditions

conds_from-append : (done : List Cond) (ts us : List Term) → conds_from done (ts ++ us) ≡ conds_from (conds_from done ts) us
conds_from-append done [] us = refl
conds_from-append done (t ∷ ts) us = conds_from-append (add_term done t) ts us

-- none of some attributes is among those done
abbrev NoneOf : List ℕ → List ℕ → Type 0
NoneOf done [] = Unit {0}
NoneOf done (a ∷ xs) = (has done a ≡ false) × NoneOf done xs

none_of-nil : (xs : List ℕ) → NoneOf [] xs
none_of-nil [] = tt
none_of-nil (a ∷ xs) = (refl, none_of-nil xs)

none_last : (done : List ℕ) (c : ℕ) (xs : List ℕ) → NoneOf done xs → has xs c ≡ false → NoneOf (done ++ c ∷ []) xs
none_last done c [] n h = tt
none_last done c (a ∷ xs) n h =
    let parts = or-false (eqb a c) (has xs c) h in
    let apart : eqb c a ≡ false = eqb-turned false a c parts.0 in
    (has-last done c a ∙ rw (n.0, apart) refl, none_last done c xs n.1 parts.1)

all : (schema : List Column) (done cs : List Cond) → NoneOf (attrs done) (attrs cs) → Distinct (attrs cs) → AllBound schema cs → conds_from done (printed_all schema cs) ≡ done ++ cs
all schema done [] n d b = sym (append-nil done)
all schema done (c ∷ cs) n d b =
    let more : attrs (done ++ c ∷ []) ≡ attrs done ++ c.attr ∷ [] = map-append (λ (e : Cond). e.attr) done (c ∷ []) in
    let next : NoneOf (attrs (done ++ c ∷ [])) (attrs cs) = subst (λ (l : List ℕ). NoneOf l (attrs cs)) (sym more) (none_last (attrs done) c.attr (attrs cs) n.1 d.0) in
    conds_from-append done (printed schema c) (printed_all schema cs)
    ∙ ap (λ (l : List Cond). conds_from l (printed_all schema cs)) (one_by (is_of_texts (kind_at schema c.attr)) schema done c refl n.0 b.0 b.1)
    ∙ all schema (done ++ c ∷ []) cs next d.1 b.2
    ∙ append_assoc done (c ∷ []) cs

-- the comparisons that conditions are printed by make these conditions
pub printed_make : (schema : List Column) (cs : List Cond) → Distinct (attrs cs) → AllBound schema cs → conditions (printed_all schema cs) ≡ cs
printed_make schema cs d b = sym (conds_from-conditions (printed_all schema cs)) ∙ all schema [] cs (none_of-nil (attrs cs)) d b
