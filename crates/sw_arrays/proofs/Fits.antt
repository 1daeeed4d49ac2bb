-- What numbers ask for fits the table.
use Rattle.std.proofs.Common.{◌≡◌, ◌∙◌, ◌<◌, ◌≤◌, ◌+◌, ◌-◌, ◌++◌, ◌&&◌, ◌||◌, ℕ, zero, suc, ℤ, pos, negsuc, Bool, true, false, not, int_lt, is_some, cond, eqb, List, [], ◌∷◌, length, get_or, map, replicate, Option, Some, None, Result, Ok, Err, All, refl, sym, ap, subst, arith, inl, inr, length-append}
use Rattle.std.specs.Prelude.{int_le, nat_le, nat_lt}
use Rattle.std.specs.List.{list_all, list_any}
use Rattle.std.proofs.lemmas.Bool.{false≢true, ltb-true, leb-true}
use Rattle.std.proofs.lemmas.List.Sums.{AllPass-from_list_all}
use Rattle.std.proofs.lemmas.Bool.Decides.{Decides-eqb, nat_tests}
use Rattle.std.proofs.lemmas.List.Elements.{All-push, All-weaker}
use Rattle.std.proofs.lemmas.List.{length-map, length-replicate, map-append}
use Rattle.sw_rows.specs.Domains.{Domain, is_of_texts}
use Rattle.sw_rows.specs.Domains as kind
use Rattle.sw_rows.specs.Header.{Column, kinds_of}
use Rattle.sw_rows.specs.Tables.{padded}
use Rattle.sw_rows.specs.Texts.{text_of}
use Rattle.sw_query.specs.declared.query.Call.{Call}
use Rattle.sw_query.specs.declared.query.Call.TheVariants as call
use Rattle.sw_query.specs.declared.query.Cond.{Cond}
use Rattle.sw_query.specs.declared.query.Want.{Want}
use Rattle.sw_query.specs.declared.query.Want.TheVariants as want
use Rattle.sw_query.specs.Scan.{WantsBelow}
use Rattle.sw_lang.specs.Fits.{AreEqualBounds, FitsCall, FitsCells, FitsConds, FitsQuery, HasBoundsOfKind, HasFewNames, IsBound, IsBoundOfKind, IsEqualOnTexts, IsOfKind, TakesNumbers, is_bound}
use Rattle.sw_lang.specs.Replies.{kind_at}
use Rattle.sw_lang.proofs.Parsing.Fits.{distinct}
use Rattle.sw_lang.proofs.Parsing.Merge.{Distinct, distinct-more, has, or-false}
use Rattle.sw_arrays.specs.Asked.{◌>>=◌, are_cells, are_names, bound_of, call_asked, cond_after, cond_in, conds_after, delete_asked, is_bound_on, is_cell, is_one_text, is_range, names_in, number_in, row_in, want_in}
use Rattle.sw_arrays.specs.declared.asked.Asked.{Asked}
use Rattle.sw_arrays.specs.declared.asked.Asked.TheVariants as asked
use Rattle.sw_arrays.specs.declared.asked.Wanted.{Wanted}
use Rattle.sw_arrays.specs.declared.asked.Wanted.TheVariants as wanted
use Rattle.sw_arrays.specs.declared.range.Fault.{Fault}
use Rattle.sw_arrays.specs.declared.range.Fault.TheVariants.{NoAttribute, BadCondition, BadCell}
use Rattle.sw_arrays.specs.declared.range.Range.{Range}

both : (a b : Bool) → (a && b) ≡ true → (a ≡ true) × (b ≡ true)
both true true h = (refl, refl)
both true false h = absurd (false≢true h)
both false b h = absurd (false≢true h)

-- ---- cells

text_kind : (texts : List (List ℕ)) (code : ℕ) (o : Option (List ℕ)) → text_of texts code ≡ o → is_some o ≡ true → IsOfKind (kind.Text texts) (pos code)
text_kind texts code None e h = absurd (false≢true h)
text_kind texts code (Some t) e h = (code, refl, t, e)

-- a number that passes the test of a cell is one of its kind
pub cell_kind : (d : Domain) (z : ℤ) → is_cell d z ≡ true → IsOfKind d z
cell_kind kind.Int z h = tt
cell_kind (kind.Fix places) z h = tt
cell_kind kind.Flag (pos zero) h = inl refl
cell_kind kind.Flag (pos (suc zero)) h = inr refl
cell_kind kind.Flag (pos (suc (suc n))) h =
    let parts = both (int_le (pos 0) (pos (suc (suc n)))) (int_le (pos (suc (suc n))) (pos 1)) h in
    let few : suc (suc n) ≤ 1 = leb-true _ _ parts.1 in
    absurd (omega (arith, few))
cell_kind kind.Flag (negsuc n) h = absurd (false≢true h)
cell_kind (kind.Text texts) (pos code) h = text_kind texts code (text_of texts code) refl h
cell_kind (kind.Text texts) (negsuc n) h = absurd (false≢true h)

-- ---- bounds

not_one : (k : ℕ) → eqb (suc (suc (suc k))) 1 ≡ false
not_one k = grind (arith, nat_tests)

not_two : (k : ℕ) → eqb (suc (suc (suc k))) 2 ≡ false
not_two k = grind (arith, nat_tests)

not_zero : (k : ℕ) → eqb (suc (suc (suc k))) 0 ≡ false
not_zero k = grind (arith, nat_tests)

not_few : (k : ℕ) → nat_le (suc (suc (suc k))) 2 ≡ false
not_few k = grind (arith, nat_tests)

-- a bound that passes the test, if there is one, stands at a cell of the kind
pub bound_kind : (d : Domain) (k : ℕ) (z : ℤ) → is_bound_on d k z ≡ true → IsBoundOfKind d (bound_of k z)
bound_kind d zero z h = tt
bound_kind d (suc zero) z h = cell_kind d z h
bound_kind d (suc (suc zero)) z h = cell_kind d z h
bound_kind d (suc (suc (suc k))) z h = rw (not_one k, not_two k) tt

bound_some : (d : Domain) (k : ℕ) (z : ℤ) → is_bound_on d (suc k) z ≡ true → is_some (bound_of (suc k) z) ≡ true
bound_some d zero z h = refl
bound_some d (suc zero) z h = refl
bound_some d (suc (suc k)) z h = absurd (false≢true (rw (not_zero k, not_few k) at h))

or-true : (p : Bool) → (p || true) ≡ true
or-true true = refl
or-true false = refl

has_bound : (d : Domain) (l u : ℕ) (y z : ℤ) → is_bound_on d l y ≡ true → is_bound_on d u z ≡ true → not (eqb l 0 && eqb u 0) ≡ true → is_bound (bound_of l y) (bound_of u z) ≡ true
has_bound d zero zero y z hl hu some = absurd (false≢true some)
has_bound d zero (suc u) y z hl hu some = bound_some d u z hu
has_bound d (suc l) u y z hl hu some = rw (bound_some d l y hl) refl

equal_bounds : (l u : ℕ) (y z : ℤ) → eqb l 1 ≡ true → eqb u 2 ≡ true → not (int_lt y z) ≡ true → AreEqualBounds (bound_of l y) (bound_of u z)
equal_bounds l u y z one two less =
    let is_one : l ≡ 1 = (Decides-eqb l 1).0 one in
    let is_two : u ≡ 2 = (Decides-eqb u 2).0 two in
    rw (is_one, is_two) (not_true (int_lt y z) less)
  where
    not_true : (b : Bool) → not b ≡ true → b ≡ false
    not_true true h = absurd (false≢true h)
    not_true false h = refl

-- ---- conditions

-- a condition that fits: its attribute is there, bounds are of its kind, one at least, texts by equality
abbrev pub CondFits : List Column → Cond → Type 0
CondFits schema c = (c.attr < length schema) × HasBoundsOfKind schema c × IsEqualOnTexts schema c × IsBound c

on_texts : (p : Bool) (g : Range) → (not p || is_one_text g) ≡ true → p ≡ true → AreEqualBounds (cond_in g).lower (cond_in g).upper
on_texts true g h e =
    let a = both (eqb g.lower_kind 1 && eqb g.upper_kind 2 && not (int_lt g.lower g.upper)) (not (int_lt g.upper g.lower)) h in
    let b = both (eqb g.lower_kind 1 && eqb g.upper_kind 2) (not (int_lt g.lower g.upper)) a.0 in
    let c = both (eqb g.lower_kind 1) (eqb g.upper_kind 2) b.0 in
    equal_bounds g.lower_kind g.upper_kind g.lower g.upper c.0 c.1 b.1
on_texts false g h e = absurd (false≢true e)

-- a range that passes the test, on an attribute that is there, is a condition that fits
pub range_fits : (schema : List Column) (g : Range) → g.attribute < length schema → is_range (kind_at schema g.attribute) g ≡ true → CondFits schema (cond_in g)
range_fits schema g lt h =
    let d = kind_at schema g.attribute in
    let a = both (is_bound_on d g.lower_kind g.lower && is_bound_on d g.upper_kind g.upper && not (eqb g.lower_kind 0 && eqb g.upper_kind 0)) (not (is_of_texts d) || is_one_text g) h in
    let b = both (is_bound_on d g.lower_kind g.lower && is_bound_on d g.upper_kind g.upper) (not (eqb g.lower_kind 0 && eqb g.upper_kind 0)) a.0 in
    let c = both (is_bound_on d g.lower_kind g.lower) (is_bound_on d g.upper_kind g.upper) b.0 in (
      lt,
      (bound_kind d g.lower_kind g.lower c.0, bound_kind d g.upper_kind g.upper c.1),
      on_texts (is_of_texts d) g a.1,
      has_bound d g.lower_kind g.upper_kind g.lower g.upper c.0 c.1 b.1,
    )

held_has : (cs : List Cond) (a : ℕ) → list_any (λ c. eqb c.attr a) cs ≡ has (map (λ c. c.attr) cs) a
held_has [] a = refl
held_has (c ∷ cs) a = ap (λ b. eqb c.attr a || b) (held_has cs a)

-- conditions that fit, on attributes of their own
pub record AllFit (schema : List Column) (cs : List Cond) : Type 0 where
  pub each : All (CondFits schema) cs
  pub apart : Distinct (map (λ c. c.attr) cs)

-- where there are no conditions, all fit
pub none_fit : (schema : List Column) → AllFit schema []
none_fit schema = record { each = λ k d lt. absurd (omega (arith, lt)); apart = tt }

held_not : (p q : Bool) → (p || not q) ≡ false → (p ≡ false) × (q ≡ true)
held_not true q h = absurd (false≢true (sym h))
held_not false true h = (refl, refl)
held_not false false h = absurd (false≢true (sym h))

more_fit : (schema : List Column) (cs : List Cond) (c : Cond) → CondFits schema c → list_any (λ x. eqb x.attr c.attr) cs ≡ false → AllFit schema cs → AllFit schema (cs ++ c ∷ [])
more_fit schema cs c fits new all =
    let absent : has (map (λ (x : Cond). x.attr) cs) c.attr ≡ false = sym (held_has cs c.attr) ∙ new in
    let more : Distinct (cond (has (map (λ (x : Cond). x.attr) cs) c.attr) (map (λ (x : Cond). x.attr) cs) (map (λ (x : Cond). x.attr) cs ++ c.attr ∷ [])) = distinct-more (map (λ (x : Cond). x.attr) cs) c.attr all.apart in
    record {
      each = All-push (CondFits schema) cs c all.each fits;
      apart = subst Distinct (sym (map-append (λ (x : Cond). x.attr) cs (c ∷ []))) (rw absent at more);
    }

by_range : (schema : List Column) (done : List Cond) (g : Range) (out held : Bool) (c : Cond) → nat_le (length schema) g.attribute ≡ out → (list_any (λ (x : Cond). eqb x.attr g.attribute) done || not (is_range (kind_at schema g.attribute) g)) ≡ held
    → cond_after schema done g ≡ Ok c → AllFit schema done → AllFit schema (done ++ c ∷ [])
by_range schema done g true held c e f h all = absurd (no_ok c (rw e at h))
  where
    no_ok : (c : Cond) → ◌≡◌ {A = Result Cond Fault} (Err NoAttribute) (Ok c) → ⊥
    no_ok c h = absurd cc
by_range schema done g false true c e f h all = absurd (no_ok c (rw (e, f) at h))
  where
    no_ok : (c : Cond) → ◌≡◌ {A = Result Cond Fault} (Err BadCondition) (Ok c) → ⊥
    no_ok c h = absurd cc
by_range schema done g false false c e f h all =
    let is : cond_in g ≡ c = same_ok (cond_in g) c (rw (e, f) at h) in
    let parts = held_not (list_any (λ (x : Cond). eqb x.attr g.attribute) done) (is_range (kind_at schema g.attribute) g) f in
    let lt : g.attribute < length schema = within (length schema) g.attribute e in
    subst (λ (x : Cond). AllFit schema (done ++ x ∷ [])) is (more_fit schema done (cond_in g) (range_fits schema g lt parts.1) parts.0 all)
  where
    same_ok : (x y : Cond) → ◌≡◌ {A = Result Cond Fault} (Ok x) (Ok y) → x ≡ y
    same_ok x y h = cc

    within : (n a : ℕ) → nat_le n a ≡ false → a < n
    within n a h = grind (arith, nat_tests, h)

by_cond : (schema : List Column) (done : List Cond) (g : Range) (gs : List Range) (r : Result Cond Fault) (cs : List Cond) → cond_after schema done g ≡ r
    → (r >>= λ c. conds_after schema (done ++ c ∷ []) gs) ≡ Ok cs → AllFit schema done
    → ((c : Cond) → conds_after schema (done ++ c ∷ []) gs ≡ Ok cs → AllFit schema (done ++ c ∷ []) → AllFit schema cs) → AllFit schema cs
by_cond schema done g gs (Ok c) cs e h all more = more c h (by_range schema done g _ _ c refl refl e all)
by_cond schema done g gs (Err f) cs e h all more = absurd (no_ok f cs h)
  where
    no_ok : (f : Fault) (cs : List Cond) → ◌≡◌ {A = Result (List Cond) Fault} (Err f) (Ok cs) → ⊥
    no_ok f cs h = absurd cc

-- the conditions that ranges make, behind conditions that fit, fit with those
pub conds_fit : (schema : List Column) (done : List Cond) (gs : List Range) (cs : List Cond) → conds_after schema done gs ≡ Ok cs → AllFit schema done → AllFit schema cs
conds_fit schema done [] cs h all = subst (AllFit schema) (same_ok done cs h) all
  where
    same_ok : (x y : List Cond) → ◌≡◌ {A = Result (List Cond) Fault} (Ok x) (Ok y) → x ≡ y
    same_ok x y h = cc
conds_fit schema done (g ∷ gs) cs h all = by_cond schema done g gs (cond_after schema done g) cs refl h all (λ c e f. conds_fit schema (done ++ c ∷ []) gs cs e f)

-- ---- wants

same_ok : {A : Type 0} (x y : A) → ◌≡◌ {A = Result A Fault} (Ok x) (Ok y) → x ≡ y
same_ok x y h = cc

no_ok : {A : Type 0} (f : Fault) (x : A) → ◌≡◌ {A = Result A Fault} (Err f) (Ok x) → ⊥
no_ok f x h = absurd cc

abbrev WantFits : List Column → Want → Type 0
WantFits schema w = WantsBelow (length schema) w × TakesNumbers schema w × HasFewNames w

below_by : (schema : List Column) (ns : List ℕ) (b : Bool) (x : List ℕ) → are_names schema ns ≡ b
    → names_in schema ns ≡ Ok x → WantFits schema (want.Rows x)
below_by schema ns true x e h =
    let is : ns ≡ x = same_ok ns x (rw e at h) in
    let a = both (nat_le 1 (length ns) && nat_le (length ns) 8) (list_all (λ (n : ℕ). nat_lt n (length schema)) ns) e in
    let b = both (nat_le 1 (length ns)) (nat_le (length ns) 8) a.0 in
    let all : All (λ (n : ℕ). n < length schema) ns = λ k d lt. ltb-true _ _ (AllPass-from_list_all (λ (n : ℕ). nat_lt n (length schema)) ns a.1 k d lt) in
    subst (λ (z : List ℕ). WantFits schema (want.Rows z)) is (all, tt, (leb-true _ _ b.0, leb-true _ _ b.1))
below_by schema ns false x e h = absurd (no_ok NoAttribute x (rw e at h))

number_by : (schema : List Column) (a : ℕ) (b : Bool) (n : ℕ) → (nat_le (length schema) a || is_of_texts (kind_at schema a)) ≡ b → number_in schema a ≡ Ok n
    → (n < length schema) × (is_of_texts (kind_at schema n) ≡ false)
number_by schema a true n e h = absurd (no_ok NoAttribute n (rw e at h))
number_by schema a false n e h =
    let is : a ≡ n = same_ok a n (rw e at h) in
    let parts = or-false (nat_le (length schema) a) (is_of_texts (kind_at schema a)) e in
    subst (λ (z : ℕ). (z < length schema) × (is_of_texts (kind_at schema z) ≡ false)) is (above (length schema) a parts.0, parts.1)
  where
    above : (n a : ℕ) → nat_le n a ≡ false → a < n
    above n a h = grind (arith, nat_tests, h)

by_names : (schema : List Column) (r : Result (List ℕ) Fault) (x : Want) → (r >>= λ ns. Ok (want.Rows ns)) ≡ Ok x → ((ns : List ℕ) → r ≡ Ok ns → WantFits schema (want.Rows ns)) → WantFits schema x
by_names schema (Ok ns) x h f = subst (WantFits schema) (same_ok (want.Rows ns) x h) (f ns refl)
by_names schema (Err f) x h g = absurd (no_ok f x h)

by_number : (schema : List Column) (make : ℕ → Want) (r : Result ℕ Fault) (x : Want) → (r >>= λ n. Ok (make n)) ≡ Ok x → ((n : ℕ) → r ≡ Ok n → WantFits schema (make n)) → WantFits schema x
by_number schema make (Ok n) x h f = subst (WantFits schema) (same_ok (make n) x h) (f n refl)
by_number schema make (Err f) x h g = absurd (no_ok f x h)

-- what is wanted by numbers fits the table
pub want_fits : (schema : List Column) (w : Wanted) (x : Want) → want_in schema w ≡ Ok x → WantFits schema x
want_fits schema (wanted.Rows names) x h = by_names schema (names_in schema names.now) x h (λ ns e. below_by schema names.now _ ns refl e)
want_fits schema wanted.Count x h = subst (WantFits schema) (same_ok want.Count x h) (tt, tt, tt)
want_fits schema (wanted.Sum a) x h = by_number schema want.Sum (number_in schema a) x h (λ n e. let is = number_by schema a _ n refl e in (is.0, is.1, tt))
want_fits schema (wanted.Min a) x h = by_number schema want.Min (number_in schema a) x h (λ n e. let is = number_by schema a _ n refl e in (is.0, is.1, tt))
want_fits schema (wanted.Max a) x h = by_number schema want.Max (number_in schema a) x h (λ n e. let is = number_by schema a _ n refl e in (is.0, is.1, tt))

-- ---- calls

query_fits : (schema : List Column) (cs : List Cond) (w : Want) → AllFit schema cs → WantFits schema w → FitsQuery schema (record { conds = cs; want = w })
query_fits schema cs w all fits = record {
  attrs = record { conds = All-weaker (CondFits schema) (λ (c : Cond). c.attr < length schema) (λ c h. h.0) cs all.each; want = fits.0 };
  once = distinct (map (λ c. c.attr) cs) all.apart;
  bounds = All-weaker (CondFits schema) (HasBoundsOfKind schema) (λ c h. h.1) cs all.each;
  equal = All-weaker (CondFits schema) (IsEqualOnTexts schema) (λ c h. h.2) cs all.each;
  numbers = fits.1;
  names = fits.2;
}

-- so does a query of that and of the conditions that ranges make
pub asked_query_fits : (schema : List Column) (w : Wanted) (ranges : List Range) (x : Want) (cs : List Cond) → want_in schema w ≡ Ok x → conds_after schema [] ranges ≡ Ok cs → FitsQuery schema (record { conds = cs; want = x })
asked_query_fits schema w ranges x cs asked held = query_fits schema cs x (conds_fit schema [] ranges cs held (none_fit schema)) (want_fits schema w x asked)

select_by : (schema : List Column) (w : Result Want Fault) (r : Result (List Cond) Fault) (c : Call) → ((w >>= λ want. r >>= λ conds. Ok (record { conds = conds; want = want })) >>= λ q. Ok (call.Select q)) ≡ Ok c
    → ((x : Want) → w ≡ Ok x → WantFits schema x) → ((cs : List Cond) → r ≡ Ok cs → AllFit schema cs) → FitsCall schema c
select_by schema (Ok x) (Ok cs) c h f g = subst (FitsCall schema) (same_ok (call.Select (record { conds = cs; want = x })) c h) (query_fits schema cs x (g cs refl) (f x refl))
select_by schema (Ok x) (Err e) c h f g = absurd (no_ok e c h)
select_by schema (Err e) r c h f g = absurd (no_ok e c h)

-- a row's cells, with zeros after them
cells_fit : (schema : List Column) (ks : List Domain) (at_ : ℕ) (zs : List ℤ) (n : ℕ) → ((i : ℕ) → i < length ks → kind_at schema (at_ + i) ≡ get_or ks i kind.Int) → length zs ≡ length ks
    → are_cells schema at_ zs ≡ true → FitsCells ks (zs ++ replicate n (pos 0))
cells_fit schema [] at_ [] n kinds same h = ap (λ m. replicate m (pos 0)) (sym (length-replicate n (pos 0)))
cells_fit schema [] at_ (z ∷ zs) n kinds same h = absurd (omega (arith, same))
cells_fit schema (k ∷ ks) at_ [] n kinds same h = absurd (omega (arith, same))
cells_fit schema (k ∷ ks) at_ (z ∷ zs) n kinds same h =
    let parts = both (is_cell (kind_at schema at_) z) (are_cells schema (at_ + 1) zs) h in
    let zero_on : at_ + 0 ≡ at_ = omega arith in
    let first : kind_at schema at_ ≡ k = ap (kind_at schema) (sym zero_on) ∙ kinds 0 (omega arith) in (
      subst (λ (d : Domain). IsOfKind d z) first (cell_kind (kind_at schema at_) z parts.0),
      cells_fit schema ks (at_ + 1) zs n (λ i lt. let on : at_ + 1 + i ≡ at_ + suc i = omega arith in ap (kind_at schema) on ∙ kinds (suc i) (omega (arith, lt))) (omega (arith, same)) parts.1,
    )

row_by : (schema : List Column) (zs : List ℤ) (b : Bool) (row : List ℤ) → (eqb (length zs) (length schema) && are_cells schema 0 zs) ≡ b → row_in schema zs ≡ Ok row → FitsCells (kinds_of schema) row
row_by schema zs true row e h =
    let parts = both (eqb (length zs) (length schema)) (are_cells schema 0 zs) e in
    let len : length zs ≡ length (kinds_of schema) = (Decides-eqb (length zs) (length schema)).0 parts.0 ∙ sym (length-map schema (λ (c : Column). c.1)) in
    subst (FitsCells (kinds_of schema)) (same_ok (padded zs) row (rw e at h)) (cells_fit schema (kinds_of schema) 0 zs (8 - length zs) (λ i lt. let on : 0 + i ≡ i = omega arith in ap (kind_at schema) on) len parts.1)
row_by schema zs false row e h = absurd (no_ok BadCell row (rw e at h))

insert_by : (schema : List Column) (r : Result (List ℤ) Fault) (c : Call) → (r >>= λ row. Ok (call.Insert row)) ≡ Ok c → ((row : List ℤ) → r ≡ Ok row → FitsCells (kinds_of schema) row) → FitsCall schema c
insert_by schema (Ok row) c h f = subst (FitsCall schema) (same_ok (call.Insert row) c h) (f row refl)
insert_by schema (Err e) c h f = absurd (no_ok e c h)

-- conditions of ranges, one at least
some_by : (schema : List Column) (done : List Cond) (gs : List Range) (r : Result Cond Fault) (cs : List Cond) → (r >>= λ c. conds_after schema (done ++ c ∷ []) gs) ≡ Ok cs
    → ((c : Cond) → conds_after schema (done ++ c ∷ []) gs ≡ Ok cs → length (done ++ c ∷ []) ≤ length cs) → length done ≤ length cs
some_by schema done gs (Ok c) cs h more = let le = more c h in let len = length-append done (c ∷ []) in omega (arith, le, len)
some_by schema done gs (Err f) cs h more = absurd (no_ok f cs h)

some_conds : (schema : List Column) (done : List Cond) (gs : List Range) (cs : List Cond) → conds_after schema done gs ≡ Ok cs → length done ≤ length cs
some_conds schema done [] cs h = let is = same_ok done cs h in subst (λ (x : List Cond). length done ≤ length x) is (omega arith)
some_conds schema done (g ∷ gs) cs h = some_by schema done gs (cond_after schema done g) cs h (λ c e. some_conds schema (done ++ c ∷ []) gs cs e)

one_cond : (schema : List Column) (g : Range) (gs : List Range) (cs : List Cond) → conds_after schema [] (g ∷ gs) ≡ Ok cs → 1 ≤ length cs
one_cond schema g gs cs h = one_by (cond_after schema [] g) h
  where
    one_by : (r : Result Cond Fault) → (r >>= λ c. conds_after schema (c ∷ []) gs) ≡ Ok cs → 1 ≤ length cs
    one_by (Ok c) h = some_conds schema (c ∷ []) gs cs h
    one_by (Err f) h = absurd (no_ok f cs h)

delete_by : (schema : List Column) (ranges : List Range) (cs : List Cond) → delete_asked schema ranges ≡ Ok cs → FitsConds schema cs
delete_by schema [] cs h = absurd (no_ok BadCondition cs h)
delete_by schema (g ∷ gs) cs h =
    let all = conds_fit schema [] (g ∷ gs) cs h (none_fit schema) in
    record { query = query_fits schema cs want.Count all (tt, tt, tt); some = one_cond schema g gs cs h; bound = All-weaker (CondFits schema) IsBound (λ c h. h.3) cs all.each }

delete_call : (schema : List Column) (r : Result (List Cond) Fault) (c : Call) → (r >>= λ conds. Ok (call.DeleteWhere conds)) ≡ Ok c → ((cs : List Cond) → r ≡ Ok cs → FitsConds schema cs) → FitsCall schema c
delete_call schema (Ok cs) c h f = subst (FitsCall schema) (same_ok (call.DeleteWhere cs) c h) (f cs refl)
delete_call schema (Err e) c h f = absurd (no_ok e c h)

-- each call that numbers ask for fits the table
pub asked_fits : (schema : List Column) (a : Asked) (c : Call) → call_asked schema a ≡ Ok c → FitsCall schema c
asked_fits schema (asked.Select w ranges) c h =
    select_by schema (want_in schema w) (conds_after schema [] ranges.now) c h (want_fits schema w) (λ cs e. conds_fit schema [] ranges.now cs e (none_fit schema))
asked_fits schema (asked.Insert cells) c h = insert_by schema (row_in schema cells.now) c h (λ row e. row_by schema cells.now _ row refl e)
asked_fits schema (asked.Delete key) c h = subst (FitsCall schema) (same_ok (call.Delete key) c h) tt
asked_fits schema (asked.DeleteWhere ranges) c h = delete_call schema (delete_asked schema ranges.now) c h (delete_by schema ranges.now)
