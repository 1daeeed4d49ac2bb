-- What a line asks of texts is equality, and a row that it inserts has codes of texts.
use Rattle.std.proofs.Common.{◌≡◌, sym, refl, subst, ℕ, zero, suc, ℤ, pos, ◌<◌, List, [], ◌∷◌, length, get_or, map, arith, Option, Some, None, true}
use Rattle.std.specs.Prelude.{IsSome}
use Rattle.std.proofs.lemmas.List.{length-map}
use Rattle.sw_rows.specs.Domains.{Domain, is_of_texts}
use Rattle.sw_rows.specs.Domains as kind
use Rattle.sw_rows.specs.Header.{Column, kinds_of}
use Rattle.sw_query.specs.Scan.{AsksBelow}
use Rattle.sw_rows.specs.Texts.{text_at, text_of}
use Rattle.sw_rows.specs.TextRows.{AreEqualities, AsksOfTexts, IsCoded, IsRowCoded, IsTextCond, SumsNumbers, domain_at}
use Rattle.sw_query.specs.declared.bound.Bound.{Bound}
use Rattle.sw_query.specs.declared.bound.Bound.TheVariants.{Before, After}
use Rattle.sw_query.specs.declared.query.Cond.{Cond}
use Rattle.sw_query.specs.declared.query.Query.{Query}
use Rattle.sw_query.specs.declared.query.Want.{Want}
use Rattle.sw_query.specs.declared.query.Want.TheVariants.{Rows, Count, Sum, Min, Max}
use Rattle.sw_lang.specs.Fits.{AreEqualBounds, FitsCells, FitsQuery, IsBoundOfKind, IsOfKind, TakesNumbers}
use Rattle.sw_lang.specs.Replies.{kind_at}

some_text : (o : Option (List ℕ)) (t : List ℕ) → o ≡ Some t → IsSome o
some_text o t h = rw h refl

coded : (texts : List (List ℕ)) (z : ℤ) → IsOfKind (kind.Text texts) z → IsSome (text_at texts z)
coded texts z (code, is, text, at) = rw is (some_text (text_of texts code) text at)

equalities : (texts : List (List ℕ)) (l u : Option Bound) → IsBoundOfKind (kind.Text texts) l → IsBoundOfKind (kind.Text texts) u → AreEqualBounds l u → AreEqualities texts l u
equalities texts None u hl hu e = absurd e
equalities texts (Some (After y)) u hl hu e = absurd e
equalities texts (Some (Before y)) None hl hu e = absurd e
equalities texts (Some (Before y)) (Some (Before z)) hl hu e = absurd e
equalities texts (Some (Before y)) (Some (After z)) hl hu e = record {
  first = y;
  second = z;
  from_first = refl;
  to_second = refl;
  first_coded = coded texts y hl;
  second_coded = coded texts z hu;
  not_above = e;
}

cond_of : (d : Domain) (c : Cond) → IsBoundOfKind d c.lower → IsBoundOfKind d c.upper → (is_of_texts d ≡ true → AreEqualBounds c.lower c.upper) → IsTextCond d c
cond_of kind.Int c hl hu e = tt
cond_of (kind.Fix places) c hl hu e = tt
cond_of kind.Flag c hl hu e = tt
cond_of (kind.Text texts) c hl hu e = equalities texts c.lower c.upper hl hu (e refl)

sums : (schema : List Column) (w : Want) → TakesNumbers schema w → SumsNumbers (kinds_of schema) w
sums schema (Rows names) h = tt
sums schema Count h = tt
sums schema (Sum a) h = h
sums schema (Min a) h = h
sums schema (Max a) h = h

-- a query that fits asks of texts by equality alone, and sums none
pub asks_of_texts : (schema : List Column) (q : Query) → FitsQuery schema q → AsksOfTexts (kinds_of schema) q
asks_of_texts schema q h = record {
  below = subst (λ n. AsksBelow n q) (sym (length-map schema (λ (c : Column). c.1))) h.attrs;
  conds = λ k c lt.
      let bounds = h.bounds k c lt in
      cond_of (kind_at schema (get_or q.conds k c).attr) (get_or q.conds k c) bounds.0 bounds.1 (h.equal k c lt);
  sums = sums schema q.want h.numbers;
}

cell_coded : (d : Domain) (z : ℤ) → IsOfKind d z → IsCoded d z
cell_coded kind.Int z h = tt
cell_coded (kind.Fix places) z h = tt
cell_coded kind.Flag z h = tt
cell_coded (kind.Text texts) z h = coded texts z h

cells_coded : (ds : List Domain) (zs : List ℤ) (a : ℕ) → FitsCells ds zs → a < length ds → IsCoded (domain_at ds a) (get_or zs a (pos 0))
cells_coded [] zs a h lt = absurd (omega (arith, lt))
cells_coded (d ∷ ds) [] a h lt = absurd h
cells_coded (d ∷ ds) (z ∷ zs) zero h lt = cell_coded d z h.0
cells_coded (d ∷ ds) (z ∷ zs) (suc a) h lt = cells_coded ds zs a h.1 (omega (arith, lt))

-- a row of cells that fit has codes of texts
pub row_of_codes : (schema : List Column) (key : ℕ) (cells : List ℤ) → FitsCells (kinds_of schema) cells → IsRowCoded (kinds_of schema) (record { key = key; cells = cells })
row_of_codes schema key cells h = λ a lt. cells_coded (kinds_of schema) cells a h lt
