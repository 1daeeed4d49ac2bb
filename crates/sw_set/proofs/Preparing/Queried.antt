-- From a range and tails, for which an area was prepared, to the query that they are of.
use Rattle.std.proofs.Common.{◌≡◌, ◌∙◌, inl, inr, ℕ, ℤ, List, true, true≢false, ap, sym, subst, Option, Result, Ok, Err, IfErr}
use Rattle.sw_query.specs.declared.bound.Bound.{Bound}
use Rattle.sw_query.specs.declared.query.Query.{Query}
use Rattle.sw_query.specs.declared.refusal.Refusal.{Refusal}
use Rattle.sw_map.specs.declared.tail.Tail.{Tail}
use Rattle.sw_set.specs.declared.area.ready.Ready.{Ready}
use Rattle.sw_set.specs.Boxed.{LacksOne}
use Rattle.sw_set.specs.Needs.{edge, lower_from, lower_in, needed, touches, upper_in, upper_upto}
use Rattle.sw_set.specs.Prepared.{IsHindered, IsOfBudget, IsPrepared, IsShort, area_lower, area_upper, cells_asked, is_touched}
use Rattle.sw_set.specs.Preparing.{HasPreparedOr, HasRangedOr}
use Rattle.sw_set.specs.Shelf.{AreaState, IsSameArea}
use Rattle.sw_set.specs.Sought.{AreAllNeeded}

-- what is left after a refusal, told of the query
pub hindered-for : {A : Type 0} (r : Result A Refusal) (q : Query) (x y : AreaState) (tails : List Tail) → is_touched x q ≡ true → tails ≡ needed x.attribute q → IfErr r (λ e. IsOfBudget e → LacksOne tails (cells_asked y) y.boxes) → IfErr r (λ e. IsShort e → AreAllNeeded tails y.boxes) → IfErr r (IsHindered q x y)
hindered-for (Ok a) q x y tails touched same lacking spent = tt
hindered-for (Err e) q x y tails touched same lacking spent = record {
  touched = touched;
  lacking = λ b. subst (λ (ts : List Tail). LacksOne ts (cells_asked y) y.boxes) same (lacking b);
  spent = λ s. subst (λ (ts : List Tail). AreAllNeeded ts y.boxes) same (spent s);
}

-- an area of the same interval is touched by the same queries
same-touched : (q : Query) (x y : AreaState) → IsSameArea x y → is_touched y q ≡ is_touched x q
same-touched q x y p =
    ap (λ (v : Option ℤ). touches (edge v) (edge y.below) (lower_in q.conds) (upper_in q.conds)) p.from
    ∙ ap (λ (v : Option ℤ). touches (edge x.from) (edge v) (lower_in q.conds) (upper_in q.conds)) p.below

-- and prepared for it in the same way
own-prepared : (q : Query) (x y : AreaState) (from upto : ℕ) → IsSameArea x y → IsPrepared (area_lower x q) (area_upper x q) (needed x.attribute q) y from upto → IsPrepared (area_lower y q) (area_upper y q) (needed y.attribute q) y from upto
own-prepared q x y from upto p stands =
    subst (λ (n : ℕ). IsPrepared (area_lower y q) (area_upper y q) (needed n q) y from upto) (sym p.attribute)
    (subst (λ (v : Option ℤ). IsPrepared (lower_from (edge v) (lower_in q.conds)) (area_upper y q) (needed x.attribute q) y from upto) (sym p.from)
    (subst (λ (v : Option ℤ). IsPrepared (area_lower x q) (upper_upto (edge v) (upper_in q.conds)) (needed x.attribute q) y from upto) (sym p.below) stands))

-- what came of the query's own bounds and tails came of the query
own-ranged : (r : Result Ready Refusal) (q : Query) (x y : AreaState) → is_touched x q ≡ true → IsSameArea x y → HasRangedOr r (area_lower x q) (area_upper x q) (needed x.attribute q) x y → HasPreparedOr r q x y
own-ranged (Ok ready) q x y touched p (noted, stands) =
    let no = sym (same-touched q x y p) in (
      record { touched = λ _. noted; untouched = λ f. absurd (true≢false (sym touched ∙ f)) },
      record { touched = λ _. own-prepared q x y ready.from ready.upto p stands; untouched = λ f. absurd (true≢false (sym touched ∙ no ∙ f)) },
    )
own-ranged (Err e) q x y touched p (inl same, why) = (inl same, why)
own-ranged (Err e) q x y touched p (inr (inl noted), why) = (inr (inl (record { touched = λ _. noted; untouched = λ f. absurd (true≢false (sym touched ∙ f)) })), why)
own-ranged (Err e) q x y touched p (inr (inr anew), why) = (inr (inr anew), why)

-- and so of bounds and tails that are the query's
pub prepared-for : (r : Result Ready Refusal) (q : Query) (x y : AreaState) (lower upper : Option Bound) (tails : List Tail) → is_touched x q ≡ true → lower ≡ area_lower x q → upper ≡ area_upper x q → tails ≡ needed x.attribute q → IsSameArea x y → HasRangedOr r lower upper tails x y → HasPreparedOr r q x y
prepared-for r q x y lower upper tails touched low high same p ranged =
    own-ranged r q x y touched p
    (subst (λ (l : Option Bound). HasRangedOr r l (area_upper x q) (needed x.attribute q) x y) low
    (subst (λ (u : Option Bound). HasRangedOr r lower u (needed x.attribute q) x y) high
    (subst (λ (ts : List Tail). HasRangedOr r lower upper ts x y) same ranged)))
