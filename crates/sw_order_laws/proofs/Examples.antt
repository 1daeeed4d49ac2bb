-- Calls that bear on one another, and which may stand before which, at literals: a table `a:int` with the rows
-- 12, 3 and 12.
use Rattle.std.specs.Prelude.{◌≡◌, ℕ, ℤ, pos, true, false, List, [], ◌∷◌, Some, None, codes, refl, replicate}
use Rattle.std.proofs.Common.{◌∙◌, ap, sym, arith, get_or}
use Rattle.std.specs.Fmt.{digits}
use Rattle.std.proofs.lemmas.List.Elements.{All-from_recursion, All-head}
use Rattle.sw_query.specs.declared.bound.Bound.TheVariants as bound
use Rattle.sw_query.specs.declared.query.Call.{Call}
use Rattle.sw_query.specs.declared.query.Call.TheVariants as call
use Rattle.sw_query.specs.declared.query.Cond.{Cond}
use Rattle.sw_query.specs.declared.query.Want.TheVariants as want
use Rattle.sw_spine.specs.Table.{opened, row, updates_then}
use Rattle.sw_table.specs.declared.row.Update.{Update}
use Rattle.sw_logs.specs.declared.logged.Logged.{Logged}
use Rattle.sw_logs.specs.declared.order.By.TheVariants as by
use Rattle.sw_order_laws.specs.Apart.{AreApart, AsksForNone, asks, rows_changed}
use Rattle.sw_order_laws.specs.Beginnings.{AreAlike, MayPrecede, TellsOfNone}

abbrev cells : ℤ → List ℤ
cells a = a ∷ replicate 7 (pos 0)

abbrev us : List Update
us = opened (row 1 (cells (pos 12)) ∷ row 2 (cells (pos 3)) ∷ row 3 (cells (pos 12)) ∷ [])

abbrev below_ten : List Cond
below_ten = record { attr = 0; lower = None; upper = Some (bound.Before (pos 10)) } ∷ []

abbrev count_below_ten : Call
count_below_ten = call.Select (record { conds = below_ten; want = want.Count })

clash : {A : Type 0} → true ≡ false → A
clash e = absurd (cc)

none : (c : Call) → AsksForNone c []
none c = All-from_recursion (λ r. asks c r ≡ false) [] tt

-- ---- what calls change

-- `delete where a < 10`
a_row_goes : rows_changed 100 us (call.DeleteWhere below_ten) ≡ row 2 (cells (pos 3)) ∷ []
a_row_goes = refl

-- `insert 5`, and the same where no more than three rows may come
a_row_comes : rows_changed 100 us (call.Insert (cells (pos 5))) ≡ row 4 (cells (pos 5)) ∷ []
a_row_comes = refl

no_row_comes : rows_changed 3 us (call.Insert (cells (pos 5))) ≡ []
no_row_comes = refl

-- ---- which bear on one another

-- `delete 1` and `delete 2` do not
other_keys : AreApart 100 us (call.Delete 1) (call.Delete 2)
other_keys = record {
  first = All-from_recursion (λ r. asks (call.Delete 2) r ≡ false) (row 1 (cells (pos 12)) ∷ []) (refl, tt);
  second = All-from_recursion (λ r. asks (call.Delete 1) r ≡ false) (row 2 (cells (pos 3)) ∷ []) (refl, tt);
  one_inserts = refl;
}

-- `delete 2` twice do
one_key : AreApart 100 us (call.Delete 2) (call.Delete 2) → ⊥
one_key a = clash (All-head (λ r. asks (call.Delete 2) r ≡ false) (row 2 (cells (pos 3))) [] a.first)

-- `delete 1` and `delete where a < 10` do not, `delete 2` and it do
row_of_no_condition : AreApart 100 us (call.Delete 1) (call.DeleteWhere below_ten)
row_of_no_condition = record {
  first = All-from_recursion (λ r. asks (call.DeleteWhere below_ten) r ≡ false) (row 1 (cells (pos 12)) ∷ []) (refl, tt);
  second = All-from_recursion (λ r. asks (call.Delete 1) r ≡ false) (row 2 (cells (pos 3)) ∷ []) (refl, tt);
  one_inserts = refl;
}

row_of_the_condition : AreApart 100 us (call.Delete 2) (call.DeleteWhere below_ten) → ⊥
row_of_the_condition a = clash (All-head (λ r. asks (call.DeleteWhere below_ten) r ≡ false) (row 2 (cells (pos 3))) [] a.first)

-- `delete 1` and `insert 5` do not
an_older_row : AreApart 100 us (call.Delete 1) (call.Insert (cells (pos 5)))
an_older_row = record {
  first = All-from_recursion (λ r. asks (call.Insert (cells (pos 5))) r ≡ false) (row 1 (cells (pos 12)) ∷ []) (refl, tt);
  second = All-from_recursion (λ r. asks (call.Delete 1) r ≡ false) (row 4 (cells (pos 5)) ∷ []) (refl, tt);
  one_inserts = refl;
}

-- `insert 5` and `count where a < 10` do, `insert 50` and it do not
a_row_that_counts : AreApart 100 us (call.Insert (cells (pos 5))) count_below_ten → ⊥
a_row_that_counts a = clash (All-head (λ r. asks count_below_ten r ≡ false) (row 4 (cells (pos 5))) [] a.first)

a_row_that_does_not : AreApart 100 us (call.Insert (cells (pos 50))) count_below_ten
a_row_that_does_not = record {
  first = All-from_recursion (λ r. asks count_below_ten r ≡ false) (row 4 (cells (pos 50)) ∷ []) (refl, tt);
  second = none (call.Insert (cells (pos 50)));
  one_inserts = refl;
}

-- two inserts do
two_inserts : AreApart 100 us (call.Insert (cells (pos 1))) (call.Insert (cells (pos 2))) → ⊥
two_inserts a = clash a.one_inserts

-- ---- either order leaves the same

left_alike : AreAlike (updates_then 100 (updates_then 100 us (call.Delete 1)) (call.Insert (cells (pos 5)))) (updates_then 100 (updates_then 100 us (call.Insert (cells (pos 5)))) (call.Delete 1))
left_alike = record { rows = refl; given = refl }

-- ---- replies that tell of no change

tells : (TellsOfNone (call.Delete 7) (codes "no such key" ∷ [])) × TellsOfNone (call.DeleteWhere below_ten) (codes "(0 removed)" ∷ [])
unfolding digits
tells = (refl, refl)

does_not_tell : TellsOfNone (call.DeleteWhere below_ten) (codes "(1 removed)" ∷ []) → ⊥
unfolding digits
does_not_tell e = let one : 49 ≡ 48 = ap (λ (ls : List (List ℕ)). get_or (get_or ls 0 []) 1 0) e in absurd (omega (arith, one))

-- ---- which may stand before which

module _ (c d : Logged) where
  -- of one session the earlier, whatever their times
  earlier_one : c.session ≡ 1 → d.session ≡ 1 → MayPrecede by.Sessions 3 c 5 d
  earlier_one s t = record { earlier = λ same. omega arith; time = tt }

  later_one : c.session ≡ 1 → d.session ≡ 1 → MayPrecede by.Sessions 5 c 3 d → ⊥
  later_one s t m = let less = m.earlier (s ∙ sym t) in absurd (omega (arith, less))

  -- one that began at 9 before one that ended at 7, with a slack of 2 and with one of 1
  within_slack : c.session ≡ 1 → d.session ≡ 2 → c.start ≡ 9 → d.end ≡ 7 → MayPrecede (by.Times 2) 5 c 3 d
  within_slack s t began ended = record { earlier = λ same. absurd (omega (arith, same, s, t)); time = omega (arith, began, ended) }

  past_slack : c.start ≡ 9 → d.end ≡ 7 → MayPrecede (by.Times 1) 5 c 3 d → ⊥
  past_slack began ended m = let time = m.time in absurd (omega (arith, time, began, ended))
