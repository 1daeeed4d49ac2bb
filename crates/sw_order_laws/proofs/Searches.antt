-- A search at literals: of a table `a:int` with the rows 12 and 3, and one call, `count where a < 10`, that was replied 5, all is
-- tried, and there is no order.
use Rattle.std.specs.Prelude.{◌≡◌, ℕ, pos, true, List, [], ◌∷◌, Some, None, codes, refl, replicate}
use Rattle.std.proofs.Common.{ap, sym, subst, arith, get_or, zero, suc}
use Rattle.std.specs.Fmt.{digits}
use Rattle.std.specs.List.{slice_get}
use Rattle.std.proofs.lemmas.Option.{same_Some}
use Rattle.sw_rows.specs.Domains as kind
use Rattle.sw_query.specs.declared.bound.Bound.TheVariants as bound
use Rattle.sw_query.specs.declared.query.Call.TheVariants as call
use Rattle.sw_query.specs.declared.query.Want.TheVariants as want
use Rattle.sw_spine.specs.Table.{row}
use Rattle.sw_logs.specs.Openings.{IsOpening}
use Rattle.sw_logs.specs.Orders.{IsOrderFound, is_known}
use Rattle.sw_logs.specs.declared.logged.Logged.{Logged}
use Rattle.sw_logs.specs.declared.logged.Origin.{Origin}
use Rattle.sw_logs.specs.declared.opening.Opening.{Opening}
use Rattle.sw_logs.specs.declared.order.By.TheVariants as by
use Rattle.sw_logs.specs.declared.order.Order.{Order}
use Rattle.sw_order_laws.specs.Beginnings.{IsBeginning, IsIn, IsReplied, updates_by}
use Rattle.sw_order_laws.specs.Chosen.{IsExhausted, IsSettled, MayComeBefore, each_tried, lacks, refused}
use Rattle.sw_order_laws.proofs.Beginnings.{laid, replied_at}
use Rattle.sw_order_laws.proofs.Choosing.{closed_are_enough, exhausted_has_no_order, untouched_lack}

abbrev table : Opening
table = record {
  schema = (codes "a", kind.Int) ∷ [];
  rows = record { width = 1; items = row 1 (pos 12 ∷ replicate 7 (pos 0)) ∷ row 2 (pos 3 ∷ replicate 7 (pos 0)) ∷ [] };
  limit = 10;
}

opens : IsOpening table
opens = record { some = omega arith; most = omega arith; few = omega arith; numbered = refl }

module _ (origin : Origin) where
  abbrev asked : Logged
  asked = record {
    session = 1;
    start = 0;
    end = 1;
    call = call.Select (record { conds = record { attr = 0; lower = None; upper = Some (bound.Before (pos 10)) } ∷ []; want = want.Count });
    reply = Some (codes "5" ∷ []);
    origin = origin;
  }

  abbrev calls : List Logged
  calls = asked ∷ []

  differs : IsReplied table.schema 10 (updates_by table calls []) asked → ⊥
  unfolding digits
  differs h = let byte : 53 ≡ 49 = ap (λ (ls : List (List ℕ)). get_or (get_or ls 0 []) 0 0) h in absurd (omega (arith, byte))

  nowhere : (i : ℕ) → IsIn [] i → ⊥
  nowhere i h = let e = h.1 in absurd (cc)

  -- there is no other call
  is_asked : (i : ℕ) (c : Logged) → slice_get calls i ≡ Some c → (0 ≡ i) × (asked ≡ c)
  is_asked zero c e = (refl, same_Some asked c e)
  is_asked (suc i) c e = absurd (cc)

  none_else : (o : ℕ) (d : Logged) → MayComeBefore by.Sessions calls [] (0 ∷ []) o d → ⊥
  none_else o d m = m.other (0, ap (λ (n : ℕ). Some n) (is_asked o d m.there).0)

  settled : (i : ℕ) (c : Logged) → IsIn (0 ∷ []) i → slice_get calls i ≡ Some c → IsSettled by.Sessions table calls [] (0 ∷ []) i c
  settled i c chosen there = lacks (untouched_lack by.Sessions table calls [] (0 ∷ []) i c opens chosen there
      (subst (λ (x : Logged). is_known x ≡ true) (is_asked i c there).1 refl)
      (λ h. differs (subst (λ (x : Logged). IsReplied table.schema 10 (updates_by table calls []) x) (sym (is_asked i c there).1) h))
      (λ o d m. absurd (none_else o d m)))

  not_begun : IsBeginning by.Sessions table calls (0 ∷ []) → ⊥
  not_begun b = differs (replied_at table.schema 10 calls (updates_by table calls []) 0 asked refl (laid by.Sessions table calls (0 ∷ []) b).placed.0)

  each_is : (i : ℕ) → IsIn (0 ∷ []) i → 0 ≡ i
  each_is i h = by_place h.0 h.1
    where
      by_place : (p : ℕ) → slice_get (0 ∷ []) p ≡ Some i → 0 ≡ i
      by_place zero e = same_Some 0 i e
      by_place (suc p) e = absurd (cc)

  all_tried : IsExhausted by.Sessions table calls []
  all_tried = each_tried [] (0 ∷ [])
      (closed_are_enough by.Sessions table calls [] (0 ∷ []) (record { due = 0; is_due = record { is_chosen = (0, refl); fresh = nowhere 0; call = asked; there = refl; known = refl }; each = settled }))
      (λ i h. subst (λ (n : ℕ). IsExhausted by.Sessions table calls (n ∷ [])) (each_is i h) (refused (0 ∷ []) not_begun))

  no_order : (o : Order) → IsOrderFound by.Sessions table calls o → ⊥
  no_order o f = exhausted_has_no_order by.Sessions table calls opens all_tried o f
