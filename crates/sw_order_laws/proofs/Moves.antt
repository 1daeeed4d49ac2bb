-- The laws on which a search may rest.
use Rattle.std.proofs.Common.{◌≡◌, ◌≢◌, ◌∙◌, ◌⊎◌, inl, inr, ◌++◌, sym, ap, subst, ℕ, Bool, true, false, List, [], ◌∷◌, Option, Some, append_assoc}
use Rattle.std.specs.List.{AllByRecursion, slice_get}
use Rattle.std.specs.Option.{IfSome}
use Rattle.std.proofs.lemmas.Option.{same_Some}
use Rattle.sw_lang.specs.Replies.{reply_lines}
use Rattle.sw_spine.specs.History.{History, IsLegal}
use Rattle.sw_spine.specs.Table.{opened, reply_to}
use Rattle.sw_table.specs.declared.row.Update.{Update}
use Rattle.sw_logs.specs.Orders.{IsOrderFound, IsOrderOf, IsRecordOf, is_known}
use Rattle.sw_logs.specs.declared.logged.Logged.{Logged}
use Rattle.sw_logs.specs.declared.opening.Opening.{Opening}
use Rattle.sw_logs.specs.declared.order.By.{By}
use Rattle.sw_logs.specs.declared.order.Order.{Order}
use Rattle.sw_order_laws.specs.Apart.{AreApart}
use Rattle.sw_order_laws.specs.Beginnings.{AreAlike, CanEnd, IsIn, IsWhole, MayComeNext, MayPrecede, after_calls, updates_by}
use Rattle.sw_order_laws.specs.Laws.{AlikeHaveOneFuture, CallsApartChangePlaces, CallsApartLeaveTheSame, CallsApartMove, IdleCallsComeNext, IdleCallsMove, OrdersAreWhole, RepliesTellOfNone, UnknownMayBeLeftOut, WholeAreOrders}
use Rattle.sw_order_laws.proofs.Beginnings.{begins, few_by, idle_moved, laid, laid_behind, rising_by, unchanged}
use Rattle.sw_order_laws.proofs.Idle.{AreFew, told_none}
use Rattle.sw_order_laws.proofs.Numbers.{Around, Pairs, around, in_either, pairs_last}
use Rattle.sw_order_laws.proofs.Placings.{ArePlaced, after_both, apart_moved, placed_alike, placed_join, placed_last, swapped_alike}
use Rattle.sw_order_laws.proofs.Standing.{AreInOrder, MayStand, exchanged_in, moved_in, order_exchanged, order_moved, order_moved_by, order_without, without_in}

-- ---- orders that are found

-- an order that is found is a whole beginning
pub orders_are_whole : OrdersAreWhole
orders_are_whole keeping opening calls o f = record {
  beginning = record { history = o.history; record_of = f.record_of; legal = f.legal; numbers = f.order.numbers; once = f.order.once; sessions = f.order.sessions; times = f.order.times };
  known = f.order.known;
}

-- a whole beginning is an order, with its history
pub whole_are_orders : WholeAreOrders
whole_are_orders keeping opening calls places w = (w.beginning.history, λ o h p. found o h p)
  where
    order : IsOrderOf keeping calls places
    order = record { numbers = w.beginning.numbers; once = w.beginning.once; known = w.known; sessions = w.beginning.sessions; times = w.beginning.times }

    found : (o : Order) → o.history ≡ w.beginning.history → o.places.items ≡ places → IsOrderFound keeping opening calls o
    found o h p = record {
      record_of = subst (λ (x : History). IsRecordOf opening calls o.places.items x) (sym h) (subst (λ (l : List ℕ). IsRecordOf opening calls l w.beginning.history) (sym p) w.beginning.record_of);
      legal = subst IsLegal (sym h) w.beginning.legal;
      order = subst (IsOrderOf keeping calls) (sym p) order;
    }

-- ---- one call is moved

-- a whole beginning with a call moved, where the list still gives the replies
moved_whole : (keeping : By) (opening : Opening) (calls : List Logged) (placed between rest : List ℕ) (i : ℕ) → AllByRecursion (MayStand keeping calls i) between → (ArePlaced opening.schema opening.limit calls (updates_by opening calls placed) (between ++ i ∷ rest) → ArePlaced opening.schema opening.limit calls (updates_by opening calls placed) (i ∷ (between ++ rest))) → IsWhole keeping opening calls (placed ++ (between ++ i ∷ rest)) → IsWhole keeping opening calls (placed ++ i ∷ (between ++ rest))
moved_whole keeping opening calls placed between rest i may moved w =
    let l = laid keeping opening calls (placed ++ (between ++ i ∷ rest)) w.beginning in
    record {
      beginning = begins keeping opening calls (placed ++ i ∷ (between ++ rest)) (laid_behind keeping opening calls placed (between ++ i ∷ rest) (i ∷ (between ++ rest)) l moved (order_moved_by keeping calls placed between rest i may l.order));
      known = λ n c sc kc. moved_in placed between rest i n (w.known n c sc kc);
    }

-- the same of a call that may come next
next_whole : (keeping : By) (opening : Opening) (calls : List Logged) (placed between rest : List ℕ) (i : ℕ) (c : Logged) → MayComeNext keeping calls placed i c → (ArePlaced opening.schema opening.limit calls (updates_by opening calls placed) (between ++ i ∷ rest) → ArePlaced opening.schema opening.limit calls (updates_by opening calls placed) (i ∷ (between ++ rest))) → IsWhole keeping opening calls (placed ++ (between ++ i ∷ rest)) → IsWhole keeping opening calls (placed ++ i ∷ (between ++ rest))
next_whole keeping opening calls placed between rest i c next moved w =
    let l = laid keeping opening calls (placed ++ (between ++ i ∷ rest)) w.beginning in
    record {
      beginning = begins keeping opening calls (placed ++ i ∷ (between ++ rest)) (laid_behind keeping opening calls placed (between ++ i ∷ rest) (i ∷ (between ++ rest)) l moved (order_moved keeping calls placed between rest i c next l.order));
      known = λ n d sd kd. moved_in placed between rest i n (w.known n d sd kd);
    }

-- a call that changes nothing moves to where it may come next
pub idle_calls_move : IdleCallsMove
idle_calls_move keeping opening calls placed between rest i opens idle w =
    next_whole keeping opening calls placed between rest i idle.call idle.next
    (idle_moved opening.schema opening.limit calls (updates_by opening calls placed) between rest i idle.call (few_by opening calls placed opens) (few_later between) idle.next.there idle.known idle.replied idle.idle) w
  where
    few_later : (between : List ℕ) → AreFew opening.limit (after_calls opening.limit calls (updates_by opening calls placed) between)
    few_later between = subst (AreFew opening.limit) (after_both opening.limit calls (opened opening.rows.items) placed between) (few_by opening calls (placed ++ between) opens)

-- so does a call on which none of those between bears
pub calls_apart_move : CallsApartMove
calls_apart_move keeping opening calls placed between rest i c opens next apart w =
    next_whole keeping opening calls placed between rest i c next
    (apart_moved opening.schema opening.limit calls (updates_by opening calls placed) between rest i c (rising_by opening calls placed opens) next.there apart) w

-- ---- the call comes next

-- a call that has to stand behind a beginning stands somewhere in what ends it
pub record StandsBehind (rest : List ℕ) (i : ℕ) : Type 0 where
  pub place : Around rest i

-- a call with a reply that does not stand in the beginning stands behind it
pub stands_behind : (keeping : By) (opening : Opening) (calls : List Logged) (placed rest : List ℕ) (i : ℕ) (c : Logged) → slice_get calls i ≡ Some c → is_known c ≡ true → (IsIn placed i → ⊥) → IsWhole keeping opening calls (placed ++ rest) → StandsBehind rest i
stands_behind keeping opening calls placed rest i c there known fresh w = either (in_either placed rest i (w.known i c there known))
  where
    either : IsIn placed i ⊎ IsIn rest i → StandsBehind rest i
    either (inl a) = absurd (fresh a)
    either (inr b) = record { place = around rest i b.0 b.1 }

-- an order in which the call stands first behind a beginning is one that begins with both
pub comes_next : (keeping : By) (opening : Opening) (calls : List Logged) (placed rest : List ℕ) (i : ℕ) → IsWhole keeping opening calls (placed ++ i ∷ rest) → CanEnd keeping opening calls (placed ++ i ∷ [])
comes_next keeping opening calls placed rest i w = (rest, subst (IsWhole keeping opening calls) (sym (append_assoc placed (i ∷ []) rest)) w)

-- a call that changes nothing may as well come next
pub idle_calls_come_next : IdleCallsComeNext
idle_calls_come_next keeping opening calls placed i opens idle can =
    let s = stands_behind keeping opening calls placed can.0 i idle.call idle.next.there idle.known idle.next.fresh can.1 in
    let w : IsWhole keeping opening calls (placed ++ (s.place.before ++ i ∷ s.place.behind)) = subst (λ (l : List ℕ). IsWhole keeping opening calls (placed ++ l)) s.place.are can.1 in
    comes_next keeping opening calls placed (s.place.before ++ s.place.behind) i (idle_calls_move keeping opening calls placed s.place.before s.place.behind i opens idle w)

-- ---- what replies tell, and what may be left out

-- a reply that tells so is that of a call that changes nothing
pub replies_tell_of_none : RepliesTellOfNone
replies_tell_of_none opening calls placed c lines opens is replied tells =
    told_none opening.schema opening.limit (updates_by opening calls placed) c.call lines (few_by opening calls placed opens) (subst (λ (x : Option (List (List ℕ))). IfSome x (λ ls. ls ≡ reply_lines opening.schema c.call (reply_to opening.limit (updates_by opening calls placed) c.call))) is replied) tells

-- a call of unknown outcome that changes nothing may be left out
pub unknown_may_be_left_out : UnknownMayBeLeftOut
unknown_may_be_left_out keeping opening calls placed rest i c there unknown idle w =
    let l = laid keeping opening calls (placed ++ i ∷ rest) w.beginning in
    let order : AreInOrder keeping calls (placed ++ rest) = order_without keeping calls placed rest i l.order in
    record {
      beginning = begins keeping opening calls (placed ++ rest) (laid_behind keeping opening calls placed (i ∷ rest) rest l (λ all. subst (λ (us : List Update). ArePlaced opening.schema opening.limit calls us rest) (unchanged opening.limit calls (updates_by opening calls placed) i c there idle) all.1) order);
      known = λ n d sd kd. without_in placed rest i n (λ e. other n d sd kd e) (w.known n d sd kd);
    }
  where
    clash : (b : Bool) → b ≡ false → b ≡ true → ⊥
    clash b f t = absurd (cc)

    other : (n : ℕ) (d : Logged) → slice_get calls n ≡ Some d → is_known d ≡ true → i ≡ n → ⊥
    other n d sd kd e =
        let same : c ≡ d = same_Some c d (sym there ∙ (ap (λ (k : ℕ). slice_get calls k) e ∙ sd)) in
        clash (is_known c) unknown (subst (λ (x : Logged). is_known x ≡ true) (sym same) kd)

-- ---- two calls change places

-- two neighbours that do not bear on one another change places
pub calls_apart_change_places : CallsApartChangePlaces
calls_apart_change_places keeping opening calls placed rest i j c d opens ti tj may apart w =
    moved_whole keeping opening calls placed (i ∷ []) rest j (record { other = λ (e : j ≡ i). other (sym e); precedes = λ x y sx sy ky. precedes x y sx sy ky }, tt)
    (apart_moved opening.schema opening.limit calls (updates_by opening calls placed) (i ∷ []) rest j d (rising_by opening calls placed opens) tj (subst (λ (o : Option Logged). IfSome o (λ x. AreApart opening.limit (updates_by opening calls placed) x.call d.call)) (sym ti) apart, tt)) w
  where
    pairs : Pairs (MayStand keeping calls) (i ∷ j ∷ rest)
    pairs = pairs_last (MayStand keeping calls) placed (i ∷ j ∷ rest) (laid keeping opening calls (placed ++ i ∷ j ∷ rest) w.beginning).order.pairs

    other : i ≢ j
    other = pairs.0.0.other

    precedes : (x y : Logged) → slice_get calls j ≡ Some x → slice_get calls i ≡ Some y → is_known y ≡ true → MayPrecede keeping j x i y
    precedes x y sx sy ky =
        let first : c ≡ y = same_Some c y (sym ti ∙ sy) in
        let second : d ≡ x = same_Some d x (sym tj ∙ sx) in
        subst (λ (z : Logged). MayPrecede keeping j z i y) second (subst (λ (z : Logged). MayPrecede keeping j d i z) first (may (subst (λ (z : Logged). is_known z ≡ true) (sym first) ky)))

-- in either order they leave the same
pub calls_apart_leave_the_same : CallsApartLeaveTheSame
calls_apart_leave_the_same opening calls placed i j c d opens ti tj apart =
    let us : List Update = updates_by opening calls placed in
    let first = after_both opening.limit calls (opened opening.rows.items) placed (i ∷ j ∷ []) in
    let second = after_both opening.limit calls (opened opening.rows.items) placed (j ∷ i ∷ []) in
    let same = swapped_alike opening.limit calls us i j c d (rising_by opening calls placed opens) ti tj apart in
    subst (λ (vs : List Update). AreAlike vs (updates_by opening calls (placed ++ j ∷ i ∷ []))) (sym first) (subst (AreAlike (after_calls opening.limit calls us (i ∷ j ∷ []))) (sym second) same)

-- ---- beginnings that are alike

-- what ends one beginning ends another of the same state
pub alike_have_one_future : AlikeHaveOneFuture
alike_have_one_future keeping opening calls one other rest begun same w =
    let l = laid keeping opening calls (one ++ rest) w.beginning in
    let own = laid keeping opening calls other begun in
    let us : List Update = opened opening.rows.items in
    record {
      beginning = begins keeping opening calls (other ++ rest) (record {
        placed = placed_join opening.schema opening.limit calls us other rest own.placed (placed_alike opening.schema opening.limit calls (updates_by opening calls one) (updates_by opening calls other) rest same.alike (placed_last opening.schema opening.limit calls us one rest l.placed));
        order = order_exchanged keeping calls one other rest (λ n h. (same.calls_are n).1 h) own.order l.order;
      });
      known = λ n c sc kc. exchanged_in one other rest n (λ h. (same.calls_are n).0 h) (w.known n c sc kc);
    }
