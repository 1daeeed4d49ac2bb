-- Calls that are left alone, calls that are enough, and searches that have tried all.
use Rattle.std.proofs.Common.{◌≡◌, ◌≢◌, ◌∙◌, ◌⊎◌, inl, inr, ◌<◌, ◌≤◌, ◌+◌, ◌++◌, ◌==◌, sym, ap, refl, subst, cond, filter, ℕ, zero, suc, Bool, true, false, List, [], ◌∷◌, length, Option, Some, None, arith}
use Rattle.std.specs.List.{All, AllByRecursion, slice_get}
use Rattle.std.specs.Option.{IfSome}
use Rattle.std.proofs.lemmas.List.Elements.{All-cons, All-from_recursion, All-nil, recursion_from_All}
use Rattle.std.proofs.lemmas.Option.{same_Some}
use Rattle.sw_lang.specs.Replies.{reply_lines}
use Rattle.sw_query.specs.Scan.{meets_all}
use Rattle.sw_query.specs.declared.query.Call.{Call}
use Rattle.sw_query.specs.declared.query.Call.TheVariants as call
use Rattle.sw_query.specs.declared.reply.Reply.{Reply}
use Rattle.sw_spine.specs.Table.{inserts, opened, reply_to, row, updates_then}
use Rattle.sw_spine.proofs.Rising.{AreRising}
use Rattle.sw_table.specs.Updates.{rows_of}
use Rattle.sw_table.specs.declared.row.Row.{Row}
use Rattle.sw_table.specs.declared.row.Update.{Update}
use Rattle.sw_logs.specs.declared.logged.Logged.{Logged}
use Rattle.sw_logs.specs.declared.opening.Opening.{Opening}
use Rattle.sw_logs.specs.declared.order.By.{By}
use Rattle.sw_order_laws.specs.Apart.{AreAllApart, AreApart, AsksForNone, asks, is_insert, rows_changed}
use Rattle.sw_order_laws.specs.Beginnings.{IsIn, IsReplied, IsWhole, MayPrecede, after_calls, updates_by, with_call}
use Rattle.sw_order_laws.specs.Chosen.{AllLeaveAlone, AreOthers, ComesFirst, IsDue, IsFree, IsSameState, IsSettled, LeavesAlone, LeavesRows, MayComeBefore, at_once, each_tried, free, lacks, met_before, refused, waits}
use Rattle.sw_order_laws.specs.Laws.{ClosedAreEnough, ExhaustedHasNoEnd, ExhaustedHasNoOrder, LeftAloneStaysApart, OneOfEnoughComesNext, UntouchedLack}
use Rattle.sw_order_laws.proofs.Beginnings.{IsLaid, begins, laid, replied_at, rising_by}
use Rattle.sw_order_laws.proofs.Moves.{alike_have_one_future, calls_apart_move, comes_next, idle_calls_come_next, orders_are_whole}
use Rattle.sw_order_laws.proofs.Numbers.{Pairs, all_at, all_split, in_either, in_left, pairs_cross, pairs_first, pairs_last}
use Rattle.sw_order_laws.proofs.Placings.{ArePlaced, placed_first, placed_last, rising_with}
use Rattle.sw_order_laws.proofs.Standing.{MayStand}
use Rattle.sw_order_laws.proofs.Tables.{filters_swap, first_false, given_after, given_stay, none_seen, overlooks, replies_by_seen, seen_stay}

-- ---- a call that is left alone stays so

-- of one list and a later one: the call asks for the same rows, and where it inserts as many were given
record Stays (us vs : List Update) (c : Call) : Type 0 where
  seen : filter (asks c) (rows_of vs) ≡ filter (asks c) (rows_of us)
  more : inserts us ≤ inserts vs
  same : is_insert c ≡ true → inserts vs ≡ inserts us

-- a filter that leaves none passes none
pub all_none : (p : Row → Bool) (rs : List Row) → filter p rs ≡ [] → AllByRecursion (λ r. p r ≡ false) rs
all_none p [] h = tt
all_none p (r ∷ rs) h = by_test (all_none p rs) (p r) refl h
  where
    by_test : (filter p rs ≡ [] → AllByRecursion (λ x. p x ≡ false) rs) → (b : Bool) → p r ≡ b → cond b (r ∷ filter p rs) (filter p rs) ≡ [] → (p r ≡ false) × AllByRecursion (λ x. p x ≡ false) rs
    by_test rest true is h = absurd (cc)
    by_test rest false is h = (is, rest h)

-- what none of some rows passes, none does of others where the same pass
none_still : (p q : Row → Bool) (rs ss : List Row) → filter p ss ≡ filter p rs → All (λ r. p r ≡ false) (filter q rs) → All (λ r. p r ≡ false) (filter q ss)
none_still p q rs ss same none =
    let before : filter p (filter q rs) ≡ [] = none_seen p (filter q rs) (recursion_from_All (λ r. p r ≡ false) (filter q rs) none) in
    All-from_recursion (λ r. p r ≡ false) (filter q ss) (all_none p (filter q ss) (filters_swap p q ss ∙ (ap (filter q) same ∙ (filters_swap q p rs ∙ before))))

asks_for_none : (limit : ℕ) (us vs : List Update) (d c : Call) → Stays us vs c → LeavesRows limit us d c → AsksForNone c (rows_changed limit vs d)
asks_for_none limit us vs (call.Select q) c s l = All-nil (λ r. asks c r ≡ false)
asks_for_none limit us vs (call.Insert cells) c s l = by_room (inserts vs == limit)
  where
    by_room : (b : Bool) → AsksForNone c (cond b [] (row (inserts vs + 1) cells ∷ []))
    by_room true = All-nil (λ r. asks c r ≡ false)
    by_room false = All-cons (λ r. asks c r ≡ false) (row (inserts vs + 1) cells) [] (l.brings (inserts vs + 1) (let more = s.more in omega (arith, more))) (All-nil (λ r. asks c r ≡ false))
asks_for_none limit us vs (call.Delete key) c s l = none_still (asks c) (λ r. r.key == key) (rows_of us) (rows_of vs) s.seen l.takes
asks_for_none limit us vs (call.DeleteWhere conds) c s l = none_still (asks c) (meets_all conds) (rows_of us) (rows_of vs) s.seen l.takes

changed_still : (limit : ℕ) (us vs : List Update) (c : Call) → Stays us vs c → rows_changed limit us c ≡ rows_changed limit vs c
changed_still limit us vs (call.Select q) s = refl
changed_still limit us vs (call.Insert cells) s = ap (λ (n : ℕ). cond (n == limit) [] (row (n + 1) cells ∷ [])) (sym (s.same refl))
changed_still limit us vs (call.Delete key) s = sym s.seen
changed_still limit us vs (call.DeleteWhere conds) s = sym s.seen

apart_still : (limit : ℕ) (us vs : List Update) (d c : Call) → Stays us vs c → LeavesAlone limit us d c → AreApart limit vs d c
apart_still limit us vs d c s l = record {
  first = asks_for_none limit us vs d c s l.rows;
  second = subst (AsksForNone d) (changed_still limit us vs c s) l.asks;
  one_inserts = l.rows.one_inserts;
}

stays_then : (limit : ℕ) (us vs : List Update) (d c : Call) → AreRising vs → Stays us vs c → LeavesRows limit us d c → Stays us (updates_then limit vs d) c
stays_then limit us vs d c up s l = record {
  seen = seen_stay limit vs d c up (overlooks limit vs d c (asks_for_none limit us vs d c s l)) ∙ s.seen;
  more = let more = s.more in let given = given_after limit vs d in omega (arith, more, given);
  same = λ is. given_stay limit vs d (first_false (is_insert d) (is_insert c) l.one_inserts is) ∙ s.same is;
}

left_alone : (limit : ℕ) (calls : List Logged) (us vs : List Update) (c : Call) (between : List ℕ) → AreRising vs → Stays us vs c → AllLeaveAlone limit calls us c between → AreAllApart limit calls vs c between
left_alone limit calls us vs c [] up s all = tt
left_alone limit calls us vs c (i ∷ is) up s all =
    let here = by_call (slice_get calls i) all.0 in
    (here.0, left_alone limit calls us (with_call limit vs (slice_get calls i)) c is (rising_with limit vs (slice_get calls i) up) here.1 all.1)
  where
    by_call : (o : Option Logged) → IfSome o (λ d. LeavesAlone limit us d.call c) → IfSome o (λ d. AreApart limit vs d.call c) × Stays us (with_call limit vs o) c
    by_call None l = (tt, s)
    by_call (Some d) l = (apart_still limit us vs d.call c s l, stays_then limit us vs d.call c up s l.rows)

-- calls that do not bear on another where it may be placed do not when they come
pub left_alone_stays_apart : LeftAloneStaysApart
left_alone_stays_apart opening calls placed between c opens all =
    let us : List Update = updates_by opening calls placed in
    left_alone opening.limit calls us us c between (rising_by opening calls placed opens) (record { seen = refl; more = omega arith; same = λ is. refl }) all

-- ---- the first of those chosen

nowhere : (i : ℕ) → IsIn [] i → ⊥
nowhere i h = let e = h.1 in absurd (cc)

same_or : (m n : ℕ) → (m ≡ n) ⊎ (m ≢ n)
same_or zero zero = inl refl
same_or zero (suc n) = inr (λ e. omega arith)
same_or (suc m) zero = inr (λ e. omega arith)
same_or (suc m) (suc n) = later (same_or m n)
  where
    later : (m ≡ n) ⊎ (m ≢ n) → (suc m ≡ suc n) ⊎ (suc m ≢ suc n)
    later (inl e) = inl (ap suc e)
    later (inr d) = inr (λ e. d (omega arith))

in_cons : (x : ℕ) (xs : List ℕ) (i : ℕ) → IsIn (x ∷ xs) i → (x ≡ i) ⊎ IsIn xs i
in_cons x xs i h = by_place h.0 h.1
  where
    by_place : (p : ℕ) → slice_get (x ∷ xs) p ≡ Some i → (x ≡ i) ⊎ IsIn xs i
    by_place zero e = inl (same_Some x i e)
    by_place (suc p) e = inr (p, e)

-- a number stands in a list or does not
pub in_or : (xs : List ℕ) (i : ℕ) → IsIn xs i ⊎ (IsIn xs i → ⊥)
in_or [] i = inr (nowhere i)
in_or (x ∷ xs) i = by_both (same_or x i) (in_or xs i)
  where
    neither : (x ≢ i) → (IsIn xs i → ⊥) → (x ≡ i) ⊎ IsIn xs i → ⊥
    neither apart out (inl e) = apart e
    neither apart out (inr h) = out h

    by_both : (x ≡ i) ⊎ (x ≢ i) → IsIn xs i ⊎ (IsIn xs i → ⊥) → IsIn (x ∷ xs) i ⊎ (IsIn (x ∷ xs) i → ⊥)
    by_both (inl e) rest = inl (0, ap (λ (n : ℕ). Some n) e)
    by_both (inr apart) (inl h) = inl (suc h.0, h.1)
    by_both (inr apart) (inr out) = inr (λ h. neither apart out (in_cons x xs i h))

record HasFirst (chosen rest : List ℕ) : Type 0 where
  before : List ℕ
  member : ℕ
  behind : List ℕ
  are : rest ≡ before ++ member ∷ behind
  others : AreOthers chosen before
  is_chosen : IsIn chosen member

first_chosen : (chosen rest : List ℕ) (i : ℕ) → IsIn chosen i → IsIn rest i → HasFirst chosen rest
first_chosen chosen [] i c h = absurd (nowhere i h)
first_chosen chosen (x ∷ xs) i c h = by_first (in_or chosen x) (in_cons x xs i h) (first_chosen chosen xs i c)
  where
    other : (before : List ℕ) → (IsIn chosen x → ⊥) → AreOthers chosen before → (j : ℕ) → (x ≡ j) ⊎ IsIn before j → IsIn chosen j → ⊥
    other before out others j (inl e) h = out (subst (IsIn chosen) (sym e) h)
    other before out others j (inr b) h = others j b h

    by_first : IsIn chosen x ⊎ (IsIn chosen x → ⊥) → (x ≡ i) ⊎ IsIn xs i → (IsIn xs i → HasFirst chosen xs) → HasFirst chosen (x ∷ xs)
    by_first (inl own) there later = record { before = []; member = x; behind = xs; are = refl; others = λ j h. absurd (nowhere j h); is_chosen = own }
    by_first (inr out) (inl e) later = absurd (out (subst (IsIn chosen) (sym e) c))
    by_first (inr out) (inr b) later =
        let f = later b in
        record { before = x ∷ f.before; member = f.member; behind = f.behind; are = ap (λ (l : List ℕ). x ∷ l) f.are; others = λ j h. other f.before out f.others j (in_cons x f.before j h); is_chosen = f.is_chosen }

-- ---- one of those that are enough comes next

-- an order that begins with some calls goes on with one of those that are enough
pub one_of_enough_comes_next : OneOfEnoughComesNext
one_of_enough_comes_next keeping opening calls placed chosen opens enough can =
    let rest : List ℕ = can.0 in
    let f : HasFirst chosen rest = first_chosen chosen rest enough.due enough.is_due.is_chosen (behind (in_either placed rest enough.due (can.1.known enough.due enough.is_due.call enough.is_due.there enough.is_due.known))) in
    let w : IsWhole keeping opening calls (placed ++ (f.before ++ f.member ∷ f.behind)) = subst (λ (l : List ℕ). IsWhole keeping opening calls (placed ++ l)) f.are can.1 in
    let l : IsLaid keeping opening calls (placed ++ (f.before ++ f.member ∷ f.behind)) = laid keeping opening calls (placed ++ (f.before ++ f.member ∷ f.behind)) w.beginning in
    let us : List Update = updates_by opening calls placed in
    let last : ArePlaced opening.schema opening.limit calls us (f.before ++ f.member ∷ f.behind) = placed_last opening.schema opening.limit calls (opened opening.rows.items) placed (f.before ++ f.member ∷ f.behind) l.placed in
    let own = placed_last opening.schema opening.limit calls us f.before (f.member ∷ f.behind) last in
    let free : IsFree keeping opening calls placed f.before f.member own.0.call = enough.first f.before f.member own.0.call own.0.there (record { others = f.others; is_chosen = f.is_chosen; behind = f.behind; whole = w }) in
    let moved : IsWhole keeping opening calls (placed ++ f.member ∷ (f.before ++ f.behind)) = calls_apart_move keeping opening calls placed f.before f.behind f.member own.0.call opens free.next (left_alone_stays_apart opening calls placed f.before own.0.call.call opens free.alone) w in
    (f.member, f.is_chosen, comes_next keeping opening calls placed (f.before ++ f.behind) f.member moved)
  where
    behind : IsIn placed enough.due ⊎ IsIn can.0 enough.due → IsIn can.0 enough.due
    behind (inl a) = absurd (enough.is_due.fresh a)
    behind (inr b) = b

-- ---- a set that is closed

module _ (keeping : By) (opening : Opening) (calls : List Logged) (placed chosen : List ℕ) where
  -- how the calls of an order stand to one another
  pairs : (between : List ℕ) (i : ℕ) (f : ComesFirst keeping opening calls placed chosen between i) → Pairs (MayStand keeping calls) (placed ++ (between ++ i ∷ f.behind))
  pairs between i f = (laid keeping opening calls (placed ++ (between ++ i ∷ f.behind)) f.whole.beginning).order.pairs

  tail : (between : List ℕ) (i : ℕ) (f : ComesFirst keeping opening calls placed chosen between i) → Pairs (MayStand keeping calls) (between ++ i ∷ f.behind)
  tail between i f = pairs_last (MayStand keeping calls) placed (between ++ i ∷ f.behind) (pairs between i f)

  -- one that has to be placed does not stand between
  stands : (between : List ℕ) (i : ℕ) (f : ComesFirst keeping opening calls placed chosen between i) (j : ℕ) → IsDue calls placed chosen j → IsIn (i ∷ f.behind) j
  stands between i f j due = later (in_either placed (between ++ i ∷ f.behind) j (f.whole.known j due.call due.there due.known))
    where
      last : IsIn between j ⊎ IsIn (i ∷ f.behind) j → IsIn (i ∷ f.behind) j
      last (inl b) = absurd (f.others j b due.is_chosen)
      last (inr r) = r

      later : IsIn placed j ⊎ IsIn (between ++ i ∷ f.behind) j → IsIn (i ∷ f.behind) j
      later (inl a) = absurd (due.fresh a)
      later (inr b) = last (in_either between (i ∷ f.behind) j b)

  -- those between are calls that may come before
  pub before : (between : List ℕ) (i : ℕ) (f : ComesFirst keeping opening calls placed chosen between i) (o : ℕ) (d : Logged) → IsIn between o → slice_get calls o ≡ Some d → MayComeBefore keeping calls placed chosen o d
  before between i f o d b there = record {
    there = there;
    fresh = λ a. (all_at (MayStand keeping calls o) (between ++ i ∷ f.behind) (all_at (λ x. AllByRecursion (MayStand keeping calls x) (between ++ i ∷ f.behind)) placed (pairs_cross (MayStand keeping calls) placed (between ++ i ∷ f.behind) (pairs between i f)) a.0 o a.1) (in_left between (i ∷ f.behind) o b).0 o (in_left between (i ∷ f.behind) o b).1).other refl;
    other = f.others o b;
    first = λ j due. let at = stands between i f j due in (all_at (MayStand keeping calls o) (i ∷ f.behind) (all_at (λ x. AllByRecursion (MayStand keeping calls x) (i ∷ f.behind)) between (pairs_cross (MayStand keeping calls) between (i ∷ f.behind) (tail between i f)) b.0 o b.1) at.0 j at.1).precedes d due.call there due.there due.known;
  }

-- what holds of each of some calls
pub each_call : (calls : List Logged) (P : Logged → Type 0) (o : ℕ) (x : Option Logged) → slice_get calls o ≡ x → ((d : Logged) → slice_get calls o ≡ Some d → P d) → IfSome x P
each_call calls P o None is h = tt
each_call calls P o (Some d) is h = h d is

all_alone : (limit : ℕ) (calls : List Logged) (us : List Update) (c : Call) (some : List ℕ) → ((o : ℕ) (d : Logged) → IsIn some o → slice_get calls o ≡ Some d → LeavesAlone limit us d.call c) → AllLeaveAlone limit calls us c some
all_alone limit calls us c [] h = tt
all_alone limit calls us c (o ∷ os) h = (each_call calls (λ d. LeavesAlone limit us d.call c) o (slice_get calls o) refl (λ d is. h o d (0, refl) is), all_alone limit calls us c os (λ p d b there. h p d (suc b.0, b.1) there))

by_reason : (keeping : By) (opening : Opening) (calls : List Logged) (placed chosen between : List ℕ) (i : ℕ) (c : Logged) → slice_get calls i ≡ Some c → (f : ComesFirst keeping opening calls placed chosen between i) → IsSettled keeping opening calls placed chosen i c → IsFree keeping opening calls placed between i c
by_reason keeping opening calls placed chosen between i c there f (waits w) = absurd (w.must (precedes (in_cons i f.behind w.before (stands keeping opening calls placed chosen between i f w.before w.is_due))))
  where
    precedes : (i ≡ w.before) ⊎ IsIn f.behind w.before → MayPrecede keeping i c w.before w.is_due.call
    precedes (inl e) = absurd (w.another (sym e))
    precedes (inr b) = (all_at (MayStand keeping calls i) f.behind (pairs_last (MayStand keeping calls) between (i ∷ f.behind) (tail keeping opening calls placed chosen between i f)).0 b.0 w.before b.1).precedes c w.is_due.call there w.is_due.there w.is_due.known
by_reason keeping opening calls placed chosen between i c there f (lacks l) = absurd (l between f.behind f.others f.whole)
by_reason keeping opening calls placed chosen between i c there f (free s) = record { next = s.next; alone = all_alone opening.limit calls (updates_by opening calls placed) c.call between (λ o d b at. s.alone o d (before keeping opening calls placed chosen between i f o d b at)) }

-- calls that ask for no more are enough
pub closed_are_enough : ClosedAreEnough
closed_are_enough keeping opening calls placed chosen closed = record { due = closed.due; is_due = closed.is_due; first = λ between i c there f. by_reason keeping opening calls placed chosen between i c there f (closed.each i c f.is_chosen there) }

-- ---- a call that lacks its reply

stays_along : (limit : ℕ) (calls : List Logged) (us vs : List Update) (c : Call) (between : List ℕ) → AreRising vs → Stays us vs c → ((o : ℕ) (d : Logged) → IsIn between o → slice_get calls o ≡ Some d → LeavesRows limit us d.call c) → Stays us (after_calls limit calls vs between) c
stays_along limit calls us vs c [] up s h = s
stays_along limit calls us vs c (o ∷ os) up s h = stays_along limit calls us (with_call limit vs (slice_get calls o)) c os (rising_with limit vs (slice_get calls o) up) (by_call (slice_get calls o) (each_call calls (λ d. LeavesRows limit us d.call c) o (slice_get calls o) refl (λ d is. h o d (0, refl) is))) (λ p d b there. h p d (suc b.0, b.1) there)
  where
    by_call : (x : Option Logged) → IfSome x (λ d. LeavesRows limit us d.call c) → Stays us (with_call limit vs x) c
    by_call None l = s
    by_call (Some d) l = stays_then limit us vs d.call c up s l

-- a call lacks its reply while nothing that it asks for comes or goes
pub untouched_lack : UntouchedLack
untouched_lack keeping opening calls placed chosen i c opens member there known differs leave between behind others w =
    let us : List Update = updates_by opening calls placed in
    let f : ComesFirst keeping opening calls placed chosen between i = record { others = others; is_chosen = member; behind = behind; whole = w } in
    let l : IsLaid keeping opening calls (placed ++ (between ++ i ∷ behind)) = laid keeping opening calls (placed ++ (between ++ i ∷ behind)) w.beginning in
    let last : ArePlaced opening.schema opening.limit calls us (between ++ i ∷ behind) = placed_last opening.schema opening.limit calls (opened opening.rows.items) placed (between ++ i ∷ behind) l.placed in
    let own = placed_last opening.schema opening.limit calls us between (i ∷ behind) last in
    let up : AreRising us = rising_by opening calls placed opens in
    let s : Stays us (after_calls opening.limit calls us between) c.call = stays_along opening.limit calls us us c.call between up (record { seen = refl; more = omega arith; same = λ is. refl }) (λ o d b at. leave o d (before keeping opening calls placed chosen between i f o d b at)) in
    let same : reply_to opening.limit (after_calls opening.limit calls us between) c.call ≡ reply_to opening.limit us c.call = replies_by_seen opening.limit (after_calls opening.limit calls us between) us c.call s.seen s.same in
    let replied : IsReplied opening.schema opening.limit (after_calls opening.limit calls us between) c = replied_at opening.schema opening.limit calls (after_calls opening.limit calls us between) i c there own.0 in
    differs (subst (λ (r : Reply). IfSome c.reply (λ lines. lines ≡ reply_lines opening.schema c.call r)) same replied)

-- ---- a search that has tried all

laid_first : (keeping : By) (opening : Opening) (calls : List Logged) (xs ys : List ℕ) → IsLaid keeping opening calls (xs ++ ys) → IsLaid keeping opening calls xs
laid_first keeping opening calls xs ys l = record {
  placed = placed_first opening.schema opening.limit calls (opened opening.rows.items) xs ys l.placed;
  order = record { numbers = (all_split (λ (n : ℕ). n < length calls) xs ys l.order.numbers).0; pairs = pairs_first (MayStand keeping calls) xs ys l.order.pairs };
}

-- where all was tried no order begins with these calls
pub exhausted_has_no_end : ExhaustedHasNoEnd
exhausted_has_no_end keeping opening calls placed opens (at_once p i idle more) can = exhausted_has_no_end keeping opening calls (p ++ i ∷ []) opens more (idle_calls_come_next keeping opening calls p i opens idle can)
exhausted_has_no_end keeping opening calls placed opens (each_tried p chosen enough tried) can =
    let next = one_of_enough_comes_next keeping opening calls p chosen opens enough can in
    exhausted_has_no_end keeping opening calls (p ++ next.0 ∷ []) opens (tried next.0 next.1) next.2
exhausted_has_no_end keeping opening calls placed opens (refused p none) can = none (begins keeping opening calls p (laid_first keeping opening calls p can.0 (laid keeping opening calls (p ++ can.0) can.1.beginning)))
exhausted_has_no_end keeping opening calls placed opens (met_before one other begun same more) can =
    exhausted_has_no_end keeping opening calls one opens more (can.0, back)
  where
    turned : IsSameState opening calls other one
    turned = record { calls_are = λ i. ((same.calls_are i).1, (same.calls_are i).0); alike = record { rows = sym same.alike.rows; given = sym same.alike.given } }

    back : IsWhole keeping opening calls (one ++ can.0)
    back = alike_have_one_future keeping opening calls other one can.0 begun turned can.1

-- where all was tried from the start there is none
pub exhausted_has_no_order : ExhaustedHasNoOrder
exhausted_has_no_order keeping opening calls opens tried o f = exhausted_has_no_end keeping opening calls [] opens tried (o.places.items, orders_are_whole keeping opening calls o f)
