-- A head that is made, and receives what it lacks.
use Rattle.std.proofs.Common.{◌≡◌, ◌<◌, ◌≤◌, ◌+◌, ◌-◌, ◌++◌, ◌∙◌, ℕ, true, false, List, length, slice_index_or, take, drop, Option, Some, None, refl, sym, ap, subst, arith, length-drop}
use Rattle.std.specs.Prelude.{IfSome, is_some}
use Rattle.std.proofs.lemmas.List.{take-append-drop}
use Rattle.std.proofs.Math.Seq.{take-length}
use Rattle.sw_table.specs.declared.row.Row.{Row}
use Rattle.sw_table.specs.declared.row.Update.{Update}
use Rattle.sw_query.specs.Scan.{AsksBelow, WantsBelow}
use Rattle.sw_query.specs.declared.query.Query.{Query}
use Rattle.sw_query.specs.declared.query.Want.{Want}
use Rattle.sw_query.specs.declared.query.Want.TheVariants as want
use Rattle.sw_chunks.specs.Heads.{HeadState}
use Rattle.sw_chunks.specs.Routing.{MayFollow}
use Rattle.sw_spine.specs.Table.{opened}
use Rattle.sw_spine.specs.History.{IsSound}
use Rattle.sw_spine.specs.Receivable.{AreUpdates}
use Rattle.sw_spine.specs.Books.{Books, history_of, updates}
use Rattle.sw_spine.proofs.Receivables.{updates_may_come}
use Rattle.sw_solo.specs.Seats.{AreSeated, IsSeated, SeatState, received_or, seated, with_more, with_received}
use Rattle.sw_solo.proofs.Follows.{may_follow}

-- a head that is new received the opening rows
pub made_seat : (place taken : ℕ) (rows : List Row) (o : Option HeadState) (h : HeadState) → is_some o ≡ false → h.updates ≡ opened rows → seated place (Some h) taken ≡ with_received (received_or rows (seated place o taken)) (seated place o taken)
made_seat place taken rows None h none new = λ i. record { place = place; received = Some (new i); taken = taken }
made_seat place taken rows (Some x) h none new = absurd cc

-- a head that is made already is that with what it has received
pub same_seat : (place taken : ℕ) (rows : List Row) (o : Option HeadState) → is_some o ≡ true → seated place o taken ≡ with_received (received_or rows (seated place o taken)) (seated place o taken)
same_seat place taken rows None some = absurd cc
same_seat place taken rows (Some x) some = refl

-- it may receive what it lacks
pub may_serve : (b : Books) (s t : SeatState) (late : List Update) → IsSound (history_of b) → IsSeated b s.place s → t ≡ with_received (received_or b.rows s) s → late ≡ drop t.taken (updates b) → IfSome t.received (λ us. MayFollow t.place us late)
may_serve b s t late sound w made is =
    let lacks : late ≡ drop s.taken (updates b) = is ∙ ap (λ (x : SeatState). drop x.taken (updates b)) made in
    let all : received_or b.rows s ++ late ≡ updates b = ap (λ us. us ++ late) w.received ∙ (ap (λ vs. take s.taken (updates b) ++ vs) lacks ∙ take-append-drop s.taken (updates b)) in
    let come : AreUpdates b.limit (received_or b.rows s ++ late) = subst (AreUpdates b.limit) (sym all) (updates_may_come (history_of b) sound.numbered sound.few) in
    subst (λ (x : SeatState). IfSome x.received (λ us. MayFollow x.place us late)) (sym made) (may_follow s.place b.limit (received_or b.rows s) late sound.most come)

-- what it lacks, it has in number
pub late_count : (b : Books) (s t : SeatState) (late : List Update) (count : ℕ) → IsSeated b s.place s → t ≡ with_received (received_or b.rows s) s → late ≡ drop t.taken (updates b) → count ≡ length (updates b) → count ≡ t.taken + length late
late_count b s t late count w made is all =
    let same : t.taken ≡ s.taken = ap (λ (x : SeatState). x.taken) made in
    let many : length late ≡ length (updates b) - t.taken = ap length is ∙ length-drop t.taken (updates b) in
    let high : s.taken ≤ length (updates b) = w.count.high in
    omega (arith, same, many, high, all)

-- then it has all updates
pub now_served : (b : Books) (s t u : SeatState) (late : List Update) → IsSeated b s.place s → t ≡ with_received (received_or b.rows s) s → late ≡ drop t.taken (updates b) → u ≡ with_more late t → u.received ≡ Some (updates b)
now_served b s t u late w made is more =
    let lacks : late ≡ drop s.taken (updates b) = is ∙ ap (λ (x : SeatState). drop x.taken (updates b)) made in
    let all : received_or b.rows s ++ late ≡ updates b = ap (λ us. us ++ late) w.received ∙ (ap (λ vs. take s.taken (updates b) ++ vs) lacks ∙ take-append-drop s.taken (updates b)) in
    ap (λ (x : SeatState). x.received) (more ∙ ap (with_more late) made) ∙ ap (λ us. Some us) all

-- a head that received what it lacked stands by the history
pub seat_served : (b : Books) (s t u : SeatState) (late : List Update) → IsSeated b s.place s → t ≡ with_received (received_or b.rows s) s → late ≡ drop t.taken (updates b) → u ≡ with_more late t → IsSeated b s.place u
seat_served b s t u late w made is more =
    let has : u.received ≡ Some (updates b) = now_served b s t u late w made is more in
    let taken : u.taken ≡ t.taken + length late = ap (λ (x : SeatState). x.taken) more in
    let full : length (updates b) ≡ t.taken + length late = late_count b s t late (length (updates b)) w made is refl in
    let low : length b.rows ≤ s.taken = w.count.low in
    let high : s.taken ≤ length (updates b) = w.count.high in
    record {
      place_is = ap (λ (x : SeatState). x.place) (more ∙ ap (with_more late) made);
      count = record { low = omega (arith, low, high, taken, full); high = omega (arith, taken, full) };
      received = subst (λ (o : Option (List Update)). received_or b.rows (record u { received = o }) ≡ take u.taken (updates b)) (sym has)
          (sym (ap (λ n. take n (updates b)) (taken ∙ sym full) ∙ take-length (updates b)));
    }

-- a head that is made and received no more yet
pub seat_made : (b : Books) (s t : SeatState) → IsSeated b s.place s → t ≡ with_received (received_or b.rows s) s → IsSeated b s.place t
seat_made b s t w made = subst (IsSeated b s.place) (sym made) (record { place_is = refl; count = record { low = w.count.low; high = w.count.high }; received = w.received })

-- ---- who is asked

wants_eight : (n : ℕ) (w : Want) → n ≤ 8 → WantsBelow n w → WantsBelow 8 w
wants_eight n (want.Rows names) few all = λ k d lt. let low = all k d lt in omega (arith, low, few)
wants_eight n want.Count few all = tt
wants_eight n (want.Sum a) few all = omega (arith, all, few)
wants_eight n (want.Min a) few all = omega (arith, all, few)
wants_eight n (want.Max a) few all = omega (arith, all, few)

-- a query of a table of at most eight attributes
pub asks_eight : (n : ℕ) (q : Query) → n ≤ 8 → AsksBelow n q → AsksBelow 8 q
asks_eight n q few asks = record { conds = λ k d lt. let low = asks.conds k d lt in omega (arith, low, few); want = wants_eight n q.want few asks.want }

-- the seat at a place of the list
pub seat_here : (b : Books) (ss : List SeatState) (p : ℕ) (s : SeatState) → AreSeated b ss → p < length ss → s ≡ slice_index_or ss p s → IsSeated b p s
seat_here b ss p s a lt is = subst (IsSeated b p) (sym is) (a.each p s lt)

-- a seat that stands by the history stands under its own place
pub seat_own : (b : Books) (p : ℕ) (s : SeatState) → IsSeated b p s → IsSeated b s.place s
seat_own b p s w = subst (λ (n : ℕ). IsSeated b n s) (sym w.place_is) w
