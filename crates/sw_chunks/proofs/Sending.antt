-- Updates handed to the areas at their places, one after the other.
use Rattle.std.proofs.Common.{◌≡◌, ◌≢◌, ◌<◌, ◌≤◌, ◌+◌, ◌++◌, ◌==◌, nat_eq, ℕ, zero, suc, Bool, true, false, List, [], ◌∷◌, drop, fold, length, get_or, slice_set, refl, sym, ap, ◌∙◌, arith, subst}
use Rattle.std.proofs.lemmas.Bool.Decides.{nat_tests}
use Rattle.std.proofs.lemmas.List.{append-nil, append_assoc}
use Rattle.sw_table.specs.declared.row.Update.{Update}
use Rattle.sw_table.specs.Updates.{rows_then}
use Rattle.sw_kernel.specs.Tapes.{brought}
use Rattle.sw_set.specs.Shelf.{AreReceivable, AreaState, came_in, came_then, logged_rows, rows_in}
use Rattle.sw_chunks.specs.Places.{IsSent, MayBeSent, count_at, sent}
use Rattle.sw_chunks.proofs.Asking.{get-any, set-many, set-other, set-same}
use Rattle.sw_chunks.proofs.Handed.{fold-append}

-- the updates before a place were handed over, and the rest may be
pub record IsPartlySent (k i : ℕ) (ps : List ℕ) (us : List Update) (x y : AreaState) : Type 0 where
  pub area : y ≡ record x { inbox = y.inbox; spare = y.spare }
  pub inbox : y.inbox ++ sent k (drop i ps) (drop i us) ≡ x.inbox ++ sent k ps us
  pub may : MayBeSent k (drop i ps) (drop i us) y
  pub room : count_at k (drop i ps) ≤ y.spare

pub record ArePartlySent (i : ℕ) (ps : List ℕ) (us : List Update) (xs ys : List AreaState) : Type 0 where
  pub many : length ys ≡ length xs
  pub each : (k : ℕ) (d e : AreaState) → k < length xs → IsPartlySent k i ps us (get_or xs k d) (get_or ys k e)

drop-next : {A : Type 0} (us : List A) (k : ℕ) (d : A) → k < length us → drop k us ≡ get_or us k d ∷ drop (suc k) us
drop-next [] k d lt = absurd (omega (arith, lt))
drop-next (x ∷ us) zero d lt = refl
drop-next (x ∷ us) (suc k) d lt = drop-next us k d (omega (arith, lt))

drop-at : {A : Type 0} (us : List A) (k : ℕ) (d : A) → k < length us → drop k us ≡ get_or us k d ∷ drop (k + 1) us
drop-at us k d lt = subst (λ (n : ℕ). drop k us ≡ get_or us k d ∷ drop n us) (the-next k) (drop-next us k d lt)
  where
    the-next : (k : ℕ) → suc k ≡ k + 1
    the-next k = omega arith

drop-all : {A : Type 0} (us : List A) (k : ℕ) → length us ≤ k → drop k us ≡ []
drop-all [] zero le = refl
drop-all [] (suc k) le = refl
drop-all (x ∷ us) zero le = absurd (omega (arith, le))
drop-all (x ∷ us) (suc k) le = drop-all us k (omega (arith, le))

sent-here : (k p : ℕ) (ps : List ℕ) (u : Update) (us : List Update) → p ≡ k → sent k (p ∷ ps) (u ∷ us) ≡ u ∷ sent k ps us
sent-here k p ps u us e = grind (arith, nat_tests, e)

sent-other : (k p : ℕ) (ps : List ℕ) (u : Update) (us : List Update) → p ≢ k → sent k (p ∷ ps) (u ∷ us) ≡ sent k ps us
sent-other k p ps u us ne = by (p == k) refl
  where
    same : (p k : ℕ) → (p == k) ≡ true → p ≡ k
    same p k q = grind (arith, nat_tests, q)

    by : (t : Bool) → (p == k) ≡ t → sent k (p ∷ ps) (u ∷ us) ≡ sent k ps us
    by true q = absurd (ne (same p k q))
    by false q = rw q refl

count-here : (k p : ℕ) (ps : List ℕ) → p ≡ k → count_at k (p ∷ ps) ≡ 1 + count_at k ps
count-here k p ps e = grind (arith, nat_tests, e)

count-other : (k p : ℕ) (ps : List ℕ) → p ≢ k → count_at k (p ∷ ps) ≡ count_at k ps
count-other k p ps ne = by (p == k) refl
  where
    same : (p k : ℕ) → (p == k) ≡ true → p ≡ k
    same p k q = grind (arith, nat_tests, q)

    by : (t : Bool) → (p == k) ≡ t → count_at k (p ∷ ps) ≡ count_at k ps
    by true q = absurd (ne (same p k q))
    by false q = rw q refl

-- where areas have room for what is sent to them, and may receive it, all of it may be handed over
pub sent-none : (ps : List ℕ) (us : List Update) (xs : List AreaState) → ((k : ℕ) (d : AreaState) → k < length xs → MayBeSent k ps us (get_or xs k d)) → ((k : ℕ) (d : AreaState) → k < length xs → count_at k ps ≤ (get_or xs k d).spare) → ArePartlySent 0 ps us xs xs
sent-none ps us xs may room = record { many = refl; each = λ k d e lt. subst (λ (y : AreaState). IsPartlySent k 0 ps us (get_or xs k d) y) (get-any xs k d e lt) (record { area = refl; inbox = refl; may = may k d lt; room = room k d lt }) }

-- when all updates were handed over, what is sent to each area's place waits there
pub sent-all : (i : ℕ) (ps : List ℕ) (us : List Update) (xs ys : List AreaState) → length us ≡ length ps → length us ≤ i → ArePartlySent i ps us xs ys → (k : ℕ) (d e : AreaState) → k < length xs → IsSent k ps us (get_or xs k d) (get_or ys k e)
sent-all i ps us xs ys m le w k d e lt =
    let s = w.each k d e lt in
    let none : sent k (drop i ps) (drop i us) ≡ [] = ap (λ l. sent k l (drop i us)) (drop-all ps i (omega (arith, m, le))) in
    let all : (get_or ys k e).inbox ≡ (get_or xs k d).inbox ++ sent k ps us = sym (append-nil (get_or ys k e).inbox) ∙ (ap (λ l. (get_or ys k e).inbox ++ l) (sym none) ∙ s.inbox) in
    s.area ∙ ap (λ l. record (get_or xs k d) { inbox = l; spare = (get_or ys k e).spare }) all

-- one area was handed its next update
handed : (k : ℕ) (ps rest : List ℕ) (us more : List Update) (u : Update) (i : ℕ) (x y v : AreaState) → drop i ps ≡ k ∷ rest → drop i us ≡ u ∷ more → drop (i + 1) ps ≡ rest → drop (i + 1) us ≡ more → IsPartlySent k i ps us x y → v ≡ record y { inbox = y.inbox ++ u ∷ []; spare = v.spare } → y.spare ≤ v.spare + 1 → IsPartlySent k (i + 1) ps us x v
handed k ps rest us more u i x y v dp du np nu w is spare =
    let here : sent k (drop i ps) (drop i us) ≡ u ∷ sent k rest more = ap (λ l. sent k l (drop i us)) dp ∙ (ap (sent k (k ∷ rest)) du ∙ sent-here k k rest u more refl) in
    let next : sent k (drop (i + 1) ps) (drop (i + 1) us) ≡ sent k rest more = ap (λ l. sent k l (drop (i + 1) us)) np ∙ ap (sent k rest) nu in
    let box : v.inbox ≡ y.inbox ++ u ∷ [] = ap (λ (t : AreaState). t.inbox) is in
    let rows : rows_in v ≡ rows_then (rows_in y) u = ap rows_in is ∙ fold-append rows_then (logged_rows y.attribute y.tape) y.inbox (u ∷ []) in
    let came : came_in v ≡ came_then (came_in y) u = ap came_in is ∙ fold-append came_then (brought y.tape) y.inbox (u ∷ []) in
    let may : AreReceivable y.attribute y.from y.below (came_in y) (rows_in y) (u ∷ sent k rest more) = subst (AreReceivable y.attribute y.from y.below (came_in y) (rows_in y)) here w.may in
    let counted : count_at k (drop i ps) ≡ 1 + count_at k rest = ap (count_at k) dp ∙ count-here k k rest refl in
    let room = w.room in
    record {
      area = is ∙ (ap (λ (t : AreaState). record t { inbox = y.inbox ++ u ∷ []; spare = v.spare }) w.area ∙ ap (λ l. record x { inbox = l; spare = v.spare }) (sym box));
      inbox = ap (λ l. v.inbox ++ l) next ∙ (ap (λ l. l ++ sent k rest more) box ∙ (append_assoc y.inbox (u ∷ []) (sent k rest more) ∙ (ap (λ l. y.inbox ++ l) (sym here) ∙ w.inbox)));
      may =
          subst (λ (l : List Update). AreReceivable v.attribute v.from v.below (came_in v) (rows_in v) l) (sym next)
          (subst (λ (t : AreaState). AreReceivable t.attribute t.from t.below (came_in v) (rows_in v) (sent k rest more)) (sym is)
          (subst (λ l. AreReceivable y.attribute y.from y.below (came_in v) l (sent k rest more)) (sym rows)
          (subst (λ l. AreReceivable y.attribute y.from y.below l (rows_then (rows_in y) u) (sent k rest more)) (sym came) may.1)));
      room = rw np (let c = counted in omega (arith, room, spare, c));
    }

-- and another was not
passed : (k p : ℕ) (ps rest : List ℕ) (us more : List Update) (u : Update) (i : ℕ) (x y : AreaState) → p ≢ k → drop i ps ≡ p ∷ rest → drop i us ≡ u ∷ more → drop (i + 1) ps ≡ rest → drop (i + 1) us ≡ more → IsPartlySent k i ps us x y → IsPartlySent k (i + 1) ps us x y
passed k p ps rest us more u i x y ne dp du np nu w =
    let same : sent k (drop i ps) (drop i us) ≡ sent k (drop (i + 1) ps) (drop (i + 1) us) =
    ap (λ l. sent k l (drop i us)) dp ∙ (ap (sent k (p ∷ rest)) du ∙ (sent-other k p rest u more ne ∙ (ap (sent k rest) (sym nu) ∙ ap (λ l. sent k l (drop (i + 1) us)) (sym np)))) in
    let counted : count_at k (drop i ps) ≡ count_at k (drop (i + 1) ps) = ap (count_at k) dp ∙ (count-other k p rest ne ∙ ap (count_at k) (sym np)) in
    record {
      area = w.area;
      inbox = ap (λ l. y.inbox ++ l) (sym same) ∙ w.inbox;
      may = subst (AreReceivable y.attribute y.from y.below (came_in y) (rows_in y)) same w.may;
      room = subst (λ (n : ℕ). n ≤ y.spare) counted w.room;
    }

-- the next update is handed to the area at its place
pub sent-next : (i p : ℕ) (ps : List ℕ) (us : List Update) (u : Update) (xs ys : List AreaState) (v : AreaState) → i < length us → length ps ≡ length us → ((d : ℕ) → get_or ps i d ≡ p) → ((d : Update) → get_or us i d ≡ u) → p < length xs → ArePartlySent i ps us xs ys → ((d : AreaState) → v ≡ record (get_or ys p d) { inbox = (get_or ys p d).inbox ++ u ∷ []; spare = v.spare }) → ((d : AreaState) → (get_or ys p d).spare ≤ v.spare + 1) → ArePartlySent (i + 1) ps us xs (slice_set ys p v)
sent-next i p ps us u xs ys v lt m at-p at-u within w is spare = record { many = set-many ys p v ∙ w.many; each = each }
  where
    dp : drop i ps ≡ p ∷ drop (i + 1) ps
    dp = drop-at ps i 0 (omega (arith, lt, m)) ∙ ap (λ n. n ∷ drop (i + 1) ps) (at-p 0)

    du : drop i us ≡ u ∷ drop (i + 1) us
    du = drop-at us i u lt ∙ ap (λ n. n ∷ drop (i + 1) us) (at-u u)

    here : p < length ys
    here = let n = w.many in omega (arith, within, n)

    same-place : (j k : ℕ) → nat_eq j k ≡ true → j ≡ k
    same-place j k q = grind (arith, nat_tests, q)

    other-place : (j k : ℕ) → nat_eq j k ≡ false → j ≡ k → ⊥
    other-place j k q e = grind (arith, nat_tests, q, e)

    each : (k : ℕ) (d e : AreaState) → k < length xs → IsPartlySent k (i + 1) ps us (get_or xs k d) (get_or (slice_set ys p v) k e)
    each k d e l = by (nat_eq k p) refl
      where
        by : (t : Bool) → nat_eq k p ≡ t → IsPartlySent k (i + 1) ps us (get_or xs k d) (get_or (slice_set ys p v) k e)
        by true q =
            subst (λ (n : ℕ). IsPartlySent n (i + 1) ps us (get_or xs n d) (get_or (slice_set ys p v) n e)) (sym (same-place k p q))
            (subst (λ (y : AreaState). IsPartlySent p (i + 1) ps us (get_or xs p d) y) (sym (set-same ys p v e here))
            (handed p ps (drop (i + 1) ps) us (drop (i + 1) us) u i (get_or xs p d) (get_or ys p e) v dp du refl refl (w.each p d e within) (is e) (spare e)))
        by false q =
            subst (λ (y : AreaState). IsPartlySent k (i + 1) ps us (get_or xs k d) y) (sym (set-other ys p k v e (other-place k p q)))
            (passed k p ps (drop (i + 1) ps) us (drop (i + 1) us) u i (get_or xs k d) (get_or ys k e) (λ b. other-place k p q (sym b)) dp du refl refl (w.each k d e l))

-- the area at the next place has room for the next update, and may receive it
pub next-room : (i p : ℕ) (ps : List ℕ) (us : List Update) (xs ys : List AreaState) (d : AreaState) → i < length ps → get_or ps i 0 ≡ p → p < length xs → ArePartlySent i ps us xs ys → 1 ≤ (get_or ys p d).spare
next-room i p ps us xs ys d lt at-p within w =
    let room = (w.each p d d within).room in
    let counted : count_at p (drop i ps) ≡ 1 + count_at p (drop (i + 1) ps) = ap (count_at p) (drop-at ps i 0 lt ∙ ap (λ n. n ∷ drop (i + 1) ps) at-p) ∙ count-here p p (drop (i + 1) ps) refl in
    omega (arith, room, counted)

-- the area at the next place may receive the next update
pub next-may : (i p : ℕ) (ps : List ℕ) (us : List Update) (u : Update) (xs ys : List AreaState) (d : AreaState) → i < length us → length ps ≡ length us → get_or ps i 0 ≡ p → get_or us i u ≡ u → p < length xs → ArePartlySent i ps us xs ys → AreReceivable (get_or ys p d).attribute (get_or ys p d).from (get_or ys p d).below (came_in (get_or ys p d)) (rows_in (get_or ys p d)) (u ∷ [])
next-may i p ps us u xs ys d lt m at-p at-u within w =
    let y : AreaState = get_or ys p d in
    let dp : drop i ps ≡ p ∷ drop (i + 1) ps = drop-at ps i 0 (omega (arith, lt, m)) ∙ ap (λ n. n ∷ drop (i + 1) ps) at-p in
    let du : drop i us ≡ u ∷ drop (i + 1) us = drop-at us i u lt ∙ ap (λ n. n ∷ drop (i + 1) us) at-u in
    let here : sent p (drop i ps) (drop i us) ≡ u ∷ sent p (drop (i + 1) ps) (drop (i + 1) us) = ap (λ l. sent p l (drop i us)) dp ∙ (ap (sent p (p ∷ drop (i + 1) ps)) du ∙ sent-here p p (drop (i + 1) ps) u (drop (i + 1) us) refl) in
    let may : AreReceivable y.attribute y.from y.below (came_in y) (rows_in y) (u ∷ sent p (drop (i + 1) ps) (drop (i + 1) us)) = subst (AreReceivable y.attribute y.from y.below (came_in y) (rows_in y)) here (w.each p d d within).may in
    (may.0, tt)

get-any-of : {A : Type 0} (xs : List A) (k : ℕ) (d e : A) → k < length xs → get_or xs k d ≡ get_or xs k e
get-any-of [] k d e lt = absurd (omega (arith, lt))
get-any-of (x ∷ xs) zero d e lt = refl
get-any-of (x ∷ xs) (suc k) d e lt = get-any-of xs k d e (omega (arith, lt))

-- the area at the next place may receive what stands there in the list of updates
pub next-may-at : (i p : ℕ) (ps : List ℕ) (us : List Update) (u : Update) (xs ys : List AreaState) (d : AreaState) → i < length us → length ps ≡ length us → get_or ps i 0 ≡ p → p < length xs → ArePartlySent i ps us xs ys → AreReceivable (get_or ys p d).attribute (get_or ys p d).from (get_or ys p d).below (came_in (get_or ys p d)) (rows_in (get_or ys p d)) (get_or us i u ∷ [])
next-may-at i p ps us u xs ys d lt m at-p within w = next-may i p ps us (get_or us i u) xs ys d lt m at-p (get-any-of us i (get_or us i u) u lt) within w

-- when what stands next in the list waits in the area at its place, one update more is handed over
pub sent-next-at : (i p : ℕ) (ps : List ℕ) (us : List Update) (u : Update) (xs ys : List AreaState) (r v : AreaState) → i < length us → length ps ≡ length us → get_or ps i 0 ≡ p → p < length xs → ArePartlySent i ps us xs ys → v ≡ record (get_or ys p r) { inbox = (get_or ys p r).inbox ++ get_or us i u ∷ []; spare = v.spare } → (get_or ys p r).spare ≤ v.spare + 1 → ArePartlySent (i + 1) ps us xs (slice_set ys p v)
sent-next-at i p ps us u xs ys r v lt m at-p within w is spare =
    sent-next i p ps us (get_or us i u) xs ys v lt m (λ d. get-any-of ps i d 0 (omega (arith, lt, m)) ∙ at-p) (λ d. get-any-of us i d u lt) within w
    (λ d. subst (λ (t : AreaState). v ≡ record t { inbox = t.inbox ++ get_or us i u ∷ []; spare = v.spare }) (get-any ys p r d here) is)
    (λ d. subst (λ (t : AreaState). t.spare ≤ v.spare + 1) (get-any ys p r d here) spare)
  where
    here : p < length ys
    here = let n = w.many in omega (arith, within, n)
