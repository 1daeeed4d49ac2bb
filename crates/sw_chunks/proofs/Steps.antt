-- One area after the other is asked.
use Rattle.std.proofs.Common.{◌≡◌, ◌≢◌, ◌<◌, ◌≤◌, ◌+◌, nat_eq, ℕ, zero, suc, Bool, true, false, true≢false, List, [], ◌∷◌, length, get_or, drop, slice_set, refl, sym, ap, ◌∙◌, arith, subst, fold, All, Result, MatchResult, IfOk}
use Rattle.std.proofs.lemmas.Bool.Decides.{nat_tests}
use Rattle.sw_table.specs.declared.row.Row.{Row}
use Rattle.sw_query.specs.declared.query.Query.{Query}
use Rattle.sw_query.specs.declared.reply.Reply.{Reply}
use Rattle.sw_query.specs.declared.refusal.Refusal.{Refusal}
use Rattle.sw_table.specs.Updates.{rows_then}
use Rattle.sw_set.specs.declared.area.ready.Ready.{Ready}
use Rattle.sw_set.proofs.Preparing.Ends.{noted-stand}
use Rattle.sw_set.proofs.Replying.Told.{if-ok}
use Rattle.sw_set.specs.Merged.{StandsForSame}
use Rattle.sw_set.specs.Prepared.{IsNotedFor, IsPreparedFor, IsSameButBoxes, area_lower, area_upper, is_touched}
use Rattle.sw_set.specs.Shelf.{AreaState, IsSameArea, came_in, logged_rows}
use Rattle.sw_chunks.specs.Cleared.{AreClearedBut, AreEach}
use Rattle.sw_chunks.specs.Heads.{AreUntouchedKept, AreUntouchedSame, IsRanged}
use Rattle.sw_chunks.specs.Asked.{AreaFits, AreasFit, IsOneAsked, with_all, with_area}
use Rattle.sw_chunks.proofs.Asking.{get-any, next-fits, rest-all, rest-fits, set-many, set-other, set-same}

-- The areas before a place were asked, so that their bounds stand in ranges where none scanned; of the others maps may
-- have been cleared.
pub record AreAskedBefore (q : Query) (k : ℕ) (xs ys : List AreaState) (scans : ℕ) : Type 0 where
  pub same : AreEach StandsForSame xs ys
  pub kept : AreUntouchedKept q xs ys
  pub left : (j : ℕ) (d e : AreaState) → k ≤ j → j < length xs → IsSameButBoxes (get_or xs j d) (get_or ys j e)
  pub ranged : scans ≡ 0 → (j : ℕ) (e : AreaState) → j < k → j < length xs → IsRanged q (get_or ys j e)

-- an area is the same as itself but for its boxes
pub boxes-alike : (x : AreaState) → IsSameButBoxes x x
boxes-alike x = record { attribute = refl; from = refl; below = refl; inbox = refl; spare = refl; tape = refl; many = refl }

-- being the same area but for its boxes is transitive
pub boxes-both : (x y z : AreaState) → IsSameButBoxes x y → IsSameButBoxes y z → IsSameButBoxes x z
boxes-both x y z a b =
    record {
      attribute = b.attribute ∙ a.attribute;
      from = b.from ∙ a.from;
      below = b.below ∙ a.below;
      inbox = b.inbox ∙ a.inbox;
      spare = b.spare ∙ a.spare;
      tape = b.tape ∙ a.tape;
      many = b.many ∙ a.many;
    }

-- an area stands for the same rows as itself
pub stands-alike : (x : AreaState) → StandsForSame x x
stands-alike x = record { attribute = refl; from = refl; below = refl; rows = refl; many = refl; brings = λ n h. h }

-- standing for the same rows is transitive
pub stands-both : (x y z : AreaState) → StandsForSame x y → StandsForSame y z → StandsForSame x z
stands-both x y z a b =
    record {
      attribute = b.attribute ∙ a.attribute;
      from = b.from ∙ a.from;
      below = b.below ∙ a.below;
      rows = b.rows ∙ a.rows;
      many = b.many ∙ a.many;
      brings = λ n h. b.brings n (a.brings n h);
    }

-- an area of which the boxes alone changed stands for the same rows
pub boxes-stand : (x y : AreaState) → IsSameButBoxes x y → StandsForSame x y
boxes-stand x y w =
    record {
      attribute = w.attribute;
      from = w.from;
      below = w.below;
      rows = rw (w.attribute, w.tape, w.inbox) refl;
      many = w.many;
      brings = λ n h. subst (λ (l : List Row). All (λ (r : Row). r.key < n) l) (sym came) h;
    }
  where
    came : came_in y ≡ came_in x
    came = rw (w.tape, w.inbox) refl

-- a range that was noted stands
pub ranged-of : (q : Query) (x y : AreaState) → length x.tape ≤ 4096 → y.from ≡ x.from → y.below ≡ x.below → IsNotedFor q x y.tape → IsRanged q y
ranged-of q x y few from below w t = rw (from, below) (noted-stand (area_lower x q) (area_upper x q) (logged_rows x.attribute x.tape) x.tape y.tape few (w.touched (sym same ∙ t)))
  where
    same : is_touched y q ≡ is_touched x q
    same = rw (from, below) refl

-- an area of which boxes and tape changed, but not the tape's live rows, stands for the same rows
pub area-stands : (x y : AreaState) → IsSameArea x y → StandsForSame x y
area-stands x y w =
    record { attribute = w.attribute; from = w.from; below = w.below; rows = ap (λ l. fold rows_then l y.inbox) w.logged ∙ ap (fold rows_then (logged_rows x.attribute x.tape)) w.inbox; many = w.many; brings = w.brings }

-- an area that is told to be prepared is so, and the query's bounds stand in ranges of its tape
pub ready-told : (q : Query) (x y : AreaState) (told : Result Ready Refusal) (R : Refusal → Type 0) → length x.tape ≤ 4096 → IsSameArea x y → MatchResult told (λ r. IsNotedFor q x y.tape × IsPreparedFor q y r.from r.upto) R → IfOk told (λ r. IsPreparedFor q y r.from r.upto × IsRanged q y)
ready-told q x y told R few same w =
    if-ok (λ r. IsNotedFor q x y.tape × IsPreparedFor q y r.from r.upto) (λ r. IsPreparedFor q y r.from r.upto × IsRanged q y) R told
    (λ r both. (both.1, ranged-of q x y few same.from same.below both.0)) w

-- a query touches an area just where it touches one that stands for the same rows
pub touched-same : (q : Query) (x y : AreaState) → StandsForSame x y → is_touched y q ≡ is_touched x q
touched-same q x y w = rw (w.from, w.below) refl

-- bounds that stand in ranges of a tape do so when the boxes alone have changed
pub ranged-same : (q : Query) (x y : AreaState) → IsSameButBoxes x y → IsRanged q x → IsRanged q y
ranged-same q x y w h t = rw (w.from, w.below, w.tape) (h (sym (touched-same q x y (boxes-stand x y w)) ∙ t))

-- with the same rows an area adds the same reply
pub with-same : (q : Query) (first : Reply) (x y : AreaState) → StandsForSame x y → with_area q first y ≡ with_area q first x
with-same q first x y w = rw (w.from, w.below, w.rows) refl

same-place : (j k : ℕ) → nat_eq j k ≡ true → j ≡ k
same-place j k q = grind (arith, nat_tests, q)

other-place : (j k : ℕ) → nat_eq j k ≡ false → j ≡ k → ⊥
other-place j k q e = grind (arith, nat_tests, q, e)

lower-place : (j k : ℕ) → nat_eq j k ≡ false → j < k + 1 → j < k
lower-place j k q lt = grind (arith, nat_tests, q, lt)

-- before the first area is asked the areas are as they were
pub asked-none : (q : Query) (scans : ℕ) (xs : List AreaState) → AreAskedBefore q 0 xs xs scans
asked-none q scans xs =
    record {
      same = (refl, λ k d e lt. subst (StandsForSame (get_or xs k d)) (get-any xs k d e lt) (stands-alike (get_or xs k d)));
      kept = λ k d e lt t. subst (IsSameButBoxes (get_or xs k d)) (get-any xs k d e lt) (boxes-alike (get_or xs k d));
      left = λ k d e le lt. subst (IsSameButBoxes (get_or xs k d)) (get-any xs k d e lt) (boxes-alike (get_or xs k d));
      ranged = λ z j e lt l. absurd (omega (arith, lt));
    }

-- an area and the others, one asked
one-place : (k : ℕ) (ys zs : List AreaState) → IsOneAsked k ys zs → (j : ℕ) (d e : AreaState) → j < length ys → StandsForSame (get_or ys j d) (get_or zs j e)
one-place k ys zs w j d e lt = by (nat_eq j k) refl
  where
    by : (t : Bool) → nat_eq j k ≡ t → StandsForSame (get_or ys j d) (get_or zs j e)
    by true q = subst (λ (n : ℕ). StandsForSame (get_or ys n d) (get_or zs n e)) (sym (same-place j k q)) (w.here d e)
    by false q = boxes-stand (get_or ys j d) (get_or zs j e) (w.others j d e lt (other-place j k q))

-- with the next area asked, and its scan counted, one area more was asked
pub asked-next : (q : Query) (k : ℕ) (xs ys zs : List AreaState) (scans more : ℕ) (scanned : Bool) → k < length xs → AreAskedBefore q k xs ys scans → IsOneAsked k ys zs → ((d : AreaState) → is_touched (get_or ys k d) q ≡ false → zs ≡ ys) → (scanned ≡ false → (d : AreaState) → IsRanged q (get_or zs k d)) → (more ≡ 0 → (scans ≡ 0) × (scanned ≡ false)) → AreAskedBefore q (k + 1) xs zs more
asked-next q k xs ys zs scans more scanned lt w one still ranged none =
    record {
      same = (one.many ∙ w.same.0, λ j d e l. stands-both (get_or xs j d) (get_or ys j d) (get_or zs j e) (w.same.1 j d d l) (one-place k ys zs one j d e (within j l)));
      kept = kept;
      left = λ j d e le l. boxes-both (get_or xs j d) (get_or ys j d) (get_or zs j e) (w.left j d d (omega (arith, le)) l) (one.others j d e (within j l) (λ e. absurd (omega (arith, le, e))));
      ranged = done;
    }
  where
    within : (j : ℕ) → j < length xs → j < length ys
    within j l = let m = w.same.0 in omega (arith, l, m)

    kept : AreUntouchedKept q xs zs
    kept j d e l t = by (nat_eq j k) refl
      where
        untouched : is_touched (get_or ys j d) q ≡ false
        untouched = touched-same q (get_or xs j d) (get_or ys j d) (w.same.1 j d d l) ∙ t

        by : (b : Bool) → nat_eq j k ≡ b → IsSameButBoxes (get_or xs j d) (get_or zs j e)
        by true p =
            subst (λ (l : List AreaState). IsSameButBoxes (get_or xs j d) (get_or l j e))
            (sym (still d (subst (λ (n : ℕ). is_touched (get_or ys n d) q ≡ false) (same-place j k p) untouched))) (w.kept j d e l t)
        by false p = boxes-both (get_or xs j d) (get_or ys j d) (get_or zs j e) (w.kept j d d l t) (one.others j d e (within j l) (other-place j k p))

    done : more ≡ 0 → (j : ℕ) (e : AreaState) → j < k + 1 → j < length xs → IsRanged q (get_or zs j e)
    done z j e below l = by (nat_eq j k) refl
      where
        by : (b : Bool) → nat_eq j k ≡ b → IsRanged q (get_or zs j e)
        by true p = subst (λ (n : ℕ). IsRanged q (get_or zs n e)) (sym (same-place j k p)) (ranged (none z).1 e)
        by false p = ranged-same q (get_or ys j e) (get_or zs j e) (one.others j e e (within j l) (other-place j k p)) (w.ranged (none z).0 j e (lower-place j k p below) l)

-- when all areas were asked and none scanned, the query's bounds stand in ranges of each that it touches
pub all-asked : (q : Query) (k : ℕ) (xs ys : List AreaState) (scans : ℕ) → length xs ≤ k → AreAskedBefore q k xs ys scans → scans ≡ 0 → All (IsRanged q) ys
all-asked q k xs ys scans le w z j d lt = let m = w.same.0 in w.ranged z j d (omega (arith, lt, m, le)) (omega (arith, lt, m))

-- the replies so far, and that of the next area
pub reply-next : (q : Query) (k : ℕ) (xs ys : List AreaState) (first both whole : Reply) (scans : ℕ) → k < length xs → AreAskedBefore q k xs ys scans → ((d : AreaState) → both ≡ with_area q first (get_or ys k d)) → with_all q first (drop k xs) ≡ whole → AreasFit q first (drop k xs) → AreaState → (with_all q both (drop (k + 1) xs) ≡ whole) × AreasFit q both (drop (k + 1) xs)
reply-next q k xs ys first both whole scans lt w is all fits d =
    let next : with_area q first (get_or xs k d) ≡ both = sym (with-same q first (get_or xs k d) (get_or ys k d) (w.same.1 k d d lt)) ∙ sym (is d) in
    (ap (λ r. with_all q r (drop (k + 1) xs)) (sym next) ∙ (rest-all q first xs k d lt ∙ all), subst (λ (r : Reply). AreasFit q r (drop (k + 1) xs)) next (rest-fits q first xs k d lt fits))

-- the next area's reply fits although areas were asked before it
pub fits-here : (q : Query) (k : ℕ) (xs ys : List AreaState) (first : Reply) (scans : ℕ) → k < length xs → AreAskedBefore q k xs ys scans → AreasFit q first (drop k xs) → (d : AreaState) → AreaFits q first (get_or ys k d)
fits-here q k xs ys first scans lt w fits d t =
    let s = w.same.1 k d d lt in
    rw s.rows (next-fits q first xs k d lt fits (sym (touched-same q (get_or xs k d) (get_or ys k d) s) ∙ t))

-- one area alone is asked
pub one-set : (k : ℕ) (ys : List AreaState) (v : AreaState) → k < length ys → ((d : AreaState) → StandsForSame (get_or ys k d) v) → IsOneAsked k ys (slice_set ys k v)
one-set k ys v lt same =
    record {
      many = set-many ys k v;
      here = λ d e. subst (StandsForSame (get_or ys k d)) (sym (set-same ys k v e lt)) (same d);
      others = λ j d e l ne. subst (IsSameButBoxes (get_or ys j d)) (get-any ys j d e l ∙ sym (set-other ys k j v e ne)) (boxes-alike (get_or ys j d));
    }

-- an area set where it stands already leaves all as they were
pub set-self : (xs : List AreaState) (k : ℕ) (v : AreaState) → get_or xs k v ≡ v → slice_set xs k v ≡ xs
set-self [] k v e = refl
set-self (x ∷ xs) zero v e = ap (λ t. t ∷ xs) (sym e)
set-self (x ∷ xs) (suc k) v e = ap (λ l. x ∷ l) (set-self xs k v e)

-- one area more was scanned
pub scanned-next : (q : Query) (k : ℕ) (xs ys : List AreaState) (area v : AreaState) → k < length xs → AreAskedBefore q k xs ys 1 → get_or ys k area ≡ area → StandsForSame area v → (is_touched area q ≡ false → v ≡ area) → AreAskedBefore q (k + 1) xs (slice_set ys k v) 1
scanned-next q k xs ys area v lt w here same kept =
    asked-next q k xs ys (slice_set ys k v) 1 1 true lt w (one-set k ys v within stands) still (λ f. absurd (true≢false f)) (λ z. absurd (omega (arith, z)))
  where
    within : k < length ys
    within = let m = w.same.0 in omega (arith, lt, m)

    at : (d : AreaState) → get_or ys k d ≡ area
    at d = get-any ys k d area within ∙ here

    stands : (d : AreaState) → StandsForSame (get_or ys k d) v
    stands d = subst (λ (t : AreaState). StandsForSame t v) (sym (at d)) same

    still : (d : AreaState) → is_touched (get_or ys k d) q ≡ false → slice_set ys k v ≡ ys
    still d t = let e : v ≡ area = kept (subst (λ (s : AreaState). is_touched s q ≡ false) (at d) t) in set-self ys k v (at v ∙ sym e)

-- an area that is not touched is what it was
pub untouched-next : (q : Query) (k : ℕ) (xs ys : List AreaState) (area v : AreaState) → k < length xs → AreAskedBefore q k xs ys 1 → get_or ys k area ≡ area → (is_touched area q ≡ false → v ≡ area) → AreUntouchedSame q xs ys → AreUntouchedSame q xs (slice_set ys k v)
untouched-next q k xs ys area v lt w here kept same j d e l t = by (nat_eq j k) refl
  where
    within : k < length ys
    within = let m = w.same.0 in omega (arith, lt, m)

    at : (d : AreaState) → get_or ys k d ≡ area
    at d = get-any ys k d area within ∙ here

    was : get_or ys j area ≡ get_or xs j d
    was = same j d area l t

    by : (b : Bool) → nat_eq j k ≡ b → get_or (slice_set ys k v) j e ≡ get_or xs j d
    by true p =
        let i : j ≡ k = same-place j k p in
        let its : get_or xs j d ≡ area = sym was ∙ (ap (λ n. get_or ys n area) i ∙ at area) in
        ap (λ n. get_or (slice_set ys k v) n e) i ∙ (set-same ys k v e within ∙ (kept (ap (λ (x : AreaState). is_touched x q) (sym its) ∙ t) ∙ sym its))
    by false p = set-other ys k j v e (other-place j k p) ∙ same j d e l t

-- areas that have not changed are, where untouched, what they were
pub untouched-none : (q : Query) (xs : List AreaState) → AreUntouchedSame q xs xs
untouched-none q xs k d e lt t = get-any xs k e d lt

-- some area, where there is one
pub an-area : (xs : List AreaState) (k : ℕ) → k < length xs → AreaState
an-area [] k lt = absurd (omega (arith, lt))
an-area (x ∷ xs) k lt = x

-- one after the other
pub one-both : (k : ℕ) (xs ys zs : List AreaState) → IsOneAsked k xs ys → IsOneAsked k ys zs → IsOneAsked k xs zs
one-both k xs ys zs a b =
    record {
      many = b.many ∙ a.many;
      here = λ d e. stands-both (get_or xs k d) (get_or ys k d) (get_or zs k e) (a.here d d) (b.here d e);
      others = λ j d e l ne. boxes-both (get_or xs j d) (get_or ys j d) (get_or zs j e) (a.others j d d l ne) (b.others j d e (let m = a.many in omega (arith, l, m)) ne);
    }

-- maps of the others were cleared
cleared-one : (k cells came : ℕ) (xs ys : List AreaState) → k < length xs → AreClearedBut k cells xs ys came → IsOneAsked k xs ys
cleared-one k cells came xs ys lt w =
    record {
      many = w.same.0;
      here = λ d e. subst (StandsForSame (get_or xs k d)) (sym (w.kept d e lt)) (stands-alike (get_or xs k d));
      others = λ j d e l ne. w.same.1 j d e l;
    }

-- an area set to one that stands for the same rows is one that was asked alone
pub set-one : (k : ℕ) (xs : List AreaState) (r v : AreaState) → k < length xs → StandsForSame (get_or xs k r) v → IsOneAsked k xs (slice_set xs k v)
set-one k xs r v lt same = one-set k xs v lt (λ d. subst (λ (t : AreaState). StandsForSame t v) (get-any xs k r d lt) same)

-- an area that was asked, and once more after maps of the others were cleared
pub asked-again : (k cells came : ℕ) (xs ys : List AreaState) (r v s u : AreaState) → k < length xs → StandsForSame (get_or xs k r) v → AreClearedBut k cells (slice_set xs k v) ys came → StandsForSame (get_or ys k s) u → IsOneAsked k xs (slice_set ys k u)
asked-again k cells came xs ys r v s u lt first cleared again =
    let within : k < length (slice_set xs k v) = let m = set-many xs k v in omega (arith, lt, m) in
    let after : k < length ys = let m = cleared.same.0 in omega (arith, within, m) in
    one-both k xs (slice_set xs k v) (slice_set ys k u) (set-one k xs r v lt first)
    (one-both k (slice_set xs k v) ys (slice_set ys k u) (cleared-one k cells came (slice_set xs k v) ys within cleared) (set-one k ys s u after again))
