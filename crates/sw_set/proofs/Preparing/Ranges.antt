-- The range of places that a prepared area gives is that of the rows that meet the condition on the head.
use Rattle.std.proofs.Common.{◌≡◌, ℕ, ℤ, ◌+◌, ◌-◌, ◌<◌, ◌≤◌, ◌&&◌, not, Bool, true, false, true≢false, if◌then◌else◌, List, [], ◌∷◌, length, get_or, map, take, drop, fold, refl, ap, sym, ◌∙◌, arith, subst, All, Any, Contains, Option, Some, None}
use Rattle.std.specs.List.{AllByRecursion, IsDistinct, slice_range}
use Rattle.std.specs.Prelude.{nat_eq}
use Rattle.std.proofs.lemmas.List.{drop-take}
use Rattle.std.proofs.lemmas.List.Elements.{All-drop, All-take}
use Rattle.sw_query.specs.declared.bound.Bound.{Bound}
use Rattle.sw_query.specs.declared.bound.Bound.TheVariants.{Before, After}
use Rattle.sw_query.specs.declared.query.Cond.{Cond}
use Rattle.sw_query.specs.declared.query.Query.{Query}
use Rattle.sw_table.specs.declared.row.Row.{Row}
use Rattle.sw_table.specs.declared.row.Update.{Update}
use Rattle.sw_table.specs.Updates.{rows_then}
use Rattle.sw_query.specs.Bounds.{bound_below, is_above, is_below, is_left, is_within}
use Rattle.sw_query.specs.Scan.{cell_of}
use Rattle.sw_kernel.specs.Replay.{Step}
use Rattle.sw_kernel.specs.Tapes.{HoldsOnce, IsTape, brought}
use Rattle.sw_kernel.proofs.Once.{held-replay, once-from_held}
use Rattle.sw_map.specs.declared.tail.Tail.{Tail}
use Rattle.sw_map.specs.Lawful.{rows_by}
use Rattle.sw_map.proofs.Replays.{place-sound, place-within, places-rise}
use Rattle.sw_set.specs.Needs.{edge, needed, head_in, spans, lower_from, lower_in, touches, upper_in, upper_upto}
use Rattle.sw_set.specs.Shelf.{AreaState, IsAreaLawful, Rises, key_of, lies_within, logged_rows, rows_in}
use Rattle.sw_set.specs.Prepared.{IsPlace, IsPrepared, IsPreparedFor, IsReady, is_touched}
use Rattle.sw_set.specs.Choice.{IsRun, meets_first, shown_rows}
use Rattle.sw_set.proofs.Areas.Boxes.{get_or_any}
use Rattle.sw_set.proofs.Preparing.Ends.{stands-left, stands-right}

-- ---- each live row once
above-other : (k : ℕ) (rows : List Row) → AllByRecursion (λ (y : Row). k < key_of y) rows → AllByRecursion (λ (n : ℕ). nat_eq k n ≡ false) (map key_of rows)
above-other k [] h = tt
above-other k (r ∷ rs) h = (let p = h.0 in differ k r.key p, above-other k rs h.1)
  where
    differ : (k n : ℕ) → k < n → nat_eq k n ≡ false
    differ k n lt = grind (arith, lt)

-- of rows that rise by key no two have the same key
pub rising-distinct : (rows : List Row) → Rises key_of rows → IsDistinct nat_eq (map key_of rows)
unfolding IsDistinct
rising-distinct [] h = tt
rising-distinct (r ∷ rs) h = (above-other r.key rs h.0, rising-distinct rs h.1)

-- the rows that maps show at the tape's end are the live rows, each once
pub held-once : (x : AreaState) → IsAreaLawful x → HoldsOnce key_of (shown_rows x.attribute x.tape) (logged_rows x.attribute x.tape)
held-once x w = once-from_held key_of _ _ (held-replay (cell_of x.attribute) key_of x.tape w.tape (rising-distinct (brought x.tape) w.brought_rise))

-- so they lie in the interval
pub all-within : (x : AreaState) → IsAreaLawful x → All (λ (r : Row). lies_within x.attribute x.from x.below r ≡ true) (shown_rows x.attribute x.tape)
all-within x w k d lt =
    let c = (held-once x w).no_more (get_or (shown_rows x.attribute x.tape) k d) (k, lt, get_or_any (shown_rows x.attribute x.tape) k _ d lt) in
    subst (λ (r : Row). lies_within x.attribute x.from x.below r ≡ true) c.2 (w.within c.0 _ c.1)

-- ---- bounds within an interval
-- a bound at or below the interval's start has no cell of the interval on its left
clip-lower : (start lower : Option Bound) (v : ℤ) → is_above start v ≡ true → is_above (lower_from start lower) v ≡ is_above lower v
clip-lower start None v h = refl
clip-lower None (Some b) v h = refl
clip-lower (Some s) (Some b) v h = by (bound_below s b) refl
  where
    none : (s b : Bound) → bound_below s b ≡ false → not (is_left s v) ≡ true → true ≡ not (is_left b v)
    none (Before x) (Before y) p q = grind (arith, p, q)
    none (Before x) (After y) p q = grind (arith, p, q)
    none (After x) (Before y) p q = grind (arith, p, q)
    none (After x) (After y) p q = grind (arith, p, q)

    by : (t : Bool) → bound_below s b ≡ t → is_above (if bound_below s b then Some b else None) v ≡ is_above (Some b) v
    by true p = ap (λ t. is_above (if t then Some b else None) v) p
    by false p = ap (λ t. is_above (if t then Some b else None) v) p ∙ none s b p h

clip-upper : (end upper : Option Bound) (v : ℤ) → is_below end v ≡ true → is_below (upper_upto end upper) v ≡ is_below upper v
clip-upper end None v h = refl
clip-upper None (Some b) v h = refl
clip-upper (Some e) (Some b) v h = by (bound_below b e) refl
  where
    all : (e b : Bound) → bound_below b e ≡ false → is_left e v ≡ true → true ≡ is_left b v
    all (Before x) (Before y) p q = grind (arith, p, q)
    all (Before x) (After y) p q = grind (arith, p, q)
    all (After x) (Before y) p q = grind (arith, p, q)
    all (After x) (After y) p q = grind (arith, p, q)

    by : (t : Bool) → bound_below b e ≡ t → is_below (if bound_below b e then Some b else None) v ≡ is_below (Some b) v
    by true p = ap (λ t. is_below (if t then Some b else None) v) p
    by false p = ap (λ t. is_below (if t then Some b else None) v) p ∙ all e b p h

-- ---- two bounds that a value lies between are in order
pub between : (lower upper : Option Bound) (v : ℤ) → is_above lower v ≡ true → is_below upper v ≡ true → spans lower upper ≡ true
between None upper v p q = refl
between (Some b) None v p q = refl
between (Some (Before x)) (Some (Before y)) v p q = grind (arith, p, q)
between (Some (Before x)) (Some (After y)) v p q = grind (arith, p, q)
between (Some (After x)) (Some (Before y)) v p q = grind (arith, p, q)
between (Some (After x)) (Some (After y)) v p q = grind (arith, p, q)

and-both : (s t : Bool) → s ≡ true → t ≡ true → s && t ≡ true
and-both s t p q = ap (λ v. v && t) p ∙ q

-- a range that does not meet the interval has no value of it
pub untouched-none : (start end lower upper : Option Bound) (v : ℤ) → touches start end lower upper ≡ false → is_within start end v ≡ true → is_within lower upper v ≡ false
untouched-none start end lower upper v off w = by (is_within lower upper v) refl
  where
    by : (t : Bool) → is_within lower upper v ≡ t → is_within lower upper v ≡ false
    by false q = q
    by true q =
        let above = stands-left (is_above lower v) (is_below upper v) q in
        let below = stands-right (is_above lower v) (is_below upper v) q in
        let first = stands-left (is_above start v) (is_below end v) w in
        let last = stands-right (is_above start v) (is_below end v) w in
        let yes = and-both _ _ (between lower upper v above below) (and-both _ _ (between lower end v above last) (between start upper v first below)) in
        absurd (true≢false (sym yes ∙ off))

-- ---- the places of a range's bounds part the rows
flip-true : (b : Bool) → b ≡ true → not b ≡ false
flip-true b e = ap not e

flip-false : (b : Bool) → b ≡ false → not b ≡ true
flip-false b e = ap not e

lower-before : (a : ℕ) (tape : List (Step Row)) (lower : Option Bound) (from : ℕ) → IsTape tape → IsPlace lower 0 (rows_by a tape) from → All (λ (r : Row). is_above lower (cell_of a r) ≡ false) (take from (shown_rows a tape))
lower-before a tape None from t is k d lt = let no : k < length (take 0 (shown_rows a tape)) = subst (λ (n : ℕ). k < length (take n (shown_rows a tape))) is lt in absurd (omega (arith, no))
lower-before a tape (Some b) from t is k d lt = flip-true _ ((place-sound a tape b from t is).before k d lt)

lower-behind : (a : ℕ) (tape : List (Step Row)) (lower : Option Bound) (from : ℕ) → IsTape tape → IsPlace lower 0 (rows_by a tape) from → All (λ (r : Row). is_above lower (cell_of a r) ≡ true) (drop from (shown_rows a tape))
lower-behind a tape None from t is k d lt = refl
lower-behind a tape (Some b) from t is k d lt = flip-false _ ((place-sound a tape b from t is).behind k d lt)

upper-before : (a : ℕ) (tape : List (Step Row)) (upper : Option Bound) (absent upto : ℕ) → IsTape tape → IsPlace upper absent (rows_by a tape) upto → All (λ (r : Row). is_below upper (cell_of a r) ≡ true) (take upto (shown_rows a tape))
upper-before a tape None absent upto t is k d lt = refl
upper-before a tape (Some b) absent upto t is k d lt = (place-sound a tape b upto t is).before k d lt

drop-all : {X : Type 0} (xs : List X) → length (drop (length xs) xs) ≡ 0
drop-all [] = refl
drop-all (x ∷ xs) = drop-all xs

upper-behind : (a : ℕ) (tape : List (Step Row)) (upper : Option Bound) (upto : ℕ) → IsTape tape → IsPlace upper (length (shown_rows a tape)) (rows_by a tape) upto → All (λ (r : Row). is_below upper (cell_of a r) ≡ false) (drop upto (shown_rows a tape))
upper-behind a tape None upto t is k d lt =
    let no : k < length (drop (length (shown_rows a tape)) (shown_rows a tape)) = subst (λ (n : ℕ). k < length (drop n (shown_rows a tape))) is lt in
    let none = drop-all (shown_rows a tape) in
    absurd (omega (arith, no, none))
upper-behind a tape (Some b) upto t is k d lt = (place-sound a tape b upto t is).behind k d lt

places-ordered : (a : ℕ) (tape : List (Step Row)) (lower upper : Option Bound) (from upto : ℕ) → spans lower upper ≡ true → IsPlace lower 0 (rows_by a tape) from → IsPlace upper (length (shown_rows a tape)) (rows_by a tape) upto → from ≤ upto
places-ordered a tape None upper from upto before is ut = omega (arith, is)
places-ordered a tape (Some b) None from upto before is ut = let le = place-within b from (rows_by a tape) is in omega (arith, le, ut)
places-ordered a tape (Some b) (Some c) from upto before is ut = places-rise a tape b c from upto before is ut

places-within : (a : ℕ) (tape : List (Step Row)) (upper : Option Bound) (upto : ℕ) → IsPlace upper (length (shown_rows a tape)) (rows_by a tape) upto → upto ≤ length (shown_rows a tape)
places-within a tape None upto is = omega (arith, is)
places-within a tape (Some b) upto is = place-within b upto (rows_by a tape) is

and-false_left : (s t : Bool) → s ≡ false → s && t ≡ false
and-false_left s t e = ap (λ v. v && t) e

and-false_right : (s t : Bool) → t ≡ false → s && t ≡ false
and-false_right true t e = e
and-false_right false t e = refl

slice-high : {X : Type 0} (P : X → Type 0) (from upto : ℕ) (xs : List X) → All P (drop from xs) → All P (slice_range xs from upto)
slice-high P from upto xs all = All-take P (upto - from) (drop from xs) all

slice-low : {X : Type 0} (P : X → Type 0) (from upto : ℕ) (xs : List X) → from ≤ upto → All P (take upto xs) → All P (slice_range xs from upto)
slice-low P from upto xs le all =
    let n : from + (upto - from) ≡ upto = omega (arith, le) in
    subst (All P) (drop-take from (upto - from) xs) (All-drop P from (take (from + (upto - from)) xs) (subst (λ (k : ℕ). All P (take k xs)) (sym n) all))

-- the rows between two bounds' places are those between the bounds
pub run-of : (a : ℕ) (tape : List (Step Row)) (lower upper : Option Bound) (from upto : ℕ) → IsTape tape → spans lower upper ≡ true → IsPlace lower 0 (rows_by a tape) from → IsPlace upper (length (shown_rows a tape)) (rows_by a tape) upto → IsRun (λ (r : Row). is_within lower upper (cell_of a r)) (shown_rows a tape) from upto
run-of a tape lower upper from upto t before lo hi = record {
  ordered = places-ordered a tape lower upper from upto before lo hi;
  within = places-within a tape upper upto hi;
  before = λ k d lt. and-false_left _ _ (lower-before a tape lower from t lo k d lt);
  inside = λ k d lt. and-both _ _ (slice-high (λ (r : Row). is_above lower (cell_of a r) ≡ true) from upto (shown_rows a tape) (lower-behind a tape lower from t lo) k d lt) (slice-low (λ (r : Row). is_below upper (cell_of a r) ≡ true) from upto (shown_rows a tape) (places-ordered a tape lower upper from upto before lo hi) (upper-before a tape upper (length (shown_rows a tape)) upto t hi) k d lt);
  behind = λ k d lt. and-false_right _ _ (upper-behind a tape upper upto t hi k d lt);
}

-- ---- the range of a query
-- bounds that are in order are so within an interval
clipped-before : (start end lower upper : Option Bound) → spans lower upper ≡ true → spans (lower_from start lower) (upper_upto end upper) ≡ true
clipped-before start end lower upper before = by (lower_from start lower) (upper_upto end upper) (kept-lower start lower) (kept-upper end upper)
  where
    kept-lower : (start lower : Option Bound) (b : Bound) → lower_from start lower ≡ Some b → lower ≡ Some b
    kept-lower start None b e = e
    kept-lower None (Some c) b e = e
    kept-lower (Some s) (Some c) b e = go (bound_below s c) refl
      where
        go : (t : Bool) → bound_below s c ≡ t → Some c ≡ Some b
        go true q = sym (ap (λ t. if t then Some c else None) q) ∙ e
        go false q = absurd (none-is-not (sym (ap (λ t. if t then Some c else None) q) ∙ e))
          where
            none-is-not : None ≡ Some b → ⊥
            none-is-not p = cc

    kept-upper : (end upper : Option Bound) (b : Bound) → upper_upto end upper ≡ Some b → upper ≡ Some b
    kept-upper end None b e = e
    kept-upper None (Some c) b e = e
    kept-upper (Some s) (Some c) b e = go (bound_below c s) refl
      where
        go : (t : Bool) → bound_below c s ≡ t → Some c ≡ Some b
        go true q = sym (ap (λ t. if t then Some c else None) q) ∙ e
        go false q = absurd (none-is-not (sym (ap (λ t. if t then Some c else None) q) ∙ e))
          where
            none-is-not : None ≡ Some b → ⊥
            none-is-not p = cc

    by : (lo hi : Option Bound) → ((b : Bound) → lo ≡ Some b → lower ≡ Some b) → ((b : Bound) → hi ≡ Some b → upper ≡ Some b) → spans lo hi ≡ true
    by None hi l u = refl
    by (Some b) None l u = refl
    by (Some b) (Some c) l u = sym (ap (λ (o : Option Bound). spans o (Some c)) (l b refl)) ∙ ap (spans lower) (sym (u c refl)) ∙ before

-- a row of the interval meets the first condition just where it lies between the clipped bounds
first-clipped : (x : AreaState) (cs : List Cond) (r : Row) → head_in cs ≡ x.attribute → lies_within x.attribute x.from x.below r ≡ true → meets_first cs r ≡ is_within (lower_from (edge x.from) (lower_in cs)) (upper_upto (edge x.below) (upper_in cs)) (cell_of x.attribute r)
first-clipped x [] r head w = refl
first-clipped x (c ∷ cs) r head w =
    let v = cell_of x.attribute r in
    ap (λ (n : ℕ). is_within c.lower c.upper (cell_of n r)) head
    ∙ ap (λ t. t && is_below c.upper v) (sym (clip-lower (edge x.from) c.lower v (stands-left _ _ w)))
    ∙ ap (λ t. is_above (lower_from (edge x.from) c.lower) v && t) (sym (clip-upper (edge x.below) c.upper v (stands-right _ _ w)))

-- a run of one test is a run of another that says the same of each item
run-same : {X : Type 0} (p q : X → Bool) (xs : List X) (from upto : ℕ) → All (λ (x : X). p x ≡ q x) xs → IsRun q xs from upto → IsRun p xs from upto
run-same p q xs from upto same run = record {
  ordered = run.ordered;
  within = run.within;
  before = λ k d lt. All-take (λ x. p x ≡ q x) from xs same k d lt ∙ run.before k d lt;
  inside = λ k d lt. slice-high (λ x. p x ≡ q x) from upto xs (All-drop (λ x. p x ≡ q x) from xs same) k d lt ∙ run.inside k d lt;
  behind = λ k d lt. All-drop (λ x. p x ≡ q x) upto xs same k d lt ∙ run.behind k d lt;
}

-- the range of a prepared area is that of the rows that meet the first condition
pub prepared-run : (x : AreaState) (cs : List Cond) (tails : List Tail) (from upto : ℕ) → IsAreaLawful x → head_in cs ≡ x.attribute → touches (edge x.from) (edge x.below) (lower_in cs) (upper_in cs) ≡ true → IsPrepared (lower_from (edge x.from) (lower_in cs)) (upper_upto (edge x.below) (upper_in cs)) tails x from upto → IsRun (meets_first cs) (shown_rows x.attribute x.tape) from upto
prepared-run x cs tails from upto w head touched p =
    let lower = lower_from (edge x.from) (lower_in cs) in
    let upper = upper_upto (edge x.below) (upper_in cs) in
    let before = clipped-before (edge x.from) (edge x.below) (lower_in cs) (upper_in cs) (stands-left _ _ touched) in
    run-same (meets_first cs) (λ (r : Row). is_within lower upper (cell_of x.attribute r)) (shown_rows x.attribute x.tape) from upto
    (λ k d lt. first-clipped x cs (get_or (shown_rows x.attribute x.tape) k d) head (all-within x w k d lt))
    (run-of x.attribute x.tape lower upper from upto w.tape before p.lower_at p.upper_at)

-- no row of an area that is not touched meets the first condition
pub untouched-first : (x : AreaState) (cs : List Cond) (r : Row) → head_in cs ≡ x.attribute → touches (edge x.from) (edge x.below) (lower_in cs) (upper_in cs) ≡ false → lies_within x.attribute x.from x.below r ≡ true → meets_first cs r ≡ false
untouched-first x [] r head off w = absurd (true≢false (sym (none-upper (edge x.from)) ∙ off))
  where
    none-upper : (b : Option Bound) → spans b None ≡ true
    none-upper None = refl
    none-upper (Some b) = refl
untouched-first x (c ∷ cs) r head off w = ap (λ (n : ℕ). is_within c.lower c.upper (cell_of n r)) head ∙ untouched-none (edge x.from) (edge x.below) c.lower c.upper (cell_of x.attribute r) off w

-- ---- what a prepared area is collected from
by-touched : {P : Type 0} (q : Query) (x : AreaState) → (is_touched x q ≡ true → P) → (is_touched x q ≡ false → P) → P
by-touched {P} q x met other = by (is_touched x q) refl
  where
    by : (t : Bool) → is_touched x q ≡ t → P
    by true e = met e
    by false e = other e

-- where an area is prepared with a range that is not empty, each needed map stands at the tape's end
pub prepared-maps : (q : Query) (x : AreaState) (from upto : ℕ) → IsPreparedFor q x from upto → from < upto → (t : Tail) → Contains (needed x.attribute q) t → Any (IsReady t x.tape) x.boxes
prepared-maps q x from upto p some t need =
    by-touched q x (λ e. (p.touched e).maps t need) (λ e. let none = p.untouched e in let lo = none.0 in let hi = none.1 in absurd (omega (arith, some, lo, hi)))

-- the range of a prepared area, touched or not, is that of the rows that meet the first condition
pub prepared-runs : (q : Query) (x : AreaState) (from upto : ℕ) → IsAreaLawful x → head_in q.conds ≡ x.attribute → IsPreparedFor q x from upto → IsRun (meets_first q.conds) (shown_rows x.attribute x.tape) from upto
prepared-runs q x from upto w head p =
    by-touched q x (λ e. prepared-run x q.conds (needed x.attribute q) from upto w head e (p.touched e)) (λ e. subst (λ (k : ℕ). IsRun (meets_first q.conds) (shown_rows x.attribute x.tape) k upto) (sym (p.untouched e).0) (subst (λ (k : ℕ). IsRun (meets_first q.conds) (shown_rows x.attribute x.tape) 0 k) (sym (p.untouched e).1) (none e)))
  where
    none : is_touched x q ≡ false → IsRun (meets_first q.conds) (shown_rows x.attribute x.tape) 0 0
    none e = record {
      ordered = omega arith;
      within = omega arith;
      before = λ k d lt. absurd (let no : k < 0 = lt in omega (arith, no));
      inside = λ k d lt. absurd (let no : k < 0 = lt in omega (arith, no));
      behind = λ k d lt. untouched-first x q.conds (get_or (shown_rows x.attribute x.tape) k d) head e (all-within x w k d lt);
    }

-- the same of what such an area has inside
pub shown-runs : (q : Query) (v x : AreaState) (from upto : ℕ) → v ≡ x → IsAreaLawful x → head_in q.conds ≡ x.attribute → IsPreparedFor q x from upto → IsRun (meets_first q.conds) (shown_rows v.attribute v.tape) from upto
shown-runs q v x from upto same w head p = subst (λ (a : AreaState). IsRun (meets_first q.conds) (shown_rows a.attribute a.tape) from upto) (sym same) (prepared-runs q x from upto w head p)

-- an area in which nothing waits stands for the live rows of its tape
pub rows-received : (x : AreaState) → x.inbox ≡ [] → rows_in x ≡ logged_rows x.attribute x.tape
rows-received x e = ap (λ (us : List Update). fold rows_then (logged_rows x.attribute x.tape) us) e
