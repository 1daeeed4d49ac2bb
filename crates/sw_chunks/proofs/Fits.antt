-- Replies over areas stay within the bits of a reply when they are joined.
use Rattle.std.proofs.Common.{◌≡◌, ◌<◌, ◌≤◌, ◌+◌, ◌*◌, ◌^◌, ◌+ℤ◌, ◌≤ℤ◌, neg_ℤ, ℕ, suc, ℤ, pos, negsuc, Bool, true, false, ◌&&◌, ◌||◌, List, [], ◌∷◌, ◌++◌, length, map, filter, fold, drop, get_or, refl, sym, ap, ◌∙◌, arith, cond, subst, FitsSigned, All, Option, None, Some}
use Rattle.std.specs.Int.{w128}
use Rattle.std.proofs.lemmas.Int.{ints}
use Rattle.std.proofs.lemmas.List.Elements.{All-from_recursion, All-append}
use Rattle.sw_table.specs.declared.row.Row.{Row}
use Rattle.sw_table.specs.declared.row.Update.{Update}
use Rattle.sw_table.specs.declared.row.Update.TheVariants as update
use Rattle.sw_query.specs.declared.query.Query.{Query}
use Rattle.sw_query.specs.declared.query.Want.{Want}
use Rattle.sw_query.specs.declared.query.Want.TheVariants as want
use Rattle.sw_query.specs.declared.reply.Reply.{Reply}
use Rattle.sw_query.specs.declared.reply.Reply.TheVariants as reply
use Rattle.sw_query.specs.Scan.{answer, answer_over, cell_of, column, matching, meets_all, total}
use Rattle.sw_table.specs.Updates.{rows_of, rows_then, without}
use Rattle.sw_set.specs.Needs.{head_in}
use Rattle.sw_set.specs.Prepared.{is_touched}
use Rattle.sw_set.specs.Shelf.{AreaState, Rises, came_then, key_of, lies_within, rows_in}
use Rattle.sw_set.proofs.Replying.KeyOrder.{rises-filter}
use Rattle.sw_set.proofs.Areas.Longer.{all-without}
use Rattle.sw_set.proofs.Areas.Receiving.{all-left, all-one, all-right}
use Rattle.sw_chunks.specs.Cuts.{Interval, RiseAbove, intervals_from}
use Rattle.sw_chunks.specs.Heads.{AreAreasOf, IsCell, RowFits, StandsFor, interval_of, meets_interval, part_of}
use Rattle.sw_chunks.specs.Asked.{AreaFits, AreasFit, with_area}
use Rattle.sw_chunks.specs.Joined.{JoinFits, joined}
use Rattle.sw_chunks.specs.Routing.{given_by}
use Rattle.sw_chunks.proofs.Together.{before, before-apart, before-upto, joined-part, none-before, none_untouched, rises-on, untouched-part, upto, upto-cut, upto-end}

-- ---- rows with rising keys below a number are as few as that
few-from : (rows : List Row) (low n : ℕ) → low ≤ n → Rises key_of rows → ((k : ℕ) (d : Row) → k < length rows → (low ≤ (get_or rows k d).key) × ((get_or rows k d).key < n)) → length rows + low ≤ n
few-from [] low n le rise in_range = let e : 0 + low ≤ n = omega (arith, le) in e
few-from (r ∷ rows) low n le rise in_range =
    let here = in_range 0 r (omega arith) in let above : All (λ (y : Row). r.key < y.key) rows = All-from_recursion (λ (y : Row). r.key < y.key) rows rise.0 in
    let rest = few-from rows (r.key + 1) n (let b = here.1 in omega (arith, b)) rise.1 (λ k d lt. (let a = above k d lt in omega (arith, a), (in_range (suc k) d (omega (arith, lt))).1)) in
    let a = here.0 in omega (arith, rest, a)

few-rows : (rows : List Row) → Rises key_of rows → All RowFits rows → length rows ≤ 2 ^ 63
few-rows rows rise fit = let h = few-from rows 0 (2 ^ 63) (omega arith) rise (λ k d lt. (omega arith, (fit k d lt).key)) in omega (arith, h)

-- ---- sums
abbrev pub Within : ℕ → ℤ → Type 0
Within n z = (neg_ℤ (pos (2 ^ 63 * n)) ≤ℤ z) × (z ≤ℤ pos (2 ^ 63 * n))

one-more : (n : ℕ) (z y : ℤ) → Within n z → IsCell y → Within (n + 1) (z +ℤ y)
one-more n z y w c = let a = w.0 in let b = w.1 in let e = c.0 in let f = c.1 in (omega (arith, ints, a, e), omega (arith, ints, b, f))

total-from : (a : ℕ) (rows : List Row) (n : ℕ) (z : ℤ) → Within n z → All RowFits rows → Within (length rows + n) (fold ◌+ℤ◌ z (column a rows))
total-from a [] n z w fit = subst (λ (m : ℕ). Within m z) (start n) w
  where
    start : (n : ℕ) → n ≡ 0 + n
    start n = omega arith
total-from a (r ∷ rows) n z w fit =
    subst (λ (m : ℕ). Within m (fold ◌+ℤ◌ (z +ℤ cell_of a r) (column a rows))) (next (length rows) n)
    (total-from a rows (n + 1) (z +ℤ cell_of a r) (one-more n z (cell_of a r) w ((fit 0 r (omega arith)).cells a)) (λ k d lt. fit (suc k) d (omega (arith, lt))))
  where
    next : (m n : ℕ) → m + (n + 1) ≡ suc m + n
    next m n = omega arith

fits-128 : (n : ℕ) (z : ℤ) → n ≤ 2 ^ 63 → Within n z → FitsSigned w128 z
fits-128 n (pos m) le w = record { sfits = let b = w.1 in omega (arith, ints, b, le) }
fits-128 n (negsuc m) le w = record { sfits = let a = w.0 in omega (arith, ints, a, le) }

total-fits : (a : ℕ) (rows : List Row) → Rises key_of rows → All RowFits rows → FitsSigned w128 (total (column a rows))
total-fits a rows rise fit =
    let w = total-from a rows 0 (pos 0) (omega (arith, ints), omega (arith, ints)) fit in let few = few-rows rows rise fit in fits-128 (length rows + 0) (total (column a rows)) (omega (arith, few)) w

-- ---- counts
filter-few : (p : Row → Bool) (rows : List Row) → length (filter p rows) ≤ length rows
filter-few p [] = omega arith
filter-few p (r ∷ rows) = let h = filter-few p rows in elim (p r) as (λ b. length (cond b (r ∷ filter p rows) (filter p rows)) ≤ suc (length rows)) [ true ↦ omega (arith, h) | false ↦ omega (arith, h) ]

all-filter : (P : Row → Type 0) (p : Row → Bool) (rows : List Row) → All P rows → All P (filter p rows)
all-filter P p [] h = h
all-filter P p (r ∷ rows) h = by (p r) (all-filter P p rows (λ k d lt. h (suc k) d (omega (arith, lt))))
  where
    by : (b : Bool) → All P (filter p rows) → All P (cond b (r ∷ filter p rows) (filter p rows))
    by true rest = All-append P (r ∷ []) (filter p rows) (all-one P r (h 0 r (omega arith))) rest
    by false rest = rest

-- ---- two replies that are joined
abbrev pub count-in : Reply → ℕ
count-in (reply.Count n) = n
count-in r = 0

-- the sum that a reply tells, or zero where it tells none
abbrev pub sum-in : Reply → ℤ
sum-in (reply.Sum z) = z
sum-in r = pos 0

fits-want : (w : Want) (xs ys zs : List Row) → joined w (answer_over xs w) (answer_over ys w) ≡ answer_over zs w → length zs < 2 ^ 64 → ((a : ℕ) → FitsSigned w128 (total (column a zs))) → JoinFits w (answer_over xs w) (answer_over ys w)
fits-want (want.Rows names) xs ys zs e few sums = tt
fits-want want.Count xs ys zs e few sums = subst (λ (n : ℕ). n < 2 ^ 64) (sym (ap count-in e)) few
fits-want (want.Sum a) xs ys zs e few sums = subst (FitsSigned w128) (sym (ap sum-in e)) (sums a)
fits-want (want.Min a) xs ys zs e few sums = tt
fits-want (want.Max a) xs ys zs e few sums = tt

join-fits : (q : Query) (rows : List Row) (p t u : Row → Bool) → Rises key_of rows → All RowFits rows → ((r : Row) → p r && t r ≡ false) → ((r : Row) → u r ≡ p r || t r) → JoinFits q.want (answer (filter p rows) q) (answer (filter t rows) q)
join-fits q rows p t u rise fit apart same =
    let zs : List Row = matching q.conds (filter u rows) in
    let zs_rise : Rises key_of zs = rises-filter key_of (meets_all q.conds) (filter u rows) (rises-filter key_of u rows rise) in
    let zs_fit : All RowFits zs = all-filter RowFits (meets_all q.conds) (filter u rows) (all-filter RowFits u rows fit) in
    fits-want q.want (matching q.conds (filter p rows)) (matching q.conds (filter t rows)) zs (joined-part q rows p t u rise apart same)
    (let few = few-rows zs zs_rise zs_fit in omega (arith, few)) (λ a. total-fits a zs zs_rise zs_fit)

-- ---- one area after the other
-- the rows from below an interval's end, whether the query touches it or not
one-area : (a : ℕ) (rows : List Row) (q : Query) (x : AreaState) (i : Interval) → Rises key_of rows → head_in q.conds ≡ a → interval_of x ≡ i → rows_in x ≡ part_of a rows i → ((r : Row) → upto a i.1 r ≡ before a i.0 r || lies_within a i.0 i.1 r) → with_area q (answer (filter (before a i.0) rows) q) x ≡ answer (filter (upto a i.1) rows) q
one-area a rows q x i rise head is part same = by (is_touched x q) refl
  where
    touch : is_touched x q ≡ meets_interval q i
    touch = ap (meets_interval q) is

    by : (b : Bool) → is_touched x q ≡ b → with_area q (answer (filter (before a i.0) rows) q) x ≡ answer (filter (upto a i.1) rows) q
    by true e =
        rw e
        (ap (λ l. joined q.want (answer (filter (before a i.0) rows) q) (answer l q)) part
        ∙ joined-part q rows (before a i.0) (lies_within a i.0 i.1) (upto a i.1) rise (before-apart a i.0 i.1) same)
    by false e = rw e (untouched-part q rows (before a i.0) (lies_within a i.0 i.1) (upto a i.1) same (λ r w. none_untouched a q i r head w (sym touch ∙ e)))

area-fits : (a : ℕ) (rows : List Row) (q : Query) (x : AreaState) (i : Interval) → Rises key_of rows → All RowFits rows → rows_in x ≡ part_of a rows i → ((r : Row) → upto a i.1 r ≡ before a i.0 r || lies_within a i.0 i.1 r) → AreaFits q (answer (filter (before a i.0) rows) q) x
area-fits a rows q x i rise fit part same touched =
    subst (λ l. JoinFits q.want (answer (filter (before a i.0) rows) q) (answer l q)) (sym part)
    (join-fits q rows (before a i.0) (lies_within a i.0 i.1) (upto a i.1) rise fit (before-apart a i.0 i.1) same)

fits-from : (a : ℕ) (from : Option ℤ) (cuts : List ℤ) (rows : List Row) (q : Query) (xs : List AreaState) → RiseAbove from cuts → Rises key_of rows → All RowFits rows → head_in q.conds ≡ a → map interval_of xs ≡ intervals_from from cuts → map rows_in xs ≡ map (part_of a rows) (intervals_from from cuts) → AreasFit q (answer (filter (before a from) rows) q) xs
fits-from a from cuts rows q [] rise keys fit head is parts = tt
fits-from a from [] rows q (x ∷ y ∷ xs) rise keys fit head is parts = let m = ap length is in absurd (omega (arith, m))
fits-from a from [] rows q (x ∷ []) rise keys fit head is parts =
    (area-fits a rows q x (from, None) keys fit (ap (λ l. get_or l 0 []) parts) (upto-end a from), tt)
fits-from a from (c ∷ cs) rows q (x ∷ xs) rise keys fit head is parts =
    let part : rows_in x ≡ part_of a rows (from, Some c) = ap (λ l. get_or l 0 []) parts in
    let here : interval_of x ≡ (from, Some c) = ap (λ l. get_or l 0 (from, Some c)) is in
    let same : ((r : Row) → upto a (Some c) r ≡ before a from r || lies_within a from (Some c) r) = λ r. upto-cut a from c cs r rise in (
      area-fits a rows q x (from, Some c) keys fit part same,
      subst (λ (f : Reply). AreasFit q f xs) (sym (one-area a rows q x (from, Some c) keys head here part same ∙ ap (λ l. answer l q) (before-upto a c rows)))
          (fits-from a (Some c) cs rows q xs (rises-on from c cs rise) keys fit head (ap (drop 1) is) (ap (drop 1) parts)),
    )

-- ---- live rows are rows that came
pub live-came : (P : Row → Type 0) (came live : List Row) (us : List Update) → (All P came → All P live) → All P (fold came_then came us) → All P (fold rows_then live us)
live-came P came live [] less h = less h
live-came P came live (update.Insert r ∷ us) less h =
    live-came P (came ++ r ∷ []) (live ++ r ∷ []) us (λ all. All-append P live (r ∷ []) (less (all-left P came (r ∷ []) all)) (all-right P came (r ∷ []) all)) h
live-came P came live (update.Remove k ∷ us) less h = live-came P came (without k live) us (λ all. all-without P k live (less all)) h

-- the rows that updates leave are of their types where all that came are
pub rows-fit : (us : List Update) → All RowFits (given_by us) → All RowFits (rows_of us)
rows-fit us h = live-came RowFits [] [] us (λ all. all) h

-- the replies of a head's areas, joined one after the other, stay within the bits of a reply
pub areas_fit : (us : List Update) (a : ℕ) (cuts : List ℤ) (xs : List AreaState) (q : Query) → AreAreasOf a cuts xs → StandsFor us a cuts xs → All RowFits (given_by us) → head_in q.conds ≡ a → AreasFit q (answer_over [] q.want) xs
areas_fit us a cuts xs q w s fit head =
    subst (λ (f : Reply). AreasFit q f xs) (ap (λ l. answer l q) (none-before a (rows_of us)))
    (fits-from a None cuts (rows_of us) q xs w.rising s.rise (rows-fit us fit) head w.intervals_are s.parts)
