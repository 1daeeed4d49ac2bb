-- The pair of a live row stands between the places of the nearest bounds around its head value.
use Rattle.std.proofs.Common.{◌≡◌, ◌≢◌, ◌&&◌, ℕ, zero, suc, ◌+◌, ◌-◌, ◌<◌, ◌≤◌, ℤ, pos, not, Bool, true, false, List, length, get_or, map, take, drop, min, Option, None, Some, refl, ap, sym, ◌∙◌, arith, subst, Any, Contains, unsigned_abs, eqb, eqb-true, eq-eqb, true≢false}
use Rattle.std.specs.List.{slice_range}
use Rattle.std.proofs.lemmas.List.{get_or-map, length-take}
use Rattle.sw_query.specs.declared.bound.Bound.{Bound}
use Rattle.sw_table.specs.declared.row.Row.{Row}
use Rattle.sw_query.specs.Bounds.{is_above, is_below, is_within}
use Rattle.sw_query.specs.Scan.{cell_of}
use Rattle.sw_kernel.specs.Replay.{Step}
use Rattle.sw_kernel.specs.Tapes.{IsTape, brought, is_marked}
use Rattle.sw_kernel.proofs.Members.{Mem, mem-from_contains, contains-from_mem, mem-filter}
use Rattle.sw_kernel.proofs.Once.{held-replay}
use Rattle.sw_tape.specs.Bounds.{IsNearestAbove, IsNearestBelow}
use Rattle.sw_map.specs.declared.tail.Tail.TheVariants.{Key}
use Rattle.sw_map.specs.Held.{Held, pairs_in, tail_value}
use Rattle.sw_map.proofs.Replays.{ready-joined}
use Rattle.sw_set.specs.declared.reply.window.Side.TheVariants.{Tail}
use Rattle.sw_set.specs.Choice.{IsRun, shown_rows, side_in}
use Rattle.sw_set.specs.Position.{HasCrackedAt, LacksKey}
use Rattle.sw_set.specs.Prepared.{stands_if}
use Rattle.sw_set.specs.Boxed.{IsFoundAt}
use Rattle.sw_set.specs.Shelf.{Rises, key_of, logged_rows}
use Rattle.sw_set.proofs.Replying.Answered.{filter-run}
use Rattle.sw_set.proofs.Areas.Boxes.{get_or_any}
use Rattle.sw_set.proofs.Preparing.Ends.{IsMapAtEnd, found-stands, place-found, pairs-at_end}
use Rattle.sw_set.proofs.Preparing.Needing.{mem-map}
use Rattle.sw_set.proofs.Preparing.Ranges.{between, rising-distinct, run-of}
use Rattle.sw_set.proofs.Replying.Stock.{map-range, tails-shown}
use Rattle.sw_set.proofs.Replying.Told.{range-at, range-long}

-- ---- the nearest bounds have places
below-stands : (tape : List (Step Row)) (v : ℤ) (o : Option Bound) → IsNearestBelow (λ b. is_marked b tape) v o → stands_if o tape ≡ true
below-stands tape v None h = refl
below-stands tape v (Some b) h = h.0

above-stands : (tape : List (Step Row)) (v : ℤ) (o : Option Bound) → IsNearestAbove (λ b. is_marked b tape) v o → stands_if o tape ≡ true
above-stands tape v None h = refl
above-stands tape v (Some b) h = h.0

standing-place : (a : ℕ) (tape : List (Step Row)) (m : Held) (o : Option Bound) → IsMapAtEnd a tape m → stands_if o tape ≡ true → HasCrackedAt o m
standing-place a tape m None w s = tt
standing-place a tape m (Some b) w s = found-stands a tape m (Some b) 0 w s

-- the nearest bound of the tape below a value, if there is one, has a place in a map at the tape's end
pub lower-place : (a : ℕ) (tape : List (Step Row)) (m : Held) (v : ℤ) (o : Option Bound) → IsMapAtEnd a tape m → IsNearestBelow (λ b. is_marked b tape) v o → HasCrackedAt o m
lower-place a tape m v o w h = standing-place a tape m o w (below-stands tape v o h)

-- the nearest bound of the tape above a value, if there is one, has a place in a map at the tape's end
pub upper-place : (a : ℕ) (tape : List (Step Row)) (m : Held) (v : ℤ) (o : Option Bound) → IsMapAtEnd a tape m → IsNearestAbove (λ b. is_marked b tape) v o → HasCrackedAt o m
upper-place a tape m v o w h = standing-place a tape m o w (above-stands tape v o h)

-- ---- the value lies between them
lower-above : (there : Bound → Bool) (v : ℤ) (o : Option Bound) → IsNearestBelow there v o → is_above o v ≡ true
lower-above there v None h = refl
lower-above there v (Some b) h = ap not h.1

upper-below : (there : Bound → Bool) (v : ℤ) (o : Option Bound) → IsNearestAbove there v o → is_below o v ≡ true
upper-below there v None h = refl
upper-below there v (Some b) h = h.1

-- ---- the keys that a key map shows
keys-shown : (a : ℕ) (tape : List (Step Row)) (m : Held) → IsMapAtEnd a tape m → m.tail ≡ Key → side_in Tail m ≡ map (tail_value Key) (shown_rows a tape)
keys-shown a tape m w key =
    ap (λ (v : List (ℤ × ℤ)). map (λ (p : ℤ × ℤ). p.1) v) (ready-joined a tape m w.aligned w.at_end)
    ∙ tails-shown a m.tail (shown_rows a tape)
    ∙ ap (λ t. map (tail_value t) (shown_rows a tape)) key

-- a live row is among those that maps show
live-shown : (a : ℕ) (tape : List (Step Row)) (r : Row) → IsTape tape → Rises key_of (brought tape) → Mem r (logged_rows a tape) → Mem r (shown_rows a tape)
live-shown a tape r t rise m = (held-replay (cell_of a) key_of tape t (rising-distinct (brought tape) rise)).no_less r m

-- the rows between the places of the nearest bounds are those between the bounds
nearest-run : (a : ℕ) (tape : List (Step Row)) (m : Held) (value : ℤ) (lower upper : Option Bound) (from upto : ℕ) → IsTape tape → IsMapAtEnd a tape m → IsNearestBelow (λ b. is_marked b tape) value lower → IsNearestAbove (λ b. is_marked b tape) value upper → IsFoundAt lower 0 m from → IsFoundAt upper (pairs_in m) m upto → IsRun (λ (r : Row). is_within lower upper (cell_of a r)) (shown_rows a tape) from upto
nearest-run a tape m value lower upper from upto t w below above lo hi =
    let up = lower-above (λ b. is_marked b tape) value lower below in
    let down = upper-below (λ b. is_marked b tape) value upper above in
    let end = subst (λ (n : ℕ). IsFoundAt upper n m upto) (pairs-at_end a tape m w) hi in
    run-of a tape lower upper from upto t (between lower upper value up down) (place-found a tape m lower 0 from w lo) (place-found a tape m upper (length (shown_rows a tape)) upto w end)

-- where the upper bound stands is within the pairs
pub upper-within : (a : ℕ) (tape : List (Step Row)) (m : Held) (value : ℤ) (lower upper : Option Bound) (from upto : ℕ) → IsTape tape → IsMapAtEnd a tape m → IsNearestBelow (λ b. is_marked b tape) value lower → IsNearestAbove (λ b. is_marked b tape) value upper → IsFoundAt lower 0 m from → IsFoundAt upper (pairs_in m) m upto → upto ≤ pairs_in m
upper-within a tape m value lower upper from upto t w below above lo hi =
    let many = pairs-at_end a tape m w in
    let le = (nearest-run a tape m value lower upper from upto t w below above lo hi).within in
    omega (arith, le, many)

-- a row that passes a test stands in the run of those that do
within-run : (p : Row → Bool) (rows : List Row) (from upto : ℕ) (r : Row) → IsRun p rows from upto → p r ≡ true → Mem r rows → Mem r (slice_range rows from upto)
within-run p rows from upto r run passes m = subst (λ (v : List Row). Mem r v) (filter-run p rows from upto run) (mem-filter p rows r m passes)

and-both : (s t : Bool) → s ≡ true → t ≡ true → s && t ≡ true
and-both s t p q = ap (λ v. v && t) p ∙ q

-- so the key of a live row of the value is among the tails from the one place up to below the other
pub key-between : (a : ℕ) (tape : List (Step Row)) (m : Held) (value : ℤ) (key : ℕ) (lower upper : Option Bound) (from upto : ℕ) → IsTape tape → IsMapAtEnd a tape m → m.tail ≡ Key → Rises key_of (brought tape) → Any (λ (r : Row). (r.key ≡ key) × (cell_of a r ≡ value)) (logged_rows a tape) →
    IsNearestBelow (λ b. is_marked b tape) value lower → IsNearestAbove (λ b. is_marked b tape) value upper → IsFoundAt lower 0 m from → IsFoundAt upper (pairs_in m) m upto → Contains (slice_range (side_in Tail m) from upto) (pos key)
key-between a tape m value key lower upper from upto t w tail rise (i, r, li, is, has) below above lo hi =
    let rows = shown_rows a tape in
    let p : Row → Bool = λ r. is_within lower upper (cell_of a r) in
    let run = nearest-run a tape m value lower upper from upto t w below above lo hi in
    let passes : p r ≡ true = ap (is_within lower upper) has.1 ∙ and-both _ _ (lower-above (λ b. is_marked b tape) value lower below) (upper-below (λ b. is_marked b tape) value upper above) in
    let live = live-shown a tape r t rise (mem-from_contains (logged_rows a tape) r (i, li, is)) in
    let there = mem-map (tail_value Key) (slice_range rows from upto) r (within-run p rows from upto r run passes live) in
    let tails : map (tail_value Key) (slice_range rows from upto) ≡ slice_range (side_in Tail m) from upto = map-range (tail_value Key) rows from upto ∙ ap (λ (v : List ℤ). slice_range v from upto) (sym (keys-shown a tape m w tail)) in
    let c = contains-from_mem (map (tail_value Key) (slice_range rows from upto)) (pos r.key) there in
    subst (λ (v : List ℤ). Contains v (pos key)) tails (subst (λ (k : ℕ). Contains (map (tail_value Key) (slice_range rows from upto)) (pos k)) has.0 c)

-- the row at a place whose tail is the key
pub key-at : (a : ℕ) (tape : List (Step Row)) (m : Held) (key place : ℕ) → IsMapAtEnd a tape m → m.tail ≡ Key → place < pairs_in m → unsigned_abs (get_or (side_in Tail m) place (pos 0)) ≡ key → (place < length (shown_rows a tape)) × ((d : Row) → (get_or (shown_rows a tape) place d).key ≡ key)
key-at a tape m key place w tail lt is =
    let many = pairs-at_end a tape m w in
    let inside : place < length (shown_rows a tape) = omega (arith, lt, many) in
    (inside, λ d. sym (ap unsigned_abs (ap (λ (v : List ℤ). get_or v place (pos 0)) (keys-shown a tape m w tail) ∙ get_or-map (tail_value Key) (shown_rows a tape) place d (pos 0) inside)) ∙ is)

-- ---- a search that finds nothing
pub none-found : {Y : Type 0} (xs : List ℤ) (from upto key : ℕ) → LacksKey key xs from upto → upto ≤ length xs → Contains (slice_range xs from upto) (pos key) → Y
none-found xs from upto key none within (i, lt, is) =
    let long : length (take (upto - from) (drop from xs)) ≡ min (upto - from) (length (drop from xs)) = length-take (upto - from) (drop from xs) in
    let below : i < upto - from = omega (arith, lt, long) in
    let at : get_or xs (from + i) (pos key) ≡ pos key = sym (range-at xs from upto i (pos key) below) ∙ is in
    let inside : from + i < length xs = omega (arith, below, within) in
    absurd (none (from + i) (omega arith) (omega (arith, below)) (ap unsigned_abs (get_or_any xs (from + i) (pos 0) (pos key) inside ∙ at)))

-- a search that has passed one place more
pub none-more : (xs : List ℤ) (from place key : ℕ) → LacksKey key xs from place → unsigned_abs (get_or xs place (pos 0)) ≢ key → LacksKey key xs from (place + 1)
none-more xs from place key none other k le lt = by (eqb k place) refl
  where
    by : (t : Bool) → eqb k place ≡ t → unsigned_abs (get_or xs k (pos 0)) ≢ key
    by true e = subst (λ (n : ℕ). unsigned_abs (get_or xs n (pos 0)) ≢ key) (sym (eqb-true k place e)) other
    by false e = none k le (below (λ s. absurd (true≢false (sym (eq-eqb k place s) ∙ e))))
      where
        below : k ≢ place → k < place
        below ne = omega (arith, lt, ne)

-- a search that has passed a block more
pub lacks-on : (xs block : List ℤ) (key from place end : ℕ) → end ≤ length xs → block ≡ slice_range xs place end → LacksKey key xs from place → LacksKey key block 0 (length block) → LacksKey key xs from end
lacks-on xs block key from place end within read before others k le lt = by (place - k) refl
  where
    by : (n : ℕ) → place - k ≡ n → unsigned_abs (get_or xs k (pos 0)) ≢ key
    by (suc n) e = before k le (omega (arith, e))
    by zero e =
        let at : place + (k - place) ≡ k = omega (arith, e) in
        let inside : k - place < end - place = omega (arith, e, lt) in
        let long : length block ≡ end - place = ap length read ∙ range-long xs place end (omega (arith, inside)) within in
        let same : get_or block (k - place) (pos 0) ≡ get_or xs k (pos 0) = ap (λ (v : List ℤ). get_or v (k - place) (pos 0)) read ∙ range-at xs place end (k - place) (pos 0) inside ∙ ap (λ (n : ℕ). get_or xs n (pos 0)) at in
        λ is. others (k - place) (omega arith) (omega (arith, inside, long)) (ap unsigned_abs same ∙ is)
