-- From maps that were made and aligned to the range of places that a query gets.
use Rattle.std.proofs.Common.{◌≡◌, ◌≢◌, ℕ, ◌<◌, ◌≤◌, ◌||◌, ◌&&◌, Bool, true, false, true≢false, List, [], ◌∷◌, ◌++◌, length, get_or, refl, ap, sym, ◌∙◌, arith, subst, All, Any, Contains, Option, Some, None, eqb, eqb-true, eq-eqb}
use Rattle.std.proofs.lemmas.List.{length-map}
use Rattle.sw_query.specs.declared.bound.Bound.{Bound}
use Rattle.sw_query.specs.declared.bound.Bound.TheVariants.{Before, After}
use Rattle.sw_table.specs.declared.row.Row.{Row}
use Rattle.sw_query.specs.Bounds.{same_bound}
use Rattle.sw_kernel.specs.Arrangement.{joined}
use Rattle.sw_kernel.specs.Replay.{Step, loaded, ranged}
use Rattle.sw_kernel.specs.Tapes.{is_marked, is_bound, peak_from}
use Rattle.sw_tape.proofs.Steps.{marked-push}
use Rattle.sw_map.specs.declared.tail.Tail.{Tail}
use Rattle.sw_map.specs.declared.tail.Tail.TheVariants.{Key}
use Rattle.sw_map.specs.Held.{Held, pairs_in, pair_in, place_of}
use Rattle.sw_map.specs.Lawful.{IsAligned, rows_by}
use Rattle.sw_map.proofs.Replays.{aligned-lawful, ready-joined, ready-place, place-marked}
use Rattle.sw_set.specs.Shelf.{AreaState, AreApart, IsAreaLawful}
use Rattle.sw_set.specs.Aligned.{AreSameMaps, HasRoomWhereNeeded, IsAtEnd}
use Rattle.sw_set.specs.Prepared.{IsNoted, IsPlace, IsReady, cells_for, stands_if}
use Rattle.sw_set.specs.Boxed.{IsFoundAt, IsHeld}
use Rattle.sw_set.proofs.Areas.Boxes.{get_or_any}

-- ---- after a range was noted its bounds stand
or-right : (s : Bool) → s || true ≡ true
or-right true = refl
or-right false = refl

same-self : (b : Bound) → same_bound b b ≡ true
same-self (Before v) = grind arith
same-self (After v) = grind arith

stands-lower : (lower upper : Option Bound) (tape : List (Step Row)) → stands_if lower (tape ++ ranged lower upper ∷ []) ≡ true
stands-lower None upper tape = refl
stands-lower (Some b) upper tape = marked-push b tape (ranged (Some b) upper) ∙ ap (λ s. (s || is_bound b upper) || is_marked b tape) (same-self b)

stands-upper : (lower upper : Option Bound) (tape : List (Step Row)) → stands_if upper (tape ++ ranged lower upper ∷ []) ≡ true
stands-upper lower None tape = refl
stands-upper lower (Some b) tape = marked-push b tape (ranged lower (Some b)) ∙ ap (λ s. (is_bound b lower || s) || is_marked b tape) (same-self b) ∙ ap (λ s. s || is_marked b tape) (or-right (is_bound b lower))

both-stand : (lower upper : Option Bound) (tape : List (Step Row)) → stands_if lower (tape ++ ranged lower upper ∷ []) && stands_if upper (tape ++ ranged lower upper ∷ []) ≡ true
both-stand lower upper tape = ap (λ s. s && stands_if upper (tape ++ ranged lower upper ∷ [])) (stands-lower lower upper tape) ∙ stands-upper lower upper tape

-- after a range was noted both of its bounds stand in ranges of the tape
pub noted-stand : (lower upper : Option Bound) (rows : List Row) (old new : List (Step Row)) → length old ≤ 4096 → IsNoted lower upper rows old new → stands_if lower new && stands_if upper new ≡ true
noted-stand lower upper rows old new few w = by (stands_if lower old && stands_if upper old) refl
  where
    by : (b : Bool) → stands_if lower old && stands_if upper old ≡ b → stands_if lower new && stands_if upper new ≡ true
    by true q = subst (λ (t : List (Step Row)). stands_if lower t && stands_if upper t ≡ true) (sym (w.stood q)) q
    by false q = full (eqb (length old) 4096) refl
      where
        full : (c : Bool) → eqb (length old) 4096 ≡ c → stands_if lower new && stands_if upper new ≡ true
        full true e = subst (λ (t : List (Step Row)). stands_if lower t && stands_if upper t ≡ true) (sym (w.restarted q (eqb-true (length old) 4096 e))) (both-stand lower upper (loaded rows ∷ []))
        full false e = subst (λ (t : List (Step Row)). stands_if lower t && stands_if upper t ≡ true) (sym (w.added q (below (λ n. absurd (true≢false (sym (eq-eqb (length old) 4096 n) ∙ e)))))) (both-stand lower upper old)
          where
            below : length old ≢ 4096 → length old < 4096
            below ne = omega (arith, few, ne)

-- where two tests both pass, the left one does
pub stands-left : (s t : Bool) → s && t ≡ true → s ≡ true
stands-left true t e = refl
stands-left false t e = absurd (true≢false (sym e))

-- where two tests both pass, the right one does
pub stands-right : (s t : Bool) → s && t ≡ true → t ≡ true
stands-right true t e = e
stands-right false t e = absurd (true≢false (sym e))

-- ---- maps of one tail stand in one box
pub only-place : (ms : List Held) (i j : ℕ) (d e : Held) → AreApart ms → i < length ms → j < length ms → (get_or ms i d).is_blank ≡ false → (get_or ms j e).is_blank ≡ false → (get_or ms i d).tail ≡ (get_or ms j e).tail → i ≡ j
unfolding AreApart
only-place ms i j d e apart li lj bi bj same = by (eqb i j) refl
  where
    by : (b : Bool) → eqb i j ≡ b → i ≡ j
    by true q = eqb-true i j q
    by false q = absurd (apart i j d e li lj (λ n. absurd (true≢false (sym (eq-eqb i j n) ∙ q))) bi bj same)

-- each map of the tails has room where one of enough cells was made for each
pub room-made : (tails : List Tail) (tape : List (Step Row)) (n : ℕ) (ms : List Held) → AreApart ms → peak_from 0 tape ≤ n → All (λ t. IsHeld t n ms) tails → All (HasRoomWhereNeeded tails tape) ms
unfolding HasRoomWhereNeeded
room-made tails tape n ms apart peak all k d lt = λ begun need.
    let at = all need.0 (get_or ms k d).tail need.1 in
    let held : IsHeld (get_or ms k d).tail n ms = subst (λ (t : Tail). IsHeld t n ms) need.2 at in
    room held begun
  where
    room : IsHeld (get_or ms k d).tail n ms → (get_or ms k d).is_blank ≡ false → peak_from 0 tape ≤ (get_or ms k d).cells
    room (i, m, li, is, mp) begun =
        let b : (get_or ms i m).is_blank ≡ false = ap (λ (x : Held). x.is_blank) is ∙ mp.begun in
        let t : (get_or ms i m).tail ≡ (get_or ms k d).tail = ap (λ (x : Held). x.tail) is ∙ mp.tail in
        let here : i ≡ k = only-place ms i k m d apart li lt b begun t in
        let same : get_or ms k d ≡ m = get_or_any ms k d m lt ∙ ap (λ j. get_or ms j m) (sym here) ∙ is in
        let cells = mp.cells in
        let e : (get_or ms k d).cells ≡ m.cells = ap (λ (x : Held). x.cells) same in
        omega (arith, peak, cells, e)

-- a map that was made stands at the end once all maps of the tails do
pub ready-made : (tails : List Tail) (tape : List (Step Row)) (n : ℕ) (ms ns : List Held) (t : Tail) → Contains tails t → IsHeld t n ms → AreSameMaps ms ns → All (IsAtEnd tails tape) ns → Any (IsReady t tape) ns
unfolding IsAtEnd
ready-made tails tape n ms ns t need (i, m, li, is, mp) same ends =
    let many = same.many in
    let each = same.each i m m li in
    let b : (get_or ns i m).is_blank ≡ false = each.blank ∙ ap (λ (x : Held). x.is_blank) is ∙ mp.begun in
    let k : (get_or ns i m).tail ≡ t = each.tail ∙ ap (λ (x : Held). x.tail) is ∙ mp.tail in
    let lt : i < length ns = omega arith in
    (i, get_or ns i m, lt, get_or_any ns i (get_or ns i m) m lt, record { begun = b; tail_is = k; at_end = ends i m lt b (subst (Contains tails) (sym k) need) })

-- ---- where the bounds stand
pub record IsMapAtEnd (a : ℕ) (tape : List (Step Row)) (m : Held) : Type 0 where
  pub aligned : IsAligned a tape m
  pub at_end : m.cursor ≡ length tape

-- the box of a tail whose map is ready
pub at-end_of : (x : AreaState) (t : Tail) (at : ℕ) → IsAreaLawful x → Any (IsReady t x.tape) x.boxes → at < length x.boxes → ((d : Held) → ((get_or x.boxes at d).is_blank ≡ false) × ((get_or x.boxes at d).tail ≡ t)) → (d : Held) → IsMapAtEnd x.attribute x.tape (get_or x.boxes at d)
at-end_of x t at w (i, m, li, is, r) lt own d =
    let b : (get_or x.boxes i m).is_blank ≡ false = ap (λ (v : Held). v.is_blank) is ∙ r.begun in
    let k : (get_or x.boxes i m).tail ≡ (get_or x.boxes at d).tail = ap (λ (v : Held). v.tail) is ∙ r.tail_is ∙ sym (own d).1 in
    let here : i ≡ at = only-place x.boxes i at m d w.apart li lt b (own d).0 k in
    let same : get_or x.boxes at d ≡ m = get_or_any x.boxes at d m lt ∙ ap (λ j. get_or x.boxes j m) (sym here) ∙ is in
    record {
      aligned = aligned-lawful x.attribute x.tape (get_or x.boxes at d) (w.boxes at d lt) (own d).0;
      at_end = ap (λ (v : Held). v.cursor) same ∙ r.at_end;
    }

-- a bound that stands in a range of the tape, or is absent, has a place in a map at the tape's end
pub found-stands : (a : ℕ) (tape : List (Step Row)) (m : Held) (bound : Option Bound) (absent : ℕ) → IsMapAtEnd a tape m → stands_if bound tape ≡ true → (i : ℕ) × IsFoundAt bound absent m i
found-stands a tape m None absent w s = (absent, refl)
found-stands a tape m (Some b) absent w s = let p = place-marked a tape b s in (p.0, ready-place a tape m b w.aligned w.at_end ∙ p.1)

-- where a bound stands in a map at the tape's end is where it stands among the tape's rows
pub place-found : (a : ℕ) (tape : List (Step Row)) (m : Held) (bound : Option Bound) (absent place : ℕ) → IsMapAtEnd a tape m → IsFoundAt bound absent m place → IsPlace bound absent (rows_by a tape) place
place-found a tape m None absent place w f = f
place-found a tape m (Some b) absent place w f = sym (ready-place a tape m b w.aligned w.at_end) ∙ f

-- a map at the tape's end has as many pairs as the tape arranges rows
pub pairs-at_end : (a : ℕ) (tape : List (Step Row)) (m : Held) → IsMapAtEnd a tape m → pairs_in m ≡ length (joined (rows_by a tape))
pairs-at_end a tape m w =
    let rows : List Row = joined (rows_by a tape) in
    ap length (ready-joined a tape m w.aligned w.at_end) ∙ length-map rows (pair_in a m.tail)

-- a bound that has a place in a map is not one that has none there
pub found-none : {Y : Type 0} (bound : Option Bound) (b : Bound) (absent : ℕ) (m : Held) → bound ≡ Some b → None ≡ place_of b m.pairs → (i : ℕ) × IsFoundAt bound absent m i → Y
found-none bound b absent m e none f =
    let f' : (i : ℕ) × IsFoundAt (Some b) absent m i = subst (λ (o : Option Bound). (i : ℕ) × IsFoundAt o absent m i) e f in
    let no : Some f'.0 ≡ None = sym f'.1 ∙ sym none in
    absurd (some-is-not no)
  where
    some-is-not : {n : ℕ} → Some n ≡ None → ⊥
    some-is-not p = cc

-- so many pairs are no more than the cells that are asked for them
pub cells-enough : (n : ℕ) → n ≤ cells_for n
cells-enough n = omega arith

-- an area whose key map is looked for and not found
pub key-missing : {Y : Type 0} (tape : List (Step Row)) (tails : List Tail) (ms : List Held) → ((t : Tail) → Contains tails t → Any (IsReady t tape) ms) → Contains tails Key → All (λ m. m.is_blank ≡ false → m.tail ≢ Key) ms → Y
key-missing tape tails ms maps key none = go (maps Key key)
  where
    go : {Y : Type 0} → Any (IsReady Key tape) ms → Y
    go (i, m, li, is, r) = absurd (none i m li (ap (λ (v : Held). v.is_blank) is ∙ r.begun) (ap (λ (v : Held). v.tail) is ∙ r.tail_is))

-- the cells that are asked for a number of pairs are enough for the same number
pub room-enough : (p q n : ℕ) → p ≡ q → n ≡ cells_for q → p ≤ n
room-enough p q n e is = subst (λ (v : ℕ). p ≤ v) (sym is) (subst (λ (v : ℕ). v ≤ cells_for q) (sym e) (cells-enough q))

-- where each of the tails has a map of so many cells, a tail among them has one
pub held-of : (tails : List Tail) (n : ℕ) (ms : List Held) (t : Tail) → All (λ t. IsHeld t n ms) tails → Contains tails t → IsHeld t n ms
held-of tails n ms t all need = subst (λ (v : Tail). IsHeld v n ms) need.2 (all need.0 t need.1)
