-- Laws of maps that replay a tape: what an entry, a longer tape and a mark say of an aligned map.
use Rattle.std.proofs.Common.{◌≡◌, ℕ, zero, suc, ◌+◌, ◌<◌, ◌≤◌, ℤ, true, false, cond, List, [], ◌∷◌, ◌++◌, length, map, take, None, Some, refl, sym, ap, ◌∙◌, arith, subst, inl, inr}
use Rattle.std.specs.List.{slice_get, AllByRecursion}
use Rattle.std.proofs.lemmas.Bool.{cases_Bool, true≢false}
use Rattle.std.proofs.lemmas.List.{length-append, length-map, take_all, take_more, take-append-le}
use Rattle.std.proofs.lemmas.Option.{slice_get_within, get_or_from_slice_get}
use Rattle.sw_query.specs.declared.bound.Bound.{Bound}
use Rattle.sw_query.specs.declared.bound.Bound.TheVariants.{Before, After}
use Rattle.sw_table.specs.declared.row.Row.{Row}
use Rattle.sw_query.specs.Bounds.{bound_below, same_bound}
use Rattle.sw_query.specs.Scan.{cell_of}
use Rattle.sw_kernel.specs.declared.mark.Mark.{Mark}
use Rattle.sw_kernel.specs.Partition.{head_of}
use Rattle.sw_kernel.specs.Arrangement.{Arrangement, last, piece, joined, bounds, has_bound}
use Rattle.sw_kernel.specs.Replay.{Step, loaded, inserted, removed, ranged, step, replay_from, shown, shown_step}
use Rattle.sw_kernel.specs.Flat.{marks_from}
use Rattle.sw_kernel.specs.Tapes.{IsTape, AllFollow, MayFollow, IsBelowAll, IsRising, IsSound, count_after, count_from, peak_from, is_marked}
use Rattle.sw_kernel.proofs.Seen.{shown-step}
use Rattle.sw_kernel.proofs.Shown.{joined-shown}
use Rattle.sw_kernel.proofs.Moves.{load-joined}
use Rattle.sw_kernel.proofs.Once.{count-replay, count-step}
use Rattle.sw_kernel.proofs.Orders.{below-trans, below-new, same-flips}
use Rattle.sw_kernel.proofs.Rising.{has-replay_from, replay_from-rises}
use Rattle.sw_kernel.proofs.Sound.{LeftOfAll, marks-sound, replay-ordered}
use Rattle.sw_map.specs.declared.tail.Tail.{Tail}
use Rattle.sw_map.specs.Held.{Held, blank, begun, after, pairs_in, pair_in, place_from, place_of, MayReplay}
use Rattle.sw_map.specs.Lawful.{IsAligned, IsLawful, rows_by}

-- ---- one more entry
replay_from-more : {A : Type 0} (value : A → ℤ) (es : List (Step A)) (e : Step A) (a : Arrangement A) → replay_from value a (es ++ e ∷ []) ≡ step value e (replay_from value a es)
replay_from-more value [] e a = refl
replay_from-more value (x ∷ es) e a = replay_from-more value es e (step value x a)

-- the rows of a tape with one more entry
pub rows-more : (a : ℕ) (tape : List (Step Row)) (e : Step Row) → rows_by a (tape ++ e ∷ []) ≡ step (cell_of a) e (rows_by a tape)
rows-more a tape e = replay_from-more (cell_of a) tape e (last [])

-- the entries up to one more
taken-more : {A : Type 0} (es : List A) (k : ℕ) (e : A) → slice_get es k ≡ Some e → take (k + 1) es ≡ take k es ++ e ∷ []
taken-more es k e at = take_more es k e (slice_get_within es k e at) ∙ ap (λ x. take k es ++ x ∷ []) (get_or_from_slice_get es k e e at)

-- a map that replays the entry at its cursor stays aligned
pub aligned-more : (a : ℕ) (tape : List (Step Row)) (m : Held) (e : Step Row) → slice_get tape m.cursor ≡ Some e → IsAligned a tape m → IsAligned a tape (after e m)
aligned-more a tape m e at al =
    let lt = slice_get_within tape m.cursor e at in
    let x : Arrangement Row = rows_by a (take m.cursor tape) in
    let more : rows_by a (take (m.cursor + 1) tape) ≡ step (cell_of a) e x = ap (rows_by a) (taken-more tape m.cursor e at) ∙ rows-more a (take m.cursor tape) e in
    record {
      begun = al.begun;
      same_head = al.same_head;
      within = omega arith;
      pairs_are =
          ap (λ (h : ℕ). step head_of (shown_step (pair_in h m.tail) e) m.pairs) al.same_head
          ∙ ap (step head_of (shown_step (pair_in a m.tail) e)) al.pairs_are
          ∙ sym (shown-step (pair_in a m.tail) head_of e x)
          ∙ ap (shown (pair_in a m.tail)) (sym more);
    }

-- ---- a longer tape
pub aligned-longer : (a : ℕ) (tape es : List (Step Row)) (m : Held) → IsAligned a tape m → IsAligned a (tape ++ es) m
aligned-longer a tape es m al = record {
  begun = al.begun;
  same_head = al.same_head;
  within = let n = length-append tape es in let w = al.within in omega arith;
  pairs_are = al.pairs_are ∙ ap (λ (v : List (Step Row)). shown (pair_in a m.tail) (rows_by a v)) (sym (take-append-le m.cursor tape es al.within));
}

-- a lawful map is lawful when the tape grows
pub lawful-longer : (a : ℕ) (tape es : List (Step Row)) (m : Held) → IsLawful a tape m → IsLawful a (tape ++ es) m
unfolding IsLawful
lawful-longer a tape es m (inl b) = inl b
lawful-longer a tape es m (inr al) = inr (aligned-longer a tape es m al)

-- ---- lawful boxes
pub lawful-blank : (a : ℕ) (tape : List (Step Row)) → IsLawful a tape blank
unfolding IsLawful
lawful-blank a tape = inl refl

-- an aligned map is lawful
pub lawful-aligned : (a : ℕ) (tape : List (Step Row)) (m : Held) → IsAligned a tape m → IsLawful a tape m
unfolding IsLawful
lawful-aligned a tape m al = inr al

-- a lawful map that is not blank is aligned
pub aligned-lawful : (a : ℕ) (tape : List (Step Row)) (m : Held) → IsLawful a tape m → m.is_blank ≡ false → IsAligned a tape m
unfolding IsLawful
aligned-lawful a tape m (inl b) e = absurd (true≢false (sym (ap (λ (h : Held). h.is_blank) b) ∙ e))
aligned-lawful a tape m (inr al) e = al

-- a lawful map that is blank holds what a blank map holds
pub blank-lawful : (a : ℕ) (tape : List (Step Row)) (m : Held) → IsLawful a tape m → m.is_blank ≡ true → m ≡ blank
unfolding IsLawful
blank-lawful a tape m (inl b) e = b
blank-lawful a tape m (inr al) e = absurd (true≢false (sym e ∙ al.begun))

-- a map that was begun is aligned before the first entry of every tape
pub begun-aligned : (a : ℕ) (tape : List (Step Row)) (tail : Tail) (cells : ℕ) → IsAligned a tape (begun a tail cells)
begun-aligned a tape tail cells = record { begun = refl; same_head = refl; within = omega arith; pairs_are = refl }

-- ---- how many pairs, and what may be replayed
follow-taken : {A : Type 0} (n : ℕ) (es : List (Step A)) (k : ℕ) → AllFollow n es → AllFollow n (take k es)
follow-taken n es zero f = tt
follow-taken n [] (suc k) f = tt
follow-taken n (e ∷ es) (suc k) f = (f.0, follow-taken (count_after n e) es k f.1)

tape-taken : {A : Type 0} (es : List (Step A)) (k : ℕ) → IsTape es → IsTape (take (suc k) es)
tape-taken [] k t = absurd t
tape-taken (loaded xs ∷ es) k t = follow-taken (length xs) es k t
tape-taken (inserted x ∷ es) k t = absurd t
tape-taken (removed n ∷ es) k t = absurd t
tape-taken (ranged l u ∷ es) k t = absurd t

counted-taken : (a : ℕ) (tape : List (Step Row)) (k : ℕ) → IsTape tape → length (joined (rows_by a (take k tape))) ≡ count_from 0 (take k tape)
counted-taken a tape zero t = refl
counted-taken a tape (suc k) t = count-replay (cell_of a) (take (suc k) tape) (tape-taken tape k t)

-- an aligned map has as many pairs as the entries before its cursor say
pub aligned-counted : (a : ℕ) (tape : List (Step Row)) (m : Held) → IsTape tape → IsAligned a tape m → pairs_in m ≡ count_from 0 (take m.cursor tape)
aligned-counted a tape m t al =
    let x : Arrangement Row = rows_by a (take m.cursor tape) in
    ap (λ (p : Arrangement (ℤ × ℤ)). length (joined p)) al.pairs_are ∙ ap length (joined-shown (pair_in a m.tail) x) ∙ length-map (joined x) (pair_in a m.tail) ∙ counted-taken a tape m.cursor t

-- at the tape's end it has as many pairs as the tape says
pub aligned-counted_end : (a : ℕ) (tape : List (Step Row)) (m : Held) → IsTape tape → IsAligned a tape m → m.cursor ≡ length tape → pairs_in m ≡ count_from 0 tape
aligned-counted_end a tape m t al end = aligned-counted a tape m t al ∙ ap (count_from 0) (take_all m.cursor tape (omega (arith, end)))

peak-above : {A : Type 0} (n : ℕ) (es : List (Step A)) (k : ℕ) → k < length es → count_from n (take (suc k) es) ≤ peak_from n es
peak-above n [] k lt = absurd (omega (arith, lt))
peak-above n (e ∷ es) zero lt = omega arith
peak-above n (e ∷ es) (suc k) lt = let h = peak-above (count_after n e) es k (omega (arith, lt)) in omega arith

peak-taken : {A : Type 0} (es : List (Step A)) (k : ℕ) → k ≤ length es → count_from 0 (take k es) ≤ peak_from 0 es
peak-taken es zero le = omega arith
peak-taken es (suc k) le = peak-above 0 es k (omega (arith, le))

-- an aligned map never has more pairs than the tape's peak
pub aligned-room : (a : ℕ) (tape : List (Step Row)) (m : Held) → IsTape tape → IsAligned a tape m → pairs_in m ≤ peak_from 0 tape
aligned-room a tape m t al =
    let e = aligned-counted a tape m t al in
    let h = peak-taken tape m.cursor al.within in
    omega (arith, e, h)

-- nor will it have more after the entry at its cursor
pub after-room : (a : ℕ) (tape : List (Step Row)) (m : Held) (e : Step Row) → IsTape tape → IsAligned a tape m → slice_get tape m.cursor ≡ Some e → pairs_in (after e m) ≤ peak_from 0 tape
after-room a tape m e t al at = aligned-room a tape (after e m) t (aligned-more a tape m e at al)

follow-at : {A : Type 0} (n : ℕ) (es : List (Step A)) (k : ℕ) (e : Step A) → AllFollow n es → slice_get es k ≡ Some e → MayFollow (count_from n (take k es)) e
follow-at n [] k e f at = let no = slice_get_within [] k e at in absurd (omega (arith, no))
follow-at n (x ∷ es) zero e f at = subst (MayFollow n) (some-same x e at) f.0
  where
    some-same : {B : Type 0} (x y : B) → Some x ≡ Some y → x ≡ y
    some-same x y h = cc
follow-at n (x ∷ es) (suc k) e f at = follow-at (count_after n x) es k e f.1 at

later-at : {A : Type 0} (es : List (Step A)) (k : ℕ) (e : Step A) → IsTape es → slice_get es (suc k) ≡ Some e → MayFollow (count_from 0 (take (suc k) es)) e
later-at [] k e t at = absurd t
later-at {A} (loaded xs ∷ es) k e t at =
    let z : length xs ≡ 0 + length xs = omega arith in
    subst (λ (n : ℕ). MayFollow (count_from {A = A} n (take k es)) e) z (follow-at (length xs) es k e t at)
later-at (inserted x ∷ es) k e t at = absurd t
later-at (removed n ∷ es) k e t at = absurd t
later-at (ranged l u ∷ es) k e t at = absurd t

first-loaded : {A : Type 0} (es : List (Step A)) (e : Step A) → IsTape es → slice_get es 0 ≡ Some e → (xs : List A) × (e ≡ loaded xs)
first-loaded [] e t at = absurd t
first-loaded (loaded xs ∷ es) e t at = (xs, cc)
first-loaded (inserted x ∷ es) e t at = absurd t
first-loaded (removed n ∷ es) e t at = absurd t
first-loaded (ranged l u ∷ es) e t at = absurd t

may-at : (m : Held) (k n : ℕ) (e : Step Row) → pairs_in m ≡ n → MayFollow n e → MayReplay m e
may-at m k n (loaded rows) p f = absurd f
may-at m k n (inserted row) p f = tt
may-at m k n (removed place) p f = subst (λ (j : ℕ). place < j) (sym p) f
may-at m k n (ranged l u) p f = tt

may-cases : (a : ℕ) (tape : List (Step Row)) (m : Held) (e : Step Row) (k : ℕ) → IsTape tape → pairs_in m ≡ count_from 0 (take k tape) → slice_get tape k ≡ Some e → m.cursor ≡ k → MayReplay m e
may-cases a tape m e zero t p at c = let l = first-loaded tape e t at in subst (MayReplay m) (sym l.1) c
may-cases a tape m e (suc k) t p at c = may-at m (suc k) (count_from 0 (take (suc k) tape)) e p (later-at tape k e t at)

-- the entry at its cursor is one that an aligned map may replay
pub may-replay : (a : ℕ) (tape : List (Step Row)) (m : Held) (e : Step Row) → IsTape tape → IsAligned a tape m → slice_get tape m.cursor ≡ Some e → MayReplay m e
may-replay a tape m e t al at = may-cases a tape m e m.cursor t (aligned-counted a tape m t al) at refl

-- ---- at the tape's end
-- an aligned map at the tape's end holds the tape's rows, each as its pair
pub ready : (a : ℕ) (tape : List (Step Row)) (m : Held) → IsAligned a tape m → m.cursor ≡ length tape → m.pairs ≡ shown (pair_in a m.tail) (rows_by a tape)
ready a tape m al end = al.pairs_are ∙ ap (λ (v : List (Step Row)). shown (pair_in a m.tail) (rows_by a v)) (take_all m.cursor tape (omega (arith, end)))

-- at the tape's end an aligned map has, place by place, the pairs of the tape's rows
pub ready-joined : (a : ℕ) (tape : List (Step Row)) (m : Held) → IsAligned a tape m → m.cursor ≡ length tape → joined m.pairs ≡ map (pair_in a m.tail) (joined (rows_by a tape))
ready-joined a tape m al end = ap joined (ready a tape m al end) ∙ joined-shown (pair_in a m.tail) (rows_by a tape)

-- ---- places of bounds
place_from-shown : {A B : Type 0} (f : A → B) (b : Bound) (i : ℕ) (x : Arrangement A) → place_from i b (shown f x) ≡ place_from i b x
place_from-shown f b i (last xs) = refl
place_from-shown f b i (piece xs c rest) =
    ap (λ (n : ℕ). cond (same_bound b c) (Some (i + n)) (place_from (i + n) b (shown f rest))) (length-map xs f)
    ∙ ap (λ o. cond (same_bound b c) (Some (i + length xs)) o) (place_from-shown f b (i + length xs) rest)

-- showing items as something else keeps the places
pub place-shown : {A B : Type 0} (f : A → B) (b : Bound) (x : Arrangement A) → place_of b (shown f x) ≡ place_of b x
place-shown f b x = place_from-shown f b 0 x

-- an aligned map at the tape's end has the places of the tape's rows
pub ready-place : (a : ℕ) (tape : List (Step Row)) (m : Held) (b : Bound) → IsAligned a tape m → m.cursor ≡ length tape → place_of b m.pairs ≡ place_of b (rows_by a tape)
ready-place a tape m b al end = ap (place_of b) (ready a tape m al end) ∙ place-shown (pair_in a m.tail) b (rows_by a tape)

place-there : {A : Type 0} (b : Bound) (i : ℕ) (x : Arrangement A) → has_bound b x ≡ true → (n : ℕ) × (place_from i b x ≡ Some n)
place-there b i (last xs) h = absurd (true≢false (sym h))
place-there b i (piece xs c rest) h = elim (cases_Bool (same_bound b c)) [
  | inl here ↦ (i + length xs, rw here refl)
  | inr other ↦ let p = place-there b (i + length xs) rest (rw other at h) in (p.0, rw other p.1)
]

place-nowhere : {A : Type 0} (b : Bound) (i : ℕ) (x : Arrangement A) → has_bound b x ≡ false → place_from i b x ≡ None
place-nowhere b i (last xs) h = refl
place-nowhere b i (piece xs c rest) h = elim (cases_Bool (same_bound b c)) [
  | inl here ↦ absurd (true≢false (rw here at h))
  | inr other ↦ rw other (place-nowhere b (i + length xs) rest (rw other at h))
]

-- a bound that stands in a range of the tape has a place
pub place-marked : (a : ℕ) (tape : List (Step Row)) (b : Bound) → is_marked b tape ≡ true → (n : ℕ) × (place_of b (rows_by a tape) ≡ Some n)
place-marked a tape b h = place-there b 0 (rows_by a tape) (has-replay_from (cell_of a) b tape (last []) ∙ h)

-- and no other bound has
pub place-unmarked : (a : ℕ) (tape : List (Step Row)) (b : Bound) → is_marked b tape ≡ false → place_of b (rows_by a tape) ≡ None
place-unmarked a tape b h = place-nowhere b 0 (rows_by a tape) (has-replay_from (cell_of a) b tape (last []) ∙ h)

-- ---- what a place says of the items
pub same-bound : (b c : Bound) → same_bound b c ≡ true → b ≡ c
same-bound (Before v) (Before w) h = let e : v ≡ w = grind (arith, h) in ap Before e
same-bound (Before v) (After w) h = absurd (true≢false (sym h))
same-bound (After v) (Before w) h = absurd (true≢false (sym h))
same-bound (After v) (After w) h = let e : v ≡ w = grind (arith, h) in ap After e

some-same : {B : Type 0} (x y : B) → Some x ≡ Some y → x ≡ y
some-same x y h = cc

place-from_marks : {A : Type 0} (P : Mark → Type 0) (b : Bound) (i n : ℕ) (x : Arrangement A) → AllByRecursion P (marks_from i x) → place_from i b x ≡ Some n → P (record { bound = b; at = n })
place-from_marks P b i n (last xs) s e = absurd (none-some n e)
  where
    none-some : (n : ℕ) → None ≡ Some n → ⊥
    none-some n h = cc
place-from_marks P b i n (piece xs c rest) s e = elim (cases_Bool (same_bound b c)) [
  | inl here ↦
      let at : i + length xs ≡ n = some-same (i + length xs) n (rw here at e) in
      let is : b ≡ c = same-bound b c here in
      subst (λ (j : ℕ). P (record { bound = b; at = j })) at (subst (λ (d : Bound). P (record { bound = d; at = i + length xs })) (sym is) s.0)
  | inr other ↦ place-from_marks P b (i + length xs) n rest s.1 (rw other at e)
]

left-none : {A : Type 0} (value : A → ℤ) (bs : List Bound) → LeftOfAll value [] bs
left-none value [] = tt
left-none value (b ∷ bs) = (tt, left-none value bs)

-- the items of a tape before a bound's place are left of the bound, the others are not
pub place-sound : (a : ℕ) (tape : List (Step Row)) (b : Bound) (n : ℕ) → IsTape tape → place_of b (rows_by a tape) ≡ Some n → IsSound (cell_of a) (joined (rows_by a tape)) (record { bound = b; at = n })
place-sound a tape b n t e =
    let value : Row → ℤ = cell_of a in
    let x : Arrangement Row = rows_by a tape in
    place-from_marks (λ (m : Mark). IsSound value (joined x) m) b 0 n x
    (marks-sound value [] 0 x refl (left-none value (bounds x)) (replay_from-rises value tape (last []) tt) (replay-ordered value tape t)) e

place_from-within : {A : Type 0} (b : Bound) (i n : ℕ) (x : Arrangement A) → place_from i b x ≡ Some n → (i ≤ n) × (n ≤ i + length (joined x))
place_from-within b i n (last xs) e = absurd (none-some n e)
  where
    none-some : (n : ℕ) → None ≡ Some n → ⊥
    none-some n h = cc
place_from-within b i n (piece xs c rest) e =
    let long = length-append xs (joined rest) in
    elim (cases_Bool (same_bound b c)) [
      | inl here ↦ let at : i + length xs ≡ n = some-same (i + length xs) n (rw here at e) in (omega (arith, at), omega (arith, at, long))
      | inr other ↦ let p = place_from-within b (i + length xs) n rest (rw other at e) in (omega (arith, p.0), omega (arith, p.1, long))
    ]

-- a place is at most the number of items
pub place-within : {A : Type 0} (b : Bound) (n : ℕ) (x : Arrangement A) → place_of b x ≡ Some n → n ≤ length (joined x)
place-within b n x e = let p = place_from-within b 0 n x e in omega (arith, p.1)

below-first : {A : Type 0} (b : Bound) (i : ℕ) (x : Arrangement A) → IsBelowAll b (bounds x) → has_bound b x ≡ false
below-first b i (last xs) al = refl
below-first b i (piece xs c rest) al = let e : same_bound b c ≡ false = below-new b c al.0 in rw e (below-first b i rest al.1)

places-rise_from : {A : Type 0} (b c : Bound) (i k n : ℕ) (x : Arrangement A) → IsRising (bounds x) → bound_below b c ≡ true → place_from i b x ≡ Some k → place_from i c x ≡ Some n → k ≤ n
places-rise_from b c i k n (last xs) r lt p q = absurd (none-some k p)
  where
    none-some : (n : ℕ) → None ≡ Some n → ⊥
    none-some n h = cc
places-rise_from b c i k n (piece xs d rest) r lt p q = elim (cases_Bool (same_bound b d)) [
  | inl here ↦
      let at : i + length xs ≡ k = some-same (i + length xs) k (rw here at p) in
      let is : b ≡ d = same-bound b d here in
      let other : same_bound c d ≡ false = same-flips c d ∙ ap (λ (v : Bound). same_bound v c) (sym is) ∙ below-new b c lt in
      let w = place_from-within c (i + length xs) n rest (rw other at q) in omega (arith, at, w.0)
  | inr past ↦ elim (cases_Bool (same_bound c d)) [
    | inl here ↦
        let is : c ≡ d = same-bound c d here in
        let under : bound_below b d ≡ true = subst (λ (v : Bound). bound_below b v ≡ true) is lt in
        absurd (some-none k (sym (rw past at p) ∙ place-nowhere b (i + length xs) rest (below-first b 0 rest (all-past b d (bounds rest) under r.0))))
    | inr other ↦ places-rise_from b c (i + length xs) k n rest r.1 lt (rw past at p) (rw other at q)
  ]
]
  where
    some-none : (n : ℕ) → Some n ≡ None → ⊥
    some-none n h = cc

    all-past : (b c : Bound) (bs : List Bound) → bound_below b c ≡ true → IsBelowAll c bs → IsBelowAll b bs
    all-past b c [] h al = tt
    all-past b c (x ∷ bs) h al = (below-trans b c x h al.0, all-past b c bs h al.1)

-- of two bounds with places the lower has the lower place
pub places-rise : (a : ℕ) (tape : List (Step Row)) (b c : Bound) (k n : ℕ) → bound_below b c ≡ true → place_of b (rows_by a tape) ≡ Some k → place_of c (rows_by a tape) ≡ Some n → k ≤ n
places-rise a tape b c k n lt p q = places-rise_from b c 0 k n (rows_by a tape) (replay_from-rises (cell_of a) tape (last []) tt) lt p q

-- ---- how many pairs an entry leaves
pub after-pairs : (m : Held) (e : Step Row) → MayReplay m e → pairs_in (after e m) ≡ count_after (pairs_in m) e
after-pairs m (loaded rows) may =
    let f : Row → ℤ × ℤ = pair_in m.head m.tail in
    ap length (load-joined (map f rows) m.pairs) ∙ length-append (joined m.pairs) (map f rows) ∙ ap (λ (n : ℕ). pairs_in m + n) (length-map rows f)
after-pairs m (inserted row) may = count-step head_of (inserted (pair_in m.head m.tail row)) m.pairs tt
after-pairs m (removed place) may = count-step head_of (removed place) m.pairs may
after-pairs m (ranged lower upper) may = count-step head_of (ranged lower upper) m.pairs tt
