-- Binary search among rising marks, and what it finds.
use Rattle.std.proofs.Common.{◌≡◌, ℕ, suc, zero, ◌+◌, ◌-◌, ◌<◌, ◌≤◌, Bool, true, false, not, cond, None, Some, List, [], ◌∷◌, length, drop, get_or, refl, sym, ap, ◌∙◌, ◌⊎◌, arith, subst, inl, inr}
use Rattle.std.specs.Bool.{Decides}
use Rattle.std.specs.List.Sorted.{IsPartitionPoint, IsPartitionedBy}
use Rattle.std.proofs.lemmas.Bool.{cases_Bool, true≢false}
use Rattle.sw_query.specs.declared.bound.Bound.{Bound}
use Rattle.sw_query.specs.Bounds.{bound_below, same_bound}
use Rattle.sw_kernel.specs.declared.mark.Mark.{Mark}
use Rattle.sw_kernel.specs.Arrangement.{Arrangement, last, piece}
use Rattle.sw_kernel.specs.Flat.{InOrder, IsNew, end_before, marks_below, marks_from, start_at}
use Rattle.sw_kernel.specs.Tapes.{IsBelowAll, IsRising}
use Rattle.sw_kernel.proofs.Marks.{order-end}
use Rattle.sw_kernel.proofs.Orders.{below-trans, below-new, between-new, same-below}
use Rattle.sw_map.specs.Held.{place_from, place_of}
use Rattle.sw_map.specs.Pieces.{IsBefore, bounds_of, mark_of, pieces_between}
use Rattle.sw_map.proofs.Layouts.{pieces-marks}

-- the first n marks do not stand above the bound
abbrev NotAbove : Bound → List Mark → ℕ → Type 0
NotAbove b ms n = (k : ℕ) (d : Mark) → k < n → bound_below b (get_or ms k d).bound ≡ false

-- those from the n-th on do
abbrev FromAbove : Bound → List Mark → ℕ → Type 0
FromAbove b ms n = (k : ℕ) (d : Mark) → n ≤ k → k < length ms → bound_below b (get_or ms k d).bound ≡ true

nope : {A : Type 0} (k : ℕ) → k < 0 → A
nope k lt = absurd (omega (arith, lt))

-- the item at a place of the list is the same, whatever stands for one that is not there
pub at-any : {A : Type 0} (ms : List A) (k : ℕ) (d e : A) → k < length ms → get_or ms k d ≡ get_or ms k e
at-any [] k d e lt = nope k lt
at-any (m ∷ ms) zero d e lt = refl
at-any (m ∷ ms) (suc k) d e lt = at-any ms k d e (omega (arith, lt))

all-at : (b : Bound) (ms : List Mark) → IsBelowAll b (bounds_of ms) → (k : ℕ) (d : Mark) → k < length ms → bound_below b (get_or ms k d).bound ≡ true
all-at b [] h k d lt = nope k lt
all-at b (m ∷ ms) h zero d lt = h.0
all-at b (m ∷ ms) h (suc k) d lt = all-at b ms h.1 k d (omega (arith, lt))

-- of rising marks an earlier one has the lower bound
pub rising-at : (ms : List Mark) → IsRising (bounds_of ms) → (j k : ℕ) (d : Mark) → j < k → k < length ms → bound_below (get_or ms j d).bound (get_or ms k d).bound ≡ true
rising-at [] r j k d lt le = nope k le
rising-at (m ∷ ms) r j zero d lt le = nope j lt
rising-at (m ∷ ms) r zero (suc k) d lt le = all-at m.bound ms r.0 k d (omega (arith, le))
rising-at (m ∷ ms) r (suc j) (suc k) d lt le = rising-at ms r.1 j k d (omega (arith, lt)) (omega (arith, le))

-- where the first n marks do not stand above the bound and the others do, n stand before it
pub search-is : (b : Bound) (ms : List Mark) (n : ℕ) → n ≤ length ms → NotAbove b ms n → FromAbove b ms n → marks_below ms b ≡ n
search-is b [] n le low high = omega (arith, le)
search-is b (m ∷ ms) zero le low high = let e : bound_below b m.bound ≡ true = high 0 m (omega arith) (omega arith) in rw e refl
search-is b (m ∷ ms) (suc n) le low high =
    let e : bound_below b m.bound ≡ false = low 0 m (omega arith) in
    let h : marks_below ms b ≡ n = search-is b ms n (omega (arith, le)) (λ k d lt. low (suc k) d (omega (arith, lt))) (λ k d ge lt. high (suc k) d (omega (arith, ge)) (omega (arith, lt))) in
    rw e (ap suc h)

-- a number that is not above another is the same or below it
pub same-or-less : (j k : ℕ) → j ≤ k → (j ≡ k) ⊎ (j < k)
same-or-less zero zero le = inl refl
same-or-less zero (suc k) le = inr (omega arith)
same-or-less (suc j) zero le = inr (nope j (omega (arith, le)))
same-or-less (suc j) (suc k) le = elim (same-or-less j k (omega (arith, le))) [ inl e ↦ inl (ap suc e) | inr lt ↦ inr (omega (arith, lt)) ]

not-true : (x : Bool) → (x ≡ true → ⊥) → x ≡ false
not-true true h = absurd (h refl)
not-true false h = refl

all-new : (b c : Bound) (ms : List Mark) → bound_below b c ≡ true → IsBelowAll c (bounds_of ms) → IsNew b ms
all-new b c [] h a = tt
all-new b c (m ∷ ms) h a = (below-new b m.bound (below-trans b c m.bound h a.0), all-new b c ms h a.1)

-- a first mark that does not stand above the bound is one more before it
pub step-on : (b : Bound) (m : Mark) (ms : List Mark) → bound_below b m.bound ≡ false → marks_below (m ∷ ms) b ≡ suc (marks_below ms b)
step-on b m ms e = rw e refl

-- where the first mark stands above the bound, none stands before it
pub step-no : (b : Bound) (m : Mark) (ms : List Mark) → bound_below b m.bound ≡ true → marks_below (m ∷ ms) b ≡ 0
step-no b m ms e = rw e refl

-- no fewer marks stand before a higher bound
pub below-rises : (b c : Bound) (ms : List Mark) → bound_below b c ≡ true → marks_below ms b ≤ marks_below ms c
below-rises b c [] h = omega arith
below-rises b c (m ∷ ms) h = elim (cases_Bool (bound_below b m.bound)) [
  | inl first ↦ let z = step-no b m ms first in omega (arith, z)
  | inr past ↦ elim (cases_Bool (bound_below c m.bound)) [
    | inl under ↦ absurd (true≢false (sym (below-trans b c m.bound h under) ∙ past))
    | inr on ↦
        let ih = below-rises b c ms h in
        let z = step-on b m ms past in
        let w = step-on c m ms on in
        omega (arith, ih, z, w)
  ]
]

-- a bound is new where the mark before its place has another
pub new-at : (b : Bound) (ms : List Mark) (n : ℕ) (d : Mark) → marks_below ms b ≡ n → IsRising (bounds_of ms) → (0 < n → same_bound b (get_or ms (n - 1) d).bound ≡ false) → IsNew b ms
new-at b [] n d e r h = tt
new-at b (m ∷ ms) zero d e r h = elim (cases_Bool (bound_below b m.bound)) [
  | inl here ↦ (below-new b m.bound here, all-new b m.bound ms here r.0)
  | inr past ↦ let z : suc (marks_below ms b) ≡ 0 = sym (step-on b m ms past) ∙ e in absurd (omega (arith, z))
]
new-at b (m ∷ ms) (suc zero) d e r h = elim (cases_Bool (bound_below b m.bound)) [
  | inl here ↦ (below-new b m.bound here, all-new b m.bound ms here r.0)
  | inr past ↦ let z : suc (marks_below ms b) ≡ 1 = sym (step-on b m ms past) ∙ e in (h (omega arith), new-at b ms zero d (omega (arith, z)) r.1 (λ lt. nope 0 lt))
]
new-at b (m ∷ []) (suc (suc n)) d e r h = elim (cases_Bool (bound_below b m.bound)) [
  | inl here ↦ (below-new b m.bound here, tt)
  | inr past ↦ let z : 1 ≡ suc (suc n) = sym (step-on b m [] past) ∙ e in absurd (omega (arith, z))
]
new-at b (m ∷ (x ∷ xs)) (suc (suc n)) d e r h = elim (cases_Bool (bound_below b m.bound)) [
  | inl here ↦ (below-new b m.bound here, all-new b m.bound (x ∷ xs) here r.0)
  | inr past ↦
      let z : suc (marks_below (x ∷ xs) b) ≡ suc (suc n) = sym (step-on b m (x ∷ xs) past) ∙ e in
      let z' : marks_below (x ∷ xs) b ≡ suc n = omega (arith, z) in
      let one : suc (suc n) - 1 ≡ suc n = omega arith in
      let two : n ≡ suc n - 1 = omega arith in
      let q : same_bound b (get_or (m ∷ (x ∷ xs)) (suc n) d).bound ≡ false = subst (λ (k : ℕ). same_bound b (get_or (m ∷ (x ∷ xs)) k d).bound ≡ false) one (h (omega arith)) in
      let q' : same_bound b (get_or (x ∷ xs) (suc n - 1) d).bound ≡ false = subst (λ (k : ℕ). same_bound b (get_or (x ∷ xs) k d).bound ≡ false) two q in
      let ih = new-at b (x ∷ xs) (suc n) d z' r.1 (λ lt. q') in
      elim (cases_Bool (bound_below b x.bound)) [
        | inl first ↦ let w : 0 ≡ suc n = sym (step-no b x xs first) ∙ z' in absurd (omega (arith, w))
        | inr on ↦ (between-new b m.bound x.bound on r.0.0, ih)
      ]
]

-- where no mark before the k-th piece has the bound, the one that stands there has another
pub not-before : (k : ℕ) (b : Bound) (ms : List Mark) (d : Mark) (r : Bool) → k ≤ length ms → Decides r (IsBefore k b ms) → r ≡ false → 0 < k → same_bound b (get_or ms (k - 1) d).bound ≡ false
not-before k b ms d r le is off some = not-true (same_bound b (get_or ms (k - 1) d).bound) (λ t. true≢false (sym (is.1 (some, λ e. ap (λ (m : Mark). same_bound b m.bound) (at-any ms (k - 1) e d (omega arith)) ∙ t)) ∙ off))

-- the piece after a mark begins at the mark's place
pub start-at : (i : ℕ) (ms : List Mark) (k : ℕ) (d : Mark) → k < length ms → start_at i ms (suc k) ≡ (get_or ms k d).at
start-at i [] k d lt = nope k lt
start-at i (m ∷ ms) zero d lt = start-zero m.at ms
  where
    start-zero : (j : ℕ) (l : List Mark) → start_at j l 0 ≡ j
    start-zero j [] = refl
    start-zero j (x ∷ l) = refl
start-at i (m ∷ ms) (suc k) d lt = start-at m.at ms k d (omega (arith, lt))

-- of marks in order each piece begins no later than it ends, and ends within the n items
pub start-end : (i n : ℕ) (ms : List Mark) (k : ℕ) → InOrder i n ms → k ≤ length ms → (start_at i ms k ≤ end_before (drop k ms) n) × (end_before (drop k ms) n ≤ n)
start-end i n [] zero o le = (o, omega arith)
start-end i n [] (suc k) o le = absurd (omega (arith, le))
start-end i n (m ∷ ms) zero o le = (o.0, order-end m.at n ms o.1)
start-end i n (m ∷ ms) (suc k) o le = start-end m.at n ms k o.1 (omega (arith, le))

-- ---- the mark that is found
pub mark-new : (b : Bound) (ms : List Mark) → IsNew b ms → mark_of b ms ≡ None
mark-new b [] new = refl
mark-new b (m ∷ ms) new = let e = new.0 in rw e (mark-new b ms new.1)

-- of rising marks the one that has the bound is the one found for it
pub mark-there : (b : Bound) (ms : List Mark) (n : ℕ) (d : Mark) → IsRising (bounds_of ms) → n < length ms → same_bound b (get_or ms n d).bound ≡ true → mark_of b ms ≡ Some (get_or ms n d).at
mark-there b [] n d r lt h = absurd (omega (arith, lt))
mark-there b (m ∷ ms) zero d r lt h = rw h refl
mark-there b (m ∷ ms) (suc n) d r lt h = elim (cases_Bool (same_bound b m.bound)) [
  | inl here ↦
      let c : Bound = (get_or ms n d).bound in
      let q : bound_below m.bound c ≡ true = rising-at (m ∷ ms) r 0 (suc n) d (omega arith) lt in
      absurd (true≢false (sym h ∙ below-new b c (same-below b m.bound c here q)))
  | inr other ↦ rw other (mark-there b ms n d r.1 (omega (arith, lt)) h)
]

-- a bound's place between the pieces is its mark's place
pub place-mark : {A : Type 0} (b : Bound) (i : ℕ) (a : Arrangement A) → place_from i b a ≡ mark_of b (marks_from i a)
place-mark b i (last xs) = refl
place-mark b i (piece xs c rest) = ap (λ o. cond (same_bound b c) (Some (i + length xs)) o) (place-mark b (i + length xs) rest)

-- a bound's place between the pieces that marks in order make is its mark's place
pub place-pieces : {A : Type 0} (b : Bound) (zs : List A) (ms : List Mark) → InOrder 0 (length zs) ms → place_of b (pieces_between 0 zs ms) ≡ mark_of b ms
place-pieces b zs ms o = place-mark b 0 (pieces_between 0 zs ms) ∙ ap (mark_of b) (pieces-marks 0 (length zs) zs ms (omega arith) o)

-- ---- the partition point of the search
below-not : (x : Bool) → not x ≡ true → x ≡ false
below-not true h = absurd (true≢false (sym h))
below-not false h = refl

below-is : (x : Bool) → not x ≡ false → x ≡ true
below-is true h = refl
below-is false h = absurd (true≢false h)

-- no mark above the bound comes before one that is not
pub marks-parted : (b : Bound) (ms : List Mark) → IsRising (bounds_of ms) → IsPartitionedBy (λ m. not (bound_below b m.bound)) ms
marks-parted b ms r i j d le lt e = elim (same-or-less i j le) [
  | inl s ↦ ap (λ (n : ℕ). not (bound_below b (get_or ms n d).bound)) s ∙ e
  | inr s ↦
      let under : bound_below (get_or ms i d).bound (get_or ms j d).bound ≡ true = rising-at ms r i j d s lt in
      let no : bound_below b (get_or ms j d).bound ≡ false = below-not (bound_below b (get_or ms j d).bound) e in
      ap not (not-true (bound_below b (get_or ms i d).bound) (λ t. true≢false (sym (below-trans b (get_or ms i d).bound (get_or ms j d).bound t under) ∙ no)))
]

-- the point from which on the marks stand above the bound is how many stand before it
pub marks-point : (b : Bound) (ms : List Mark) (n : ℕ) → n ≤ length ms → IsPartitionPoint (λ m. not (bound_below b m.bound) ≡ true) (λ m. not (bound_below b m.bound) ≡ false) ms n → marks_below ms b ≡ n
marks-point b ms n le p = search-is b ms n le
    (λ k d lt. below-not (bound_below b (get_or ms k d).bound) (p.0 k d (omega arith) lt))
    (λ k d ge lt. below-is (bound_below b (get_or ms k d).bound) (p.1 k d ge lt))
