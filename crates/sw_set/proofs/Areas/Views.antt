-- What looks at the map of a tail say of all boxes.
use Rattle.std.proofs.Common.{◌≡◌, ◌≢◌, ℕ, ◌<◌, ◌⊎◌, ℤ, inl, inr, false, true≢false, List, length, get_or, set, refl, ap, sym, ◌∙◌, arith, subst, All, Any, MatchOption, Option, Some, None}
use Rattle.std.proofs.Math.ListN.{length-set}
use Rattle.sw_query.specs.declared.bound.Bound.{Bound}
use Rattle.sw_map.specs.declared.tail.Tail.{Tail}
use Rattle.sw_map.specs.Held.{Held, blank, place_of}
use Rattle.sw_table.specs.declared.row.Row.{Row}
use Rattle.sw_table.specs.declared.row.Update.{Update}
use Rattle.sw_kernel.specs.Replay.{Step}
use Rattle.sw_map.specs.Lawful.{IsLawful}
use Rattle.sw_map.proofs.Replays.{lawful-blank}
use Rattle.sw_set.specs.Shelf.{AreApart, HasLease, IsAreaLawful}
use Rattle.sw_set.specs.Boxed.{IsCleared, IsKeptOrCleared, IsOneCleared}
use Rattle.sw_set.proofs.Areas.Boxes.{get_or_any, set-each}
use Rattle.sw_set.proofs.Areas.Shelves.{area-set, area-with, area_of, blank-not}
use Rattle.sw_set.proofs.Preparing.Ends.{only-place}

-- what holds of the box at a place
pub any-at : (ms : List Held) (at : ℕ) (P : Held → Type 0) → at < length ms → ((d : Held) → P (get_or ms at d)) → Any P ms
any-at ms at P lt p = (at, get_or ms at blank, lt, get_or_any ms at (get_or ms at blank) blank lt, p blank)

-- the box at a place has a map of the tail
abbrev pub IsOwn : Tail → List Held → ℕ → Type 0
IsOwn t ms at = (d : Held) → ((get_or ms at d).is_blank ≡ false) × ((get_or ms at d).tail ≡ t)

-- what holds of the box of a tail holds of each box that has a map of that tail
pub all-own : (ms : List Held) (at : ℕ) (t : Tail) (P : Held → Type 0) → AreApart ms → at < length ms → IsOwn t ms at → ((d : Held) → P (get_or ms at d)) → All (λ m. m.is_blank ≡ false → m.tail ≡ t → P m) ms
all-own ms at t P apart lt own p k d l b e =
    let here : k ≡ at = only-place ms k at d d apart l lt b (own d).0 (e ∙ sym (own d).1) in
    subst (λ (j : ℕ). P (get_or ms j d)) (sym here) (p d)

-- where no two boxes have one tail, the map of a tail is cleared when the box that has it is set blank
pub cleared-set : (ms : List Held) (at : ℕ) (t : Tail) → AreApart ms → at < length ms → IsOwn t ms at → IsCleared t ms (set ms at blank)
unfolding AreApart
cleared-set ms at t apart lt own = record {
  many = length-set ms at blank;
  gone = set-each (λ (j : ℕ) (v : Held). v.is_blank ≡ false → v.tail ≢ t) ms at blank (λ b. absurd (true≢false b)) (λ j e nj l b same. apart j at e e l lt nj b (own e).0 (same ∙ sym (own e).1));
  kept = λ k d l. let s = length-set ms at blank in set-each (λ (j : ℕ) (v : Held). (v ≡ get_or ms j d) ⊎ ((v ≡ blank) × ((get_or ms j d).tail ≡ t))) ms at blank (inr (refl, (own d).1)) (λ j e nj lj. inl (get_or_any ms j e d lj)) k d (omega arith);
}

-- where a tail's box has the place of a bound, or lacks it, some map of the tail has it, or each lacks it
pub placed : (r : Option ℕ) (ms : List Held) (at : ℕ) (t : Tail) (b : Bound) → AreApart ms → at < length ms → IsOwn t ms at → ((d : Held) → r ≡ place_of b (get_or ms at d).pairs) → MatchOption r (All (λ m. m.is_blank ≡ false → m.tail ≡ t → place_of b m.pairs ≡ None) ms) (λ n. Any (λ m. (m.is_blank ≡ false) × (m.tail ≡ t) × (place_of b m.pairs ≡ Some n)) ms)
placed None ms at t b apart lt own is = all-own ms at t (λ m. place_of b m.pairs ≡ None) apart lt own (λ d. sym (is d))
placed (Some n) ms at t b apart lt own is = any-at ms at (λ m. (m.is_blank ≡ false) × (m.tail ≡ t) × (place_of b m.pairs ≡ Some n)) lt (λ d. ((own d).0, (own d).1, sym (is d)))

-- ---- an area of which maps were cleared
was : (t : Tail) (m n : Held) → IsKeptOrCleared t m n → n.is_blank ≡ false → n ≡ m
was t m n (inl is) b = is
was t m n (inr is) b = blank-not b is.0

-- an area stays lawful when the map of a tail is cleared
pub area-cleared : (t : Tail) (a : ℕ) (f b : Option ℤ) (inb : List Update) (sp : ℕ) (tape : List (Step Row)) (ms ns : List Held) → IsCleared t ms ns → IsAreaLawful (area_of a f b inb sp tape ms) → IsAreaLawful (area_of a f b inb sp tape ns)
unfolding AreApart
area-cleared t a f b inb sp tape ms ns c w =
    area-with a f b inb sp tape ms ns (all (IsLawful a tape) (lawful-blank a tape) w.boxes) (all HasLease (λ no. absurd (true≢false no)) w.leases)
    (λ i j d e li lj ne bi bj eq.
    let many = c.many in
    let one = was t _ _ (c.kept i d (omega (arith, li, many))) bi in
    let two = was t _ _ (c.kept j e (omega (arith, lj, many))) bj in
    w.apart i j d e (omega (arith, li, many)) (omega (arith, lj, many)) ne (ap (λ (m : Held). m.is_blank) (sym one) ∙ bi) (ap (λ (m : Held). m.is_blank) (sym two) ∙ bj) (ap (λ (m : Held). m.tail) (sym one) ∙ eq ∙ ap (λ (m : Held). m.tail) two))
    w
  where
    either : (P : Held → Type 0) (m n : Held) → P blank → IsKeptOrCleared t m n → P m → P n
    either P m n none (inl is) p = subst P (sym is) p
    either P m n none (inr is) p = subst P (sym is.0) none

    all : (P : Held → Type 0) → P blank → All P ms → All P ns
    all P none ps k d lt = let many = c.many in either P (get_or ms k d) (get_or ns k d) none (c.kept k d (omega (arith, lt, many))) (ps k d (omega (arith, lt, many)))

-- an area stays lawful when one map is cleared, or none was there
pub area-one-cleared : (a : ℕ) (f b : Option ℤ) (inb : List Update) (sp : ℕ) (tape : List (Step Row)) (ms ns : List Held) (cells : ℕ) → IsOneCleared ms ns cells → IsAreaLawful (area_of a f b inb sp tape ms) → IsAreaLawful (area_of a f b inb sp tape ns)
area-one-cleared a f b inb sp tape ms ns cells (inl none) w = subst (λ (v : List Held). IsAreaLawful (area_of a f b inb sp tape v)) (sym none.1) w
area-one-cleared a f b inb sp tape ms ns cells (inr (at, lt, leased, is)) w =
    subst (λ (v : List Held). IsAreaLawful (area_of a f b inb sp tape v)) (sym is)
    (area-set a f b inb sp tape ms at blank (lawful-blank a tape) (λ no. absurd (true≢false no)) (λ no. absurd (true≢false no)) w)

-- there are as many boxes after one map was cleared
pub many-one-cleared : (ms ns : List Held) (cells : ℕ) → IsOneCleared ms ns cells → length ns ≡ length ms
many-one-cleared ms ns cells (inl none) = ap length none.1
many-one-cleared ms ns cells (inr (at, lt, leased, is)) = ap length is ∙ length-set ms at blank
