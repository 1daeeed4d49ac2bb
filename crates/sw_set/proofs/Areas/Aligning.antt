-- One box among others, and an area of which one was stepped on.
use Rattle.std.proofs.Common.{◌≡◌, ℕ, ◌<◌, ℤ, false, List, length, get_or, set, map, ap, sym, ◌∙◌, subst, arith, All, Option, Result, Ok, Err, MatchResult, OnErr}
use Rattle.std.proofs.lemmas.List.{get_or-map, length-map, map-set}
use Rattle.std.proofs.lemmas.List.Elements.{All-set}
use Rattle.sw_table.specs.declared.row.Row.{Row}
use Rattle.sw_table.specs.declared.row.Update.{Update}
use Rattle.sw_query.specs.declared.refusal.Refusal.{Refusal}
use Rattle.sw_query.specs.declared.refusal.Refusal.TheVariants.{NoMemory}
use Rattle.sw_kernel.specs.Replay.{Step}
use Rattle.sw_map.specs.Held.{Held, blank}
use Rattle.sw_map.specs.Lawful.{IsAligned, IsLawful}
use Rattle.sw_map.proofs.Replays.{aligned-lawful}
use Rattle.sw_set.specs.Shelf.{IsAreaLawful}
use Rattle.sw_set.specs.Aligned.{AreSameMaps, IsSameMap}
use Rattle.sw_set.specs.Boxed.{IsSetAt}
use Rattle.sw_set.specs.Sought.{HasReachedOr}
use Rattle.sw_set.proofs.Areas.Boxes.{get_or-here, lawful-after, own-aligned, same-refl, same-set}
use Rattle.sw_set.proofs.Areas.Shelves.{apart-same, area-with, area_of, leases-same}

-- ---- a box, by what it holds
module _ {X : Type 0} (h : X → Held) (ms : List Held) (xs : List X) (at : ℕ) (x : X) (is : map h xs ≡ ms) (within : at < length ms) (here : x ≡ get_or xs at x) where
  -- the place is one of the boxes
  pub at-inside : at < length xs
  at-inside = let one = length-map xs h in let two : length (map h xs) ≡ length ms = ap length is in omega (arith, one, two, within)

  -- what the box holds is what stands at its place
  pub at-own : (d : Held) → h x ≡ get_or ms at d
  at-own d = ap h here ∙ sym (get_or-map h xs at x d at-inside) ∙ ap (λ (v : List Held). get_or v at d) is

  -- what holds of the place holds of what the box holds
  pub at-place : (P : Held → Type 0) → ((d : Held) → P (get_or ms at d)) → P (h x)
  at-place P p = subst P (sym (at-own (h x))) (p (h x))

  module _ (y : X) where
    -- with y put at the place, of whose map P holds, what the boxes hold is set there to a map of which P holds
    pub at-set : (P : Held → Type 0) → P (h y) → IsSetAt ms at P (map h (set xs at y))
    at-set P p = (h y, p, map-set h xs at y ∙ ap (λ (v : List Held). set v at (h y)) is)

    -- with y put at the place, which holds the same map, the boxes hold the same maps
    pub at-maps : IsSameMap (h x) (h y) → AreSameMaps ms (map h (set xs at y))
    at-maps same =
        subst (AreSameMaps ms) (sym (map-set h xs at y ∙ ap (λ (v : List Held). set v at (h y)) is))
        (same-set ms ms at (h y) (same-refl ms) within (λ d. subst (λ (m : Held). IsSameMap m (h y)) (at-own d) same))

    -- with y put at the place, the cursor there is at the end; or there was no memory, and it was before it
    pub at-ends : {U : Type 0} (r : Result U Refusal) (end : ℕ) → MatchResult r (λ _. (h y).cursor ≡ end) (λ e. e ≡ NoMemory) → OnErr r ((h x).cursor < end) → HasReachedOr r at end ms (map h (set xs at y))
    at-ends (Ok u) end ends behind = λ d. ap (λ (m : Held). m.cursor) (get_or-here h xs at y d at-inside) ∙ ends
    at-ends (Err e) end ends behind = λ d.
        let cursors : (get_or ms at d).cursor ≡ (h x).cursor = ap (λ (m : Held). m.cursor) (sym (at-own d)) in
        omega (arith, cursors, behind)

-- ---- a box of a lawful area
module _ (a : ℕ) (tape : List (Step Row)) (ms : List Held) (at : ℕ) (m : Held) (within : at < length ms) (here : (d : Held) → m ≡ get_or ms at d) (begun : (d : Held) → (get_or ms at d).is_blank ≡ false) (laws : All (IsLawful a tape) ms) where
  own-lawful : IsLawful a tape m
  own-lawful = subst (IsLawful a tape) (sym (here m)) (laws at m within)

  own-begun : m.is_blank ≡ false
  own-begun = ap (λ (v : Held). v.is_blank) (here m) ∙ begun m

  -- where no box is blank, the map's head is the area's
  pub box-head : m.head ≡ a
  box-head = (aligned-lawful a tape m own-lawful own-begun).same_head

  -- where no box is blank, the map is aligned with the tape, by its own head
  pub box-aligned : IsAligned m.head tape m
  box-aligned = own-aligned a tape m own-lawful own-begun

-- ---- the area after it was stepped on
pub area-stepped : (a : ℕ) (f b : Option ℤ) (inb : List Update) (sp : ℕ) (tape : List (Step Row)) (ms ns : List Held) (at : ℕ) → at < length ms → ((d : Held) → (get_or ms at d).is_blank ≡ false) → ((d : Held) → IsSetAt ms at (IsAligned (get_or ms at d).head tape) ns) → AreSameMaps ms ns → IsAreaLawful (area_of a f b inb sp tape ms) → IsAreaLawful (area_of a f b inb sp tape ns)
area-stepped a f b inb sp tape ms ns at lt begun stepped same w = by (stepped blank)
  where
    by : IsSetAt ms at (IsAligned (get_or ms at blank).head tape) ns → IsAreaLawful (area_of a f b inb sp tape ns)
    by (n, al, is) =
        let law : IsLawful a tape n = lawful-after a tape (get_or ms at blank) n (w.boxes at blank lt) (begun blank) al in
        let laws : All (IsLawful a tape) ns = subst (All (IsLawful a tape)) (sym is) (All-set (IsLawful a tape) ms at n law w.boxes) in
        area-with a f b inb sp tape ms ns laws (leases-same ms ns w.leases same) (apart-same ms ns w.apart same) w
