-- Maps cleared, one after the other.
use Rattle.std.proofs.Common.{◌≡◌, ◌≢◌, ◌<◌, ◌≤◌, ◌+◌, ◌⊎◌, inl, inr, nat_eq, ℕ, zero, suc, Bool, true, false, true≢false, List, [], ◌∷◌, length, get_or, min, slice_set, refl, sym, ap, ◌∙◌, arith, subst}
use Rattle.std.specs.List.{sum_by}
use Rattle.std.proofs.lemmas.Bool.Decides.{nat_tests}
use Rattle.std.proofs.lemmas.List.Sums.{sum_by-cons}
use Rattle.sw_map.specs.Held.{Held, blank}
use Rattle.sw_set.specs.Prepared.{IsOneCleared, IsSameButBoxes}
use Rattle.sw_set.specs.Shelf.{AreaState}
use Rattle.sw_set.specs.Figures.{cells_among}
use Rattle.sw_chunks.specs.Cleared.{AreBlankBut, AreClearedBut, AreEach, HasMap, cells_in}
use Rattle.sw_chunks.proofs.Asking.{get-any, set-many, set-other, set-same}
use Rattle.sw_chunks.proofs.Steps.{boxes-alike, boxes-both}

-- ---- sums over lists of which one element changes
pub sum-set : {A : Type 0} (f : A → ℕ) (xs : List A) (k : ℕ) (v d : A) → k < length xs → sum_by f (slice_set xs k v) + f (get_or xs k d) ≡ sum_by f xs + f v
sum-set f [] k v d lt = absurd (omega (arith, lt))
sum-set f (x ∷ xs) zero v d lt =
    let new = sum_by-cons f v xs in
    let old = sum_by-cons f x xs in
    omega (arith, new, old)
sum-set f (x ∷ xs) (suc k) v d lt =
    let h = sum-set f xs k v d (omega (arith, lt)) in
    let new = sum_by-cons f x (slice_set xs k v) in
    let old = sum_by-cons f x xs in
    omega (arith, h, new, old)

-- ---- maps of an area
abbrev cells_of : AreaState → ℕ
cells_of x = cells_among x.boxes

-- by whether a box is blank, one if it has a map and zero if not
abbrev pub one-if : Bool → ℕ
one-if true = 0
one-if false = 1

-- how many boxes of an area have maps
abbrev pub maps_of : AreaState → ℕ
maps_of x = sum_by (λ (m : Held). one-if m.is_blank) x.boxes

-- how many boxes of areas have maps
abbrev pub maps_in : List AreaState → ℕ
maps_in xs = sum_by maps_of xs

record IsLess (x v : AreaState) (cells : ℕ) : Type 0 where
  maps : maps_of v + 1 ≡ maps_of x
  cells_are : cells_of v + cells ≡ cells_of x

less-map : (x v : AreaState) (cells : ℕ) → HasMap x → IsOneCleared x.boxes v.boxes cells → IsLess x v cells
less-map x v cells has (inl none) = absurd (true≢false (sym (none.0 has.0 has.1 has.2) ∙ (ap (λ (m : Held). m.is_blank) has.3 ∙ has.4)))
less-map x v cells has (inr one) = record { maps = maps; cells_are = cells_are }
  where
    was : one-if (get_or x.boxes one.0 has.1).is_blank ≡ 1
    was = ap one-if (one.2 has.1).0

    maps : maps_of v + 1 ≡ maps_of x
    maps =
        let h : sum_by (λ (m : Held). one-if m.is_blank) (slice_set x.boxes one.0 blank) + one-if (get_or x.boxes one.0 has.1).is_blank ≡ maps_of x + 0 = sum-set (λ (m : Held). one-if m.is_blank) x.boxes one.0 blank has.1 one.1 in
        let e : sum_by (λ (m : Held). one-if m.is_blank) (slice_set x.boxes one.0 blank) + 1 ≡ maps_of x = omega (arith, h, was) in
        ap (λ l. sum_by (λ (m : Held). one-if m.is_blank) l + 1) one.3 ∙ e

    cells_are : cells_of v + cells ≡ cells_of x
    cells_are =
        let h : sum_by (λ (m : Held). m.cells) (slice_set x.boxes one.0 blank) + (get_or x.boxes one.0 has.1).cells ≡ cells_of x + 0 = sum-set (λ (m : Held). m.cells) x.boxes one.0 blank has.1 one.1 in
        let its : cells ≡ (get_or x.boxes one.0 has.1).cells = (one.2 has.1).1 in
        let e : sum_by (λ (m : Held). m.cells) (slice_set x.boxes one.0 blank) + cells ≡ cells_of x = omega (arith, h, its) in
        ap (λ l. sum_by (λ (m : Held). m.cells) l + cells) one.3 ∙ e

-- maps were cleared; whether enough came back is not said
pub record AreClearing (but cells : ℕ) (xs ys : List AreaState) (came : ℕ) : Type 0 where
  pub same : AreEach IsSameButBoxes xs ys
  pub kept : (d e : AreaState) → but < length xs → get_or ys but e ≡ get_or xs but d
  pub freed : ℕ
  pub told : came ≡ min freed 18446744073709551615
  pub cells_are : cells_in ys + freed ≡ cells_in xs
  pub none : cells ≡ 0 → ys ≡ xs

-- before the first map is cleared the areas are as they were and no cells came back
pub clear-none : (but cells : ℕ) (xs : List AreaState) → AreClearing but cells xs xs 0
clear-none but cells xs =
    record {
      same = (refl, λ k d e lt. subst (IsSameButBoxes (get_or xs k d)) (get-any xs k d e lt) (boxes-alike (get_or xs k d)));
      kept = λ d e lt. get-any xs but e d lt;
      freed = 0;
      told = refl;
      cells_are = omega arith;
      none = λ z. refl;
    }

-- one map more is cleared, in an area that is not the spared one, and fewer maps are left
pub clear-next : (but cells k : ℕ) (xs ys : List AreaState) (v : AreaState) (came c more : ℕ) → came < cells → k < length ys → k ≢ but → ((d : AreaState) → HasMap (get_or ys k d)) → ((d : AreaState) → IsSameButBoxes (get_or ys k d) v) → ((d : AreaState) → IsOneCleared (get_or ys k d).boxes v.boxes c) → more ≡ min (came + c) 18446744073709551615 → AreClearing but cells xs ys came → AreClearing but cells xs (slice_set ys k v) more × (maps_in (slice_set ys k v) < maps_in ys)
clear-next but cells k xs ys v came c more some lt ne has same one is w = (
  record {
    same = (set-many ys k v ∙ w.same.0, each);
    kept = λ d e l. set-other ys k but v e (λ q. ne (sym q)) ∙ w.kept d e l;
    freed = w.freed + c;
    told = let t = w.told in omega (arith, is, t);
    cells_are = let h = w.cells_are in omega (arith, sums, fewer, h);
    none = λ z. absurd (omega (arith, z, some));
  },
  omega (arith, maps, fewer_maps),
)
  where
    less : IsLess (get_or ys k v) v c
    less = less-map (get_or ys k v) v c (has v) (one v)

    fewer : cells_of v + c ≡ cells_of (get_or ys k v)
    fewer = less.cells_are

    fewer_maps : maps_of v + 1 ≡ maps_of (get_or ys k v)
    fewer_maps = less.maps

    sums : cells_in (slice_set ys k v) + cells_of (get_or ys k v) ≡ cells_in ys + cells_of v
    sums = sum-set cells_of ys k v v lt

    maps : maps_in (slice_set ys k v) + maps_of (get_or ys k v) ≡ maps_in ys + maps_of v
    maps = sum-set maps_of ys k v v lt

    same-place : (j k : ℕ) → nat_eq j k ≡ true → j ≡ k
    same-place j k q = grind (arith, nat_tests, q)

    other-place : (j k : ℕ) → nat_eq j k ≡ false → j ≡ k → ⊥
    other-place j k q e = grind (arith, nat_tests, q, e)

    each : (j : ℕ) (d e : AreaState) → j < length xs → IsSameButBoxes (get_or xs j d) (get_or (slice_set ys k v) j e)
    each j d e l = by (nat_eq j k) refl
      where
        by : (t : Bool) → nat_eq j k ≡ t → IsSameButBoxes (get_or xs j d) (get_or (slice_set ys k v) j e)
        by true q =
            subst (λ (n : ℕ). IsSameButBoxes (get_or xs n d) (get_or (slice_set ys k v) n e)) (sym (same-place j k q))
            (subst (IsSameButBoxes (get_or xs k d)) (sym (set-same ys k v e lt))
            (boxes-both (get_or xs k d) (get_or ys k d) v (w.same.1 k d d (subst (λ (n : ℕ). n < length xs) (same-place j k q) l)) (same d)))
        by false q = subst (IsSameButBoxes (get_or xs j d)) (sym (set-other ys k j v e (other-place j k q))) (w.same.1 j d e l)

-- where enough cells came back, or no other area has a map, the maps are cleared that were to be
pub clear-enough : (but cells : ℕ) (xs ys : List AreaState) (came : ℕ) → AreClearing but cells xs ys came → (cells ≤ came) ⊎ AreBlankBut but ys → AreClearedBut but cells xs ys came
clear-enough but cells xs ys came w end =
    record { same = w.same; kept = w.kept; freed = w.freed; told = w.told; cells_are = w.cells_are; enough = end; none = w.none }
