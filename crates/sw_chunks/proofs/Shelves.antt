-- Boxes that come to areas, and boxes that go.
use Rattle.std.proofs.Common.{◌≡◌, ◌≢◌, ◌<◌, ◌≤◌, ◌+◌, ◌-◌, ◌++◌, nat_eq, ℕ, suc, Bool, true, false, List, [], ◌∷◌, length, get_or, slice_set, refl, sym, ap, ◌∙◌, arith, subst, Result, Ok, Err, MatchResult}
use Rattle.std.proofs.lemmas.List.Sorted.{IsPermutation-refl}
use Rattle.std.proofs.lemmas.List.Sums.{sum_by-cons}
use Rattle.sw_map.specs.Held.{blank}
use Rattle.sw_table.specs.declared.row.Row.{Row}
use Rattle.sw_set.specs.Prepared.{IsShed}
use Rattle.sw_set.specs.Shelf.{AreaState, came_in, rows_in}
use Rattle.sw_chunks.specs.Heads.{AreAreasOf, HeadState, IsHeadLawful, IsSupplied, StandsFor, interval_of}
use Rattle.sw_chunks.specs.Shelved.{AreShed, HasParted, IsFewest, IsSameButShelf, boxes_in}
use Rattle.sw_chunks.proofs.Asking.{get-any, set-many, set-other, set-same}
use Rattle.sw_chunks.proofs.Clears.{sum-set}
use Rattle.sw_chunks.proofs.Rooms.{lower-place, other-place, same-place}
use Rattle.sw_chunks.proofs.Standing.{map-alike}
use Rattle.sw_chunks.proofs.Steps.{set-self}

-- the areas before a place were asked for boxes, until so many had come
pub record AreShedTo (most k : ℕ) (xs ys : List AreaState) (gone : ℕ) : Type 0 where
  pub many : length ys ≡ length xs
  pub same : (j : ℕ) (d e : AreaState) → j < length xs → IsSameButShelf (get_or xs j d) (get_or ys j e)
  pub parted : (j : ℕ) (d e : AreaState) → j < length xs → HasParted (get_or xs j d) (get_or ys j e)
  pub boxes : boxes_in ys + gone ≡ boxes_in xs
  pub few : gone ≤ most
  pub bare : gone < most → (j : ℕ) (d : AreaState) → j < k → j < length xs → length (get_or ys j d).boxes ≡ 0
  pub left : (j : ℕ) (d e : AreaState) → k ≤ j → j < length xs → get_or ys j e ≡ get_or xs j d
  pub lowest : (i j : ℕ) (d e : AreaState) → i < j → j < length xs → 0 < length (get_or ys i d).boxes → get_or ys j e ≡ get_or xs j e

shelf-alike : (x : AreaState) → IsSameButShelf x x
shelf-alike x = record { attribute = refl; from = refl; below = refl; inbox = refl; spare = refl; tape = refl }

-- before the first area is asked no box is gone
pub shed-none : (most : ℕ) (xs : List AreaState) → AreShedTo most 0 xs xs 0
shed-none most xs =
    record {
      many = refl;
      same = λ j d e lt. subst (IsSameButShelf (get_or xs j d)) (get-any xs j d e lt) (shelf-alike (get_or xs j d));
      parted = λ j d e lt. subst (HasParted (get_or xs j d)) (get-any xs j d e lt) ([], IsPermutation-refl (get_or xs j d).boxes);
      boxes = let e : boxes_in xs + 0 ≡ boxes_in xs = omega arith in e;
      few = omega arith;
      bare = λ l j d below lt. absurd (omega (arith, below));
      left = λ j d e le lt. get-any xs j e d lt;
      lowest = λ i j d e below lt some. refl;
    }

-- one area more was asked
pub shed-next : (most k : ℕ) (xs ys : List AreaState) (gone came more : ℕ) (r v : AreaState) → k < length xs → gone < most → AreShedTo most k xs ys gone → IsShed (most - gone) (get_or ys k r) v came → (came < most - gone → length v.boxes ≡ 0) → more ≡ gone + came → AreShedTo most (k + 1) xs (slice_set ys k v) more
shed-next most k xs ys gone came more r v lt less w is none sum =
    record { many = set-many ys k v ∙ w.many; same = same; parted = parted; boxes = boxes; few = few; bare = bare; left = left; lowest = lowest }
  where
    here : k < length ys
    here = let m = w.many in omega (arith, lt, m)

    few : more ≤ most
    few = let f = is.few in omega (arith, f, less, sum)

    was : (d : AreaState) → get_or ys k r ≡ get_or xs k d
    was d = w.left k d r (omega arith) lt

    -- a statement of each place: of the one that was asked, and of the others
    each : (P : ℕ → AreaState → Type 0) → P k v → ((j : ℕ) (e : AreaState) → nat_eq j k ≡ false → j < length xs → P j (get_or ys j e)) → (j : ℕ) (e : AreaState) → j < length xs → P j (get_or (slice_set ys k v) j e)
    each P at others j e l = by (nat_eq j k) refl
      where
        by : (t : Bool) → nat_eq j k ≡ t → P j (get_or (slice_set ys k v) j e)
        by true q = subst (λ (n : ℕ). P n (get_or (slice_set ys k v) n e)) (sym (same-place j k q)) (subst (P k) (sym (set-same ys k v e here)) at)
        by false q = subst (P j) (sym (set-other ys k j v e (other-place j k q))) (others j e q l)

    shelf : (d : AreaState) → IsSameButShelf (get_or xs k d) v
    shelf d = subst (λ (t : AreaState). IsSameButShelf t v) (was d) (record { attribute = is.attribute; from = is.from; below = is.below; inbox = is.inbox; spare = is.spare; tape = is.tape })

    same : (j : ℕ) (d e : AreaState) → j < length xs → IsSameButShelf (get_or xs j d) (get_or (slice_set ys k v) j e)
    same j d e l = each (λ n y. IsSameButShelf (get_or xs n d) y) (shelf d) (λ n e q l. w.same n d e l) j e l

    apart : (d : AreaState) → HasParted (get_or xs k d) v
    apart d = subst (λ (t : AreaState). HasParted t v) (was d) (is.went, is.parted)

    parted : (j : ℕ) (d e : AreaState) → j < length xs → HasParted (get_or xs j d) (get_or (slice_set ys k v) j e)
    parted j d e l = each (λ n y. HasParted (get_or xs n d) y) (apart d) (λ n e q l. w.parted n d e l) j e l

    boxes : boxes_in (slice_set ys k v) + more ≡ boxes_in xs
    boxes =
        let s = sum-set (λ (x : AreaState). length x.boxes) ys k v r here in
        let m = is.many in let b = w.boxes in omega (arith, s, m, b, sum)

    bare : more < most → (j : ℕ) (d : AreaState) → j < k + 1 → j < length xs → length (get_or (slice_set ys k v) j d).boxes ≡ 0
    bare m j d below l =
        each (λ n y. n < k + 1 → length y.boxes ≡ 0) (λ b. none (omega (arith, m, sum, less)))
        (λ n e q l b. w.bare less n e (lower-place n k q b) l) j d l below

    left : (j : ℕ) (d e : AreaState) → k + 1 ≤ j → j < length xs → get_or (slice_set ys k v) j e ≡ get_or xs j d
    left j d e le l = set-other ys k j v e (λ q. absurd (omega (arith, le, q))) ∙ w.left j d e (omega (arith, le)) l

    lowest : (i j : ℕ) (d e : AreaState) → i < j → j < length xs → 0 < length (get_or (slice_set ys k v) i d).boxes → get_or (slice_set ys k v) j e ≡ get_or xs j e
    lowest i j d e below l some = above (nat_eq i k) refl
      where
        nothing : nat_eq i k ≡ false → i < k → 0 < length (get_or ys i d).boxes → ⊥
        nothing q b s = let z = w.bare less i d b (omega (arith, below, l)) in omega (arith, z, s)

        still : nat_eq i k ≡ false → 0 < length (get_or ys i d).boxes
        still q = subst (λ (t : AreaState). 0 < length t.boxes) (set-other ys k i v d (other-place i k q)) some

        at : nat_eq i k ≡ false → (t : Bool) → nat_eq j k ≡ t → get_or (slice_set ys k v) j e ≡ get_or xs j e
        at q true p = let e = same-place j k p in absurd (nothing q (omega (arith, below, e)) (still q))
        at q false p = set-other ys k j v e (other-place j k p) ∙ w.lowest i j d e below l (still q)

        above : (t : Bool) → nat_eq i k ≡ t → get_or (slice_set ys k v) j e ≡ get_or xs j e
        above true q = let s = same-place i k q in left j e e (omega (arith, below, s)) l
        above false q = at q (nat_eq j k) refl

bare-none : (ys : List AreaState) → ((j : ℕ) (d : AreaState) → j < length ys → length (get_or ys j d).boxes ≡ 0) → boxes_in ys ≡ 0
bare-none [] h = refl
bare-none (y ∷ ys) h =
    let here = h 0 y (omega arith) in let rest = bare-none ys (λ j d lt. h (suc j) d (omega (arith, lt))) in
    let e : length y.boxes + boxes_in ys ≡ 0 = omega (arith, here, rest) in
    sum_by-cons (λ (x : AreaState). length x.boxes) y ys ∙ e

-- all were asked, or as many came as were to
pub shed-done : (most k : ℕ) (xs ys : List AreaState) (gone : ℕ) → AreShedTo most k xs ys gone → (gone < most → length xs ≤ k) → AreShed most xs ys gone
shed-done most k xs ys gone w all =
    record {
      many = w.many;
      same = w.same;
      parted = w.parted;
      boxes = w.boxes;
      few = w.few;
      all = λ less. bare-none ys (λ j d lt. let m = w.many in let le = all less in w.bare less j d (omega (arith, lt, m, le)) (omega (arith, lt, m)));
      lowest = w.lowest;
    }

-- ---- a head's areas but for their boxes
pub lawful-shelf : (h : HeadState) (ys : List AreaState) → length ys ≡ length h.areas → ((k : ℕ) (d e : AreaState) → k < length h.areas → IsSameButShelf (get_or h.areas k d) (get_or ys k e)) → IsHeadLawful h → IsHeadLawful (record h { areas = ys })
lawful-shelf h ys m same w = record { areas_of = areas; stands = stands; fit = w.fit; came_rise = w.came_rise }
  where
    xs : List AreaState
    xs = h.areas

    shorter : (k : ℕ) → k < length ys → k < length xs
    shorter k lt = omega (arith, lt, m)

    pair : (x y : AreaState) → IsSameButShelf x y → interval_of x ≡ interval_of y
    pair x y t = rw (t.from, t.below) refl

    rows : (x y : AreaState) → IsSameButShelf x y → rows_in x ≡ rows_in y
    rows x y t = rw (t.attribute, t.tape, t.inbox) refl

    came : (x y : AreaState) → IsSameButShelf x y → came_in x ≡ came_in y
    came x y t = rw (t.tape, t.inbox) refl

    areas : AreAreasOf h.attribute h.cuts ys
    areas =
        record {
          attribute = w.areas_of.attribute;
          rising = w.areas_of.rising;
          few = w.areas_of.few;
          attributes = λ k d lt. (same k d d (shorter k lt)).attribute ∙ w.areas_of.attributes k d (shorter k lt);
          intervals_are = map-alike interval_of xs ys m (λ k d e lt. pair (get_or xs k d) (get_or ys k e) (same k d e lt)) ∙ w.areas_of.intervals_are;
        }

    stands : StandsFor h.updates h.attribute h.cuts ys
    stands =
        record {
          rise = w.stands.rise;
          parts = map-alike rows_in xs ys m (λ k d e lt. rows (get_or xs k d) (get_or ys k e) (same k d e lt)) ∙ w.stands.parts;
          came = λ k d lt n below.
              subst (λ (l : List Row). (i : ℕ) (r : Row) → i < length l → (get_or l i r).key < n) (came (get_or xs k d) (get_or ys k d) (same k d d (shorter k lt)))
              (w.stands.came k d (shorter k lt) n below);
        }

-- one area has other boxes
pub shelf-set : (at : ℕ) (xs : List AreaState) (r v : AreaState) → at < length xs → IsSameButShelf (get_or xs at r) v → (k : ℕ) (d e : AreaState) → k < length xs → IsSameButShelf (get_or xs k d) (get_or (slice_set xs at v) k e)
shelf-set at xs r v within is k d e lt = by (nat_eq k at) refl
  where
    by : (t : Bool) → nat_eq k at ≡ t → IsSameButShelf (get_or xs k d) (get_or (slice_set xs at v) k e)
    by true q =
        subst (λ (n : ℕ). IsSameButShelf (get_or xs n d) (get_or (slice_set xs at v) n e)) (sym (same-place k at q))
        (subst (IsSameButShelf (get_or xs at d)) (sym (set-same xs at v e within)) (subst (λ (x : AreaState). IsSameButShelf x v) (get-any xs at r d within) is))
    by false q =
        subst (IsSameButShelf (get_or xs k d)) (sym (set-other xs at k v e (other-place k at q)))
        (subst (IsSameButShelf (get_or xs k d)) (get-any xs k d e lt) (shelf-alike (get_or xs k d)))

-- the area with a box more
abbrev pub with_box : AreaState → AreaState
with_box x = record x { boxes = x.boxes ++ blank ∷ [] }

-- an area that got one box more, or was refused it, is the same but for its boxes
pub supply-shelf : {A E : Type 0} (told : Result A E) (x v : AreaState) (P Q : E → Type 0) → MatchResult told (λ _. v ≡ with_box x) (λ e. (v ≡ x) × P e × Q e) → IsSameButShelf x v
supply-shelf (Ok a) x v P Q w = subst (IsSameButShelf x) (sym w) (record { attribute = refl; from = refl; below = refl; inbox = refl; spare = refl; tape = refl })
supply-shelf (Err e) x v P Q w = subst (IsSameButShelf x) (sym w.0) (shelf-alike x)

-- a head whose area with the fewest boxes got one more is supplied; refused, it is as it was
pub supplied : {A E : Type 0} (told : Result A E) (g : HeadState) (at : ℕ) (x v : AreaState) (P Q : E → Type 0) → IsFewest at g.areas → x ≡ get_or g.areas at x → MatchResult told (λ _. v ≡ with_box x) (λ e. (v ≡ x) × P e × Q e) → MatchResult told (λ _. IsSupplied g (record g { areas = slice_set g.areas at v })) (λ e. (record g { areas = slice_set g.areas at v } ≡ g) × P e × Q e)
supplied (Ok a) g at x v P Q few is w =
    record {
      at = at;
      fewest = few;
      supplied = λ d. ap (λ (l : List AreaState). record g { areas = l }) (ap (slice_set g.areas at) (w ∙ ap with_box (is ∙ get-any g.areas at x d few.within)));
    }
supplied (Err e) g at x v P Q few is w = (ap (λ (l : List AreaState). record g { areas = l }) (set-self g.areas at v (get-any g.areas at v x few.within ∙ (sym is ∙ sym w.0))), w.1, w.2)

-- a number of at most so many that is not so many is fewer
pub not-all : (gone most : ℕ) → gone ≤ most → gone ≢ most → gone < most
not-all gone most le ne = grind (arith, le, ne)
