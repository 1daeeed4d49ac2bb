-- What is done to items that are brought to other places and back is done to each at its own place.
use Rattle.std.proofs.Common.{◌≡◌, ◌≢◌, ℕ, ◌<◌, ◌≤◌, Bool, true, false, true≢false, List, length, get_or, map, refl, ap, sym, ◌∙◌, arith, subst, All, Contains, eqb, eqb-true, eq-eqb}
use Rattle.std.specs.List.{SwappedAt}
use Rattle.std.proofs.lemmas.List.{length-map}
use Rattle.sw_kernel.specs.Replay.{Step}
use Rattle.sw_table.specs.declared.row.Row.{Row}
use Rattle.sw_map.specs.declared.tail.Tail.{Tail}
use Rattle.sw_map.specs.Held.{Held}
use Rattle.sw_set.specs.Aligned.{AreSameMaps, IsAtEnd, IsSameMap}
use Rattle.sw_set.proofs.Areas.Boxes.{get_or_any, held-at}

-- what was done at each place while two items were swapped is done, once swapped back, to each at its own
pub swapped-back : {X : Type 0} (R : X → X → Type 0) (xs ys zs ws : List X) (i j : ℕ) → length ys ≡ length xs → i < length xs → j < length xs → SwappedAt xs ys i j → ((k : ℕ) (d : X) → k < length ys → R (get_or ys k d) (get_or zs k d)) → SwappedAt zs ws i j → (k : ℕ) (d : X) → k < length xs → R (get_or xs k d) (get_or ws k d)
swapped-back R xs ys zs ws i j many li lj there done back k d lt = at (eqb k i) refl
  where
    pair : (k' : ℕ) → k' < length xs → get_or ys k' d ≡ get_or xs k d → get_or ws k d ≡ get_or zs k' d → R (get_or xs k d) (get_or ws k d)
    pair k' l p q = subst (λ v. R v (get_or ws k d)) p (subst (λ v. R (get_or ys k' d) v) (sym q) (done k' d (omega (arith, l, many))))

    at : (b : Bool) → eqb k i ≡ b → R (get_or xs k d) (get_or ws k d)
    at true e =
        let is = eqb-true k i e in
        pair j lj (there.1 d ∙ ap (λ n. get_or xs n d) (sym is)) (ap (λ n. get_or ws n d) is ∙ back.0 d)
    at false e = other (eqb k j) refl
      where
        other : (b : Bool) → eqb k j ≡ b → R (get_or xs k d) (get_or ws k d)
        other true f =
            let is = eqb-true k j f in
            pair i li (there.0 d ∙ ap (λ n. get_or xs n d) (sym is)) (ap (λ n. get_or ws n d) is ∙ back.1 d)
        other false f =
            let ni : k ≢ i = λ n. absurd (true≢false (sym (eq-eqb k i n) ∙ e)) in
            let nj : k ≢ j = λ n. absurd (true≢false (sym (eq-eqb k j n) ∙ f)) in
            pair k lt (there.2 k d ni nj) (back.2 k d ni nj)

-- the boxes hold the same maps, place by place
pub same-boxes : {X : Type 0} (h : X → Held) (xs ys : List X) → length ys ≡ length xs → ((k : ℕ) (d : X) → k < length xs → IsSameMap (h (get_or xs k d)) (h (get_or ys k d))) → AreSameMaps (map h xs) (map h ys)
same-boxes h xs ys many same =
    let lx = length-map xs h in
    let ly = length-map ys h in
    record {
      many = omega (arith, lx, ly, many);
      each = λ k d e lt. held-at h (λ m. IsSameMap m (get_or (map h ys) k e)) xs k (omega (arith, lt, lx)) (λ x. held-at h (λ n. IsSameMap (h (get_or xs k x)) n) ys k (omega (arith, lt, lx, many)) (λ y. other k x y (omega (arith, lt, lx))) e) d;
    }
  where
    any : {Y : Type 0} (zs : List Y) (k : ℕ) (d e : Y) → k < length zs → get_or zs k d ≡ get_or zs k e
    any zs k d e lt = get_or_any zs k d e lt

    other : (k : ℕ) (x y : _) → k < length xs → IsSameMap (h (get_or xs k x)) (h (get_or ys k y))
    other k x y lt = subst (λ v. IsSameMap (h (get_or xs k x)) (h v)) (any ys k x y (omega (arith, lt, many))) (same k x lt)

-- no box lacks entries
pub none-lack : {X : Type 0} (h : X → Held) (xs : List X) (tails : List Tail) (tape : List (Step Row)) (end : ℕ) → end ≡ length tape → ((k : ℕ) (d : X) → 0 ≤ k → k < length xs → (h (get_or xs k d)).is_blank ≡ false → Contains tails (h (get_or xs k d)).tail → (h (get_or xs k d)).cursor ≡ end) → All (IsAtEnd tails tape) (map h xs)
unfolding IsAtEnd
none-lack h xs tails tape end is none k e lt =
    let lx = length-map xs h in
    held-at h (λ m. m.is_blank ≡ false → Contains tails m.tail → m.cursor ≡ length tape) xs k (omega (arith, lt, lx)) (λ d b n. none k d (omega arith) (omega (arith, lt, lx)) b n ∙ is) e
