use Rattle.std.proofs.Common.{◌≡◌, ◌+◌, ◌-◌, ◌<◌, ◌++◌, ◌∷◌, List, ℕ, drop, get_or, length, length-drop, subst, take, arith, rules}
use Rattle.std.proofs.lemmas.List.{drop_more, length-take-le}
use Rattle.sw_table.specs.Rows.{cell_of}
use Rattle.sw_load.specs.Appended.{Fit, cell_or_key}
use Rattle.sw_load.specs.Gone.{ArePlaces, left_of, without_places}
use Rattle.sw_load.proofs.Appended.{IsAppending, appending-more, appending-room, fit-before, fit-behind}
use Rattle.sw_load.proofs.Places.{places-le}
use Rattle.sw_load.proofs.left.append_left.Goals as goal

pub append_part-requires-clause-within : goal.append_part-requires-clause-within
append_part-requires-clause-within c =
    let gs = c.args.gone.now in let i = c.loop-place.place-index in let n = c.loop-place.from in let xs = c.args.all.now.items in
    let g = get_or gs i 0 in
    let next : drop i gs ≡ g ∷ drop (i + 1) gs = drop_more gs i 0 c.loop-place-test.true in
    let places : ArePlaces n (length xs) (g ∷ drop (i + 1) gs) = subst (λ (v : List ℕ). ArePlaces n (length xs) v) next c.loop-place.invariant.places in
    let le = places-le (g + 1) (length xs) (drop (i + 1) gs) places.1 in
    omega (arith, le, places.0)

pub append_part-requires-clause-fit : goal.append_part-requires-clause-fit
append_part-requires-clause-fit c =
    let gs = c.args.gone.now in let i = c.loop-place.place-index in let n = c.loop-place.from in let xs = c.args.all.now.items in
    let g = get_or gs i 0 in
    let next : drop i gs ≡ g ∷ drop (i + 1) gs = drop_more gs i 0 c.loop-place-test.true in
    let places : ArePlaces n (length xs) (g ∷ drop (i + 1) gs) = subst (λ (v : List ℕ). ArePlaces n (length xs) v) next c.loop-place.invariant.places in
    let le = places-le (g + 1) (length xs) (drop (i + 1) gs) places.1 in
    fit-before c.args.columns.tail (take (g - n) (drop n xs)) (without_places (g + 1) (drop (i + 1) gs) xs) (subst (λ (v : List ℕ). Fit c.args.columns.tail (without_places n v xs)) next c.loop-place.invariant.fit)

pub append_part-requires-clause-heads : goal.append_part-requires-clause-heads
append_part-requires-clause-heads c =
    let gs = c.args.gone.now in let i = c.loop-place.place-index in let n = c.loop-place.from in let xs = c.args.all.now.items in
    let g = get_or gs i 0 in
    let next : drop i gs ≡ g ∷ drop (i + 1) gs = drop_more gs i 0 c.loop-place-test.true in
    let places : ArePlaces n (length xs) (g ∷ drop (i + 1) gs) = subst (λ (v : List ℕ). ArePlaces n (length xs) v) next c.loop-place.invariant.places in
    let le = places-le (g + 1) (length xs) (drop (i + 1) gs) places.1 in
    let some = take (g - n) (drop n xs) in
    let so_far : IsAppending (cell_of c.args.columns.head) c.args.heads.now c.loop-place.heads (some ++ without_places (g + 1) (drop (i + 1) gs) xs) (left_of xs gs) =
    subst (λ (v : List ℕ). IsAppending (cell_of c.args.columns.head) c.args.heads.now c.loop-place.heads (without_places n v xs) (left_of xs gs)) next c.loop-place.invariant.heads in
    appending-room (cell_of c.args.columns.head) c.args.heads.now c.loop-place.heads some (without_places (g + 1) (drop (i + 1) gs) xs) (left_of xs gs) (g - n) so_far
    (length-take-le (g - n) (drop n xs) (omega (arith, length-drop n xs, le))) c.requires.heads

pub append_part-requires-clause-tails : goal.append_part-requires-clause-tails
append_part-requires-clause-tails c =
    let gs = c.args.gone.now in let i = c.loop-place.place-index in let n = c.loop-place.from in let xs = c.args.all.now.items in
    let g = get_or gs i 0 in
    let next : drop i gs ≡ g ∷ drop (i + 1) gs = drop_more gs i 0 c.loop-place-test.true in
    let places : ArePlaces n (length xs) (g ∷ drop (i + 1) gs) = subst (λ (v : List ℕ). ArePlaces n (length xs) v) next c.loop-place.invariant.places in
    let le = places-le (g + 1) (length xs) (drop (i + 1) gs) places.1 in
    let some = take (g - n) (drop n xs) in
    let so_far : IsAppending (cell_or_key c.args.columns.tail) c.args.tails.now c.loop-place.tails (some ++ without_places (g + 1) (drop (i + 1) gs) xs) (left_of xs gs) =
    subst (λ (v : List ℕ). IsAppending (cell_or_key c.args.columns.tail) c.args.tails.now c.loop-place.tails (without_places n v xs) (left_of xs gs)) next c.loop-place.invariant.tails in
    appending-room (cell_or_key c.args.columns.tail) c.args.tails.now c.loop-place.tails some (without_places (g + 1) (drop (i + 1) gs) xs) (left_of xs gs) (g - n) so_far
    (length-take-le (g - n) (drop n xs) (omega (arith, length-drop n xs, le))) c.requires.tails

pub overflow_add-from : goal.overflow_add-from
overflow_add-from c =
    let gs = c.args.gone.now in let i = c.loop-place.place-index in let n = c.loop-place.from in let xs = c.args.all.now.items in
    let g = get_or gs i 0 in
    let next : drop i gs ≡ g ∷ drop (i + 1) gs = drop_more gs i 0 c.loop-place-test.true in
    let places : ArePlaces n (length xs) (g ∷ drop (i + 1) gs) = subst (λ (v : List ℕ). ArePlaces n (length xs) v) next c.loop-place.invariant.places in
    let le = places-le (g + 1) (length xs) (drop (i + 1) gs) places.1 in
    let small : g + 1 < 18446744073709551616 = omega (arith, le, c.len-many.ensures.many, c.len-many.ensures.few) in
    search (rules, small)

pub loop-place-preserved : goal.loop-place-preserved
loop-place-preserved c =
    let gs = c.args.gone.now in let i = c.loop-place.place-index in let n = c.loop-place.from in let xs = c.args.all.now.items in
    let g = get_or gs i 0 in
    let next : drop i gs ≡ g ∷ drop (i + 1) gs = drop_more gs i 0 c.loop-place-test.true in
    let places : ArePlaces n (length xs) (g ∷ drop (i + 1) gs) = subst (λ (v : List ℕ). ArePlaces n (length xs) v) next c.loop-place.invariant.places in
    let le = places-le (g + 1) (length xs) (drop (i + 1) gs) places.1 in
    let some = take (g - n) (drop n xs) in
    record {
      places = places.1;
      fit = fit-behind c.args.columns.tail some (without_places (g + 1) (drop (i + 1) gs) xs) (subst (λ (v : List ℕ). Fit c.args.columns.tail (without_places n v xs)) next c.loop-place.invariant.fit);
      heads =
          appending-more (cell_of c.args.columns.head) c.args.heads.now c.loop-place.heads c.append_part.new.heads some (without_places (g + 1) (drop (i + 1) gs) xs) (left_of xs gs)
          (subst (λ (v : List ℕ). IsAppending (cell_of c.args.columns.head) c.args.heads.now c.loop-place.heads (without_places n v xs) (left_of xs gs)) next c.loop-place.invariant.heads)
          c.append_part.ensures.heads;
      tails =
          appending-more (cell_or_key c.args.columns.tail) c.args.tails.now c.loop-place.tails c.append_part.new.tails some (without_places (g + 1) (drop (i + 1) gs) xs) (left_of xs gs)
          (subst (λ (v : List ℕ). IsAppending (cell_or_key c.args.columns.tail) c.args.tails.now c.loop-place.tails (without_places n v xs) (left_of xs gs)) next c.loop-place.invariant.tails)
          c.append_part.ensures.tails;
    }
