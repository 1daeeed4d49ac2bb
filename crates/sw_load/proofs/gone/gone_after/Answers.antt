use Rattle.std.proofs.Common.{◌≡◌, ◌∙◌, ◌+◌, ◌++◌, ◌∷◌, [], ap, drop, length, take, sym, subst, List, ℕ, arith}
use Rattle.std.proofs.lemmas.List.{take_rest}
use Rattle.sw_load.specs.Gone.{AreBefore, AreGoneAfter, ArePlaces}
use Rattle.sw_load.proofs.Places.{places-behind, places-lower}
use Rattle.sw_load.proofs.Without.{IsPartGone, part-all, part-more, part-none}
use Rattle.sw_load.proofs.gone.gone_after.Goals as goal

pub loop-place-init : goal.loop-place-init
loop-place-init c =
    subst (λ (v : List ℕ). IsPartGone c.args.live.now c.args.old.now 0 0 v) (sym c.new-gone.ensures.items) (part-none c.args.live.now c.args.old.now c.requires.places)

pub count_before-more-requires-clause-places : goal.count_before-more-requires-clause-places
count_before-more-requires-clause-places c =
    let live = c.args.live.now in let old = c.args.old.now in let m = length live + length old in
    let k = c.loop-place.done in
    let all : ArePlaces 0 m (drop k old) = places-lower 0 _ m (drop k old) (omega arith) (places-behind 0 m c.loop-place.gone.items (drop k old) c.loop-place.invariant.places) in
    (m, subst (λ (v : List ℕ). ArePlaces 0 m v) (sym (take_rest old k)) all)

pub loop-place-preserved : goal.loop-place-preserved
loop-place-preserved c =
    let live = c.args.live.now in let old = c.args.old.now in
    let k = c.loop-place.done in let q = c.loop-place.from in let p = c.in-Some.place in let i = c.count_before-more.result in
    let before : AreBefore (p + k) (drop k old) i = subst (λ (v : List ℕ). AreBefore (p + k) v i) (take_rest old k) c.count_before-more.ensures.before in
    let taken : c.extend_from_slice.new.self.items ≡ c.loop-place.gone.items ++ take i (drop k old) =
    c.in_ok-extend_from_slice.ensures.items
    ∙ ap (λ (v : List ℕ). c.loop-place.gone.items ++ take i v) (take_rest old k) in
    subst (λ (v : List ℕ). IsPartGone live old (p + 1) (k + i) v) (sym (c.in_ok-push.ensures.items ∙ ap (λ (v : List ℕ). v ++ (p + (k + i)) ∷ []) taken))
    (part-more live old c.loop-place.gone.items q k p i c.loop-place.invariant c.in-Some.ensures before)

pub returns : goal.returns
returns c =
    let live = c.args.live.now in let old = c.args.old.now in
    let k = c.loop-place.done in
    subst (λ (v : List ℕ). AreGoneAfter live old v) (sym (c.in_ok-extend_from_slice-2.ensures.items ∙ ap (λ (v : List ℕ). c.loop-place.gone.items ++ v) (take_rest old k)))
    (part-all live old c.loop-place.gone.items c.loop-place.from k c.loop-place.invariant c.in_default.ensures)
