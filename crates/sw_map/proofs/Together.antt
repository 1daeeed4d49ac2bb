-- Two maps that are cut together.
use Rattle.std.proofs.Common.{◌≡◌, ℕ, ◌+◌, ◌-◌, ◌≤◌, ℤ, List, ◌++◌, ◌∷◌, length, map, take, drop, zip, refl, sym, ap, ap₂, ◌∙◌, arith, subst}
use Rattle.std.specs.Global.{Vec}
use Rattle.std.proofs.lemmas.List.{length-append, length-drop, length-take}
use Rattle.std.proofs.lemmas.Slice.Zip.{firsts-zip}
use Rattle.sw_query.specs.declared.bound.Bound.{Bound}
use Rattle.sw_kernel.specs.declared.mark.Mark.{Mark}
use Rattle.sw_kernel.specs.Arrangement.{crack, joined}
use Rattle.sw_kernel.specs.Partition.{goes_left, head_of, partition}
use Rattle.sw_kernel.specs.Replay.{shown}
use Rattle.sw_kernel.specs.Flat.{InOrder, IsNew, Pairs, end_before, marks_below, marks_from, start_at}
use Rattle.sw_kernel.specs.Tapes.{IsRising}
use Rattle.sw_kernel.proofs.Shown.{joined-shown, marks-shown}
use Rattle.sw_map.specs.declared.lists.Lists.{Lists}
use Rattle.sw_map.specs.Pieces.{AreCut, IsLaidOut, bounds_of, count_between, parted, pieces_between}
use Rattle.sw_map.specs.Twins.{HaveSameHeads, HasCut}
use Rattle.sw_map.proofs.Cracking.{cracked, drop-rest, zip-written}
use Rattle.sw_map.proofs.Layouts.{pieces-joined, pieces-marks, zip-long}

-- lists of which the piece of a new bound is parted, and whose marks have its place, are laid out as the crack
pub cut-new : (b : Bound) (hs ts : List ℤ) (zs' : List (ℤ × ℤ)) (ms ms' : List Mark) (k s e at : ℕ) →
    length hs ≡ length ts → InOrder 0 (length hs) ms → IsRising (bounds_of ms) → IsNew b ms → k ≡ marks_below ms b → s ≡ start_at 0 ms k → e ≡ end_before (drop k ms) (length hs) →
    zs' ≡ parted (goes_left head_of b) s e (zip hs ts) → at ≡ s + count_between (goes_left head_of b) s e (zip hs ts) →
    ms' ≡ take k ms ++ record { bound = b; at = at } ∷ drop k ms →
    IsLaidOut (crack head_of b (pieces_between 0 (zip hs ts) ms)) zs' ms'
cut-new b hs ts zs' ms ms' k s e at same o rising new ek es ee ez eat et =
    let zs : List (ℤ × ℤ) = zip hs ts in
    let lz : length zs ≡ length hs = zip-long hs ts same in
    let o' : InOrder 0 (length zs) ms = subst (λ (j : ℕ). InOrder 0 j ms) (sym lz) o in
    let ee' : e ≡ end_before (drop k ms) (length zs) = ee ∙ ap (end_before (drop k ms)) (sym lz) in
    let et' = et ∙ ap (λ (j : ℕ). take k ms ++ record { bound = b; at = j } ∷ drop k ms) eat in
    cracked b (pieces_between 0 zs ms) zs zs' ms ms' k s e (pieces-joined 0 zs ms) (pieces-marks 0 (length zs) zs ms (omega arith) o') rising new ek es ee' ez et'

-- lists of which the same part was partitioned, and written back, are parted there
pub parted-written : (b : Bound) (s e : ℕ) (hs ts hm tm : List ℤ) → length hs ≡ length ts → s ≤ e → e ≤ length hs → length hm ≡ e - s → length tm ≡ e - s →
    zip hm tm ≡ partition (goes_left head_of b) (zip (take (e - s) (drop s hs)) (take (e - s) (drop s ts))) →
    zip (take s hs ++ (hm ++ drop (e - s) (drop s hs))) (take s ts ++ (tm ++ drop (e - s) (drop s ts))) ≡ parted (goes_left head_of b) s e (zip hs ts)
parted-written b s e hs ts hm tm same le within lh lt h =
    ap₂ zip (ap (λ l. take s hs ++ (hm ++ l)) (drop-rest s e hs le)) (ap (λ l. take s ts ++ (tm ++ l)) (drop-rest s e ts le)) ∙
    zip-written (goes_left head_of b) s e hs ts hm tm same le within lh lt h

-- a list of which a part was written has its length
pub part-long : (s e : ℕ) (xs ys : List ℤ) → s ≤ e → e ≤ length xs → length ys ≡ e - s → length (take s xs ++ (ys ++ drop (e - s) (drop s xs))) ≡ length xs
part-long s e xs ys le within long =
    let a = length-append (take s xs) (ys ++ drop (e - s) (drop s xs)) in
    let b = length-append ys (drop (e - s) (drop s xs)) in
    omega (arith, a, b, long, length-take s xs, length-drop (e - s) (drop s xs), length-drop s xs)

-- pairs with the same heads in the same pieces have the same list of heads, and the same marks
pub twins-are : (hs ts gs us : List ℤ) (ms ns : List Mark) → length hs ≡ length ts → length gs ≡ length us → InOrder 0 (length hs) ms → InOrder 0 (length gs) ns →
    HaveSameHeads (pieces_between 0 (zip hs ts) ms) (pieces_between 0 (zip gs us) ns) → (gs ≡ hs) × (ns ≡ ms)
twins-are hs ts gs us ms ns e f o p same =
    let a = pieces_between 0 (zip hs ts) ms in let b = pieces_between 0 (zip gs us) ns in
    let heads : (xs ys : List ℤ) (ls : List Mark) → length xs ≡ length ys → joined (shown head_of (pieces_between 0 (zip xs ys) ls)) ≡ xs =
    λ xs ys ls long. joined-shown head_of (pieces_between 0 (zip xs ys) ls) ∙ ap (map head_of) (pieces-joined 0 (zip xs ys) ls) ∙ firsts-zip xs ys (sym long) in
    let marks : (xs ys : List ℤ) (ls : List Mark) → length xs ≡ length ys → InOrder 0 (length xs) ls → marks_from 0 (shown head_of (pieces_between 0 (zip xs ys) ls)) ≡ ls =
    λ xs ys ls long order. marks-shown head_of 0 (pieces_between 0 (zip xs ys) ls) ∙ pieces-marks 0 (length xs) (zip xs ys) ls (let z = zip-long xs ys long in omega (arith, z)) order in (
      sym (heads gs us ns f) ∙ sym (ap joined same) ∙ heads hs ts ms e,
      sym (marks gs us ns f p) ∙ sym (ap (marks_from 0) same) ∙ marks hs ts ms e o,
    )

-- lists and marks that are what f makes of them stay as they are
pub uncut : (f : Pairs → Pairs) (lists : Lists) (marks : Vec Mark) → AreCut f lists.head lists.tail marks lists.head lists.tail marks → HasCut f lists marks lists marks
uncut f lists marks cut = record { cut = cut; size = record { heads = refl; tails = refl; head_room = refl; tail_room = refl }; more = omega arith; room = refl }
