use Rattle.std.proofs.Common.{rules, ◌≡◌, ◌≤◌, ◌++◌, ◌∷◌, [], ℤ, List, length, drop, arith, ◌∙◌, ap, ap₂, zip}
use Rattle.std.proofs.lemmas.Int.{to_z-of_z}
use mir.Syntax.{w64}
use mir.Val.{SFits, to_z, of_z}
use Rattle.sw_kernel.specs.Ripple.{carried, piece_of}
use Rattle.sw_kernel.proofs.Ripples.{ripple-flat, written}
use Rattle.sw_kernel.proofs.Marks.{order-all, order-below}
use Rattle.sw_kernel.proofs.insertion.ripple_in.Goals as goal

pub carry_on-x-requires-clause-range : goal.carry_on-x-requires-clause-range
carry_on-x-requires-clause-range c = order-all c.args.head.now.len _ c.args.marks.now c.requires.order (omega arith)

pub bump-requires-clause-range : goal.bump-requires-clause-range
bump-requires-clause-range c = order-below c.args.head.now.len _ c.args.marks.now c.requires.order (omega arith)

pub returns-clause-rippled : goal.returns-clause-rippled
returns-clause-rippled c =
    let r = c.carry_on-x in let a = c.args in
    let hs = a.head.now.items in let ts = a.tail.now.items in
    let f0 : SFits w64 r.result.0 = search rules in
    let f1 : SFits w64 r.result.1 = search rules in
    let lh : length hs ≤ a.head.now.len = omega arith in
    let lt : length ts ≤ a.tail.now.len = omega arith in
    let sh : length r.new.head ≡ length hs = omega arith in
    let st : length r.new.tail ≡ length ts = omega arith in
    let eh : c.append.new.values.items ≡ r.new.head ++ r.result.0 ∷ [] = c.append.ensures.items ∙ ap₂ (λ l z. l ++ z ∷ []) (written a.head.now.len hs r.new.head sh lh) (to_z-of_z w64 r.result.0 f0) in
    let et : c.append-2.new.values.items ≡ r.new.tail ++ r.result.1 ∷ [] = c.append-2.ensures.items ∙ ap₂ (λ l z. l ++ z ∷ []) (written a.tail.now.len ts r.new.tail st lt) (to_z-of_z w64 r.result.1 f1) in
    let ms = a.marks.now in let from = c.piece_of-from.result in
    let h' = to_z-of_z w64 a.h c.ranges.h in let t' = to_z-of_z w64 a.t c.ranges.t in
    let x' : (to_z w64 (of_z w64 a.h), to_z w64 (of_z w64 a.t)) ≡ (a.h, a.t) = ap₂ (λ (u v : ℤ). (u, v)) h' t' in
    let vh : c.deref_mut.result.now ≡ hs = search rules in
    let vt : c.deref_mut-2.result.now ≡ ts = search rules in
    let ef : from ≡ piece_of ms a.h = c.piece_of-from.ensures.piece ∙ ap (piece_of ms) h' in
    let same : length hs ≡ length ts = omega arith in
    let same' : length r.new.head ≡ length r.new.tail = omega arith in
    let ez : zip r.new.head r.new.tail ++ (r.result.0, r.result.1) ∷ [] ≡ carried (drop from ms) (length hs) (a.h, a.t) (zip hs ts) =
    r.ensures ∙ ap₂ (λ (xs ys : List ℤ). carried (drop from ms) (length xs) (to_z w64 (of_z w64 a.h), to_z w64 (of_z w64 a.t)) (zip xs ys)) vh vt ∙ ap (λ (x : ℤ × ℤ). carried (drop from ms) (length hs) x (zip hs ts)) x' in
    λ b flat. rw (eh, et) (ripple-flat a.h a.t b hs ts r.new.head r.new.tail ms c.bump.new.marks from r.result.0 r.result.1 flat ef same same' ez c.bump.ensures)
