use Rattle.std.proofs.Common.{◌+◌, ◌≤◌, ◌∙◌, pos, length, zip, drop, get_or, arith, refl}
use Rattle.std.proofs.lemmas.List.Elements.{All-drop}
use Rattle.sw_query.specs.declared.bound.Bound.TheVariants.{Before}
use Rattle.sw_kernel.specs.declared.mark.Mark.{Mark}
use Rattle.sw_kernel.proofs.Ripples.{end-le, carry-step}
use Rattle.sw_kernel.proofs.insertion.carry_on.Goals as goal

pub hand_over-hand-requires-clause-room : goal.hand_over-hand-requires-clause-room
hand_over-hand-requires-clause-room c =
    let n = length c.args.head.now in
    let le = end-le (drop (c.loop-k.k + 1) c.args.marks.now) n (All-drop (λ (m : Mark). m.at ≤ n) (c.loop-k.k + 1) c.args.marks.now c.requires.range) in
    let e = c.end_before-end.ensures in omega arith

pub loop-k-preserved : goal.loop-k-preserved
loop-k-preserved c =
    let none : Mark = record { bound = Before (pos 0); at = 0 } in
    let ms = c.args.marks.now in let k = c.loop-k.k in let n = length c.args.head.now in
    let at = (get_or ms k none).at in let end = c.end_before-end.result in
    carry-step ms k n at end c.loop-k.hand c.hand_over-hand.result (zip c.loop-k.head c.loop-k.tail) (zip c.hand_over-hand.new.head c.hand_over-hand.new.tail) none c.loop-k-test.true refl c.end_before-end.ensures c.hand_over-hand.ensures.pairs c.hand_over-hand.ensures.carried ∙ c.loop-k.invariant
