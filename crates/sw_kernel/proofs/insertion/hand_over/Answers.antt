use Rattle.std.proofs.Common.{rules, ◌≡◌, ◌<◌, ℤ, true, length, get_or, pos, nat_lt, arith, sym, ap₂, ◌∙◌}
use Rattle.std.proofs.lemmas.Bool.{lt-ltb}
use Rattle.std.proofs.lemmas.Int.{to_z-of_z}
use Rattle.std.proofs.lemmas.List.{get_or_default}
use Rattle.std.proofs.lemmas.Slice.Zip.{get_or-zip}
use mir.Syntax.{w64}
use mir.Val.{SFits}
use Rattle.sw_kernel.proofs.Zips.{zip-set}
use Rattle.sw_kernel.proofs.insertion.hand_over.Goals as goal

pub returns-then-at-end-clause-pairs : goal.returns-then-at-end-clause-pairs
returns-then-at-end-clause-pairs c =
    let a = c.args in
    let e : nat_lt a.at a.end ≡ true = lt-ltb a.at a.end c.if-at-end.true in
    let f0 : SFits w64 a.hand.0 = search rules in
    let f1 : SFits w64 a.hand.1 = search rules in
    rw (e, to_z-of_z w64 a.hand.0 f0, to_z-of_z w64 a.hand.1 f1) (zip-set a.head.now a.tail.now a.at a.hand.0 a.hand.1)

pub returns-then-at-end-clause-carried : goal.returns-then-at-end-clause-carried
returns-then-at-end-clause-carried c =
    let a = c.args in
    let e : nat_lt a.at a.end ≡ true = lt-ltb a.at a.end c.if-at-end.true in
    let x = get_or a.head.now a.at (pos 0) in let y = get_or a.tail.now a.at (pos 0) in
    let fx : SFits w64 x = search rules in
    let fy : SFits w64 y = search rules in
    let in_head : a.at < length a.head.now = omega arith in
    let in_tail : a.at < length a.tail.now = omega arith in
    rw e (ap₂ (λ (u v : ℤ). (u, v)) (to_z-of_z w64 x fx ∙ get_or_default a.head.now a.at (pos 0) a.hand.0 in_head) (to_z-of_z w64 y fy ∙ get_or_default a.tail.now a.at (pos 0) a.hand.1 in_tail) ∙ sym (get_or-zip a.head.now a.tail.now a.at a.hand in_head in_tail))
