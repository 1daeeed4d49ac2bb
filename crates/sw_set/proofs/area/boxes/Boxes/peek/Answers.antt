use Rattle.std.proofs.Common.{◌≡◌, ◌<◌, ◌≤◌, ◌∙◌, ap, false, get_or, pos, arith, rules, w64}
use Rattle.std.proofs.lemmas.Int.{to_z-of_z}
use Rattle.sw_map.specs.Held.{Held, pairs_in}
use Rattle.sw_kernel.specs.Arrangement.{joined}
use Rattle.sw_set.proofs.Areas.Views.{any-at, all-own}
use Rattle.sw_set.proofs.area.boxes.Boxes.peek.Goals as goal

pub returns-then-place-len : goal.returns-then-place-len
returns-then-place-len g c =
    let lt = c.if-place-len.true in
    let many = c.len.ensures in
    any-at _ c.in-Some.at (λ m. (m.is_blank ≡ false) × (m.tail ≡ c.args.tail) × (c.args.place < pairs_in m) × (_ ≡ (get_or (joined m.pairs) c.args.place (pos 0, pos 0)).1)) c.in-Some.ensures.0
    (λ d.
    let own = ap (λ (m : Held). pairs_in m) (c.at-it.ensures d) in
    ((c.in-Some.ensures.1 d).0, (c.in-Some.ensures.1 d).1, omega (arith, lt, many, own), to_z-of_z w64 c.tail_at.result (search rules) ∙ c.tail_at.ensures ∙ ap (λ (m : Held). (get_or (joined m.pairs) c.args.place (pos 0, pos 0)).1) (c.at-it.ensures d)))

pub returns-else-place-len : goal.returns-else-place-len
returns-else-place-len g c =
    let ge = c.if-place-len.false in
    let many = c.len.ensures in
    all-own _ c.in-Some.at c.args.tail (λ m. pairs_in m ≤ c.args.place) c.requires.apart c.in-Some.ensures.0 c.in-Some.ensures.1 (λ d. let own = ap (λ (m : Held). pairs_in m) (c.at-it.ensures d) in omega (arith, ge, many, own))
