use Rattle.std.proofs.Common.{◌≡◌, false, true, Contains, sym, ◌∙◌, rules, true≢false}
use Rattle.sw_set.proofs.prepare.align.align_box.Goals as goal
use Rattle.sw_set.proofs.Areas.Boxes.{own-aligned, lawful-after, room-own, ends-at, at-end-unneeded}

pub returns-then-is_blank-clause-ends : goal.returns-then-is_blank-clause-ends
returns-then-is_blank-clause-ends g c = at-end-unneeded _ _ _ (λ h n. let b : (g.M.CrackerMap.held c.args.it.now).is_blank ≡ true = search rules in absurd (true≢false (sym b ∙ h)))

pub returns-then-not-is_needed-clause-ends : goal.returns-then-not-is_needed-clause-ends
returns-then-not-is_needed-clause-ends g c = at-end-unneeded _ _ _ (λ h n. search rules)

pub align_map-requires-clause-aligned : goal.align_map-requires-clause-aligned
align_map-requires-clause-aligned g c κs within =
    let b : (g.M.CrackerMap.held c.args.it.now).is_blank ≡ false = search rules in
    own-aligned _ _ _ c.requires.lawful b

pub align_map-requires-clause-room : goal.align_map-requires-clause-room
align_map-requires-clause-room g c κs within =
    let m = g.M.CrackerMap.held c.args.it.now in
    let b : m.is_blank ≡ false = search rules in
    let n : Contains c.args.course.now.tails.now m.tail = search rules in
    room-own _ _ _ b n c.requires.room

pub returns-clause-lawful : goal.returns-clause-lawful
returns-clause-lawful g c =
    let b : (g.M.CrackerMap.held c.args.it.now).is_blank ≡ false = search rules in
    lawful-after _ _ _ _ c.requires.lawful b c.align_map.ensures.aligned

pub returns-clause-ends : goal.returns-clause-ends
returns-clause-ends g c = ends-at _ _ _ _ c.align_map.ensures.ends
