use Rattle.std.proofs.Common.{◌≤◌}
use Rattle.sw_kernel.specs.Tapes.{peak_from}
use Rattle.sw_map.specs.Lawful.{IsAligned, IsLawful}
use Rattle.sw_map.proofs.Replays.{lawful-aligned}
use Rattle.sw_set.proofs.Areas.Twins.{both-set, first-behind, in-front, needed-aligned, needed-room}
use Rattle.sw_set.proofs.prepare.twins.step_twins.Goals as goal

pub align_twins-requires-clause-aligned : goal.align_twins-requires-clause-aligned
align_twins-requires-clause-aligned g c κs within =
    in-front (λ m. IsAligned c.args.course.now.attribute c.args.course.now.tape.now (g.M.CrackerMap.held m)) c.args.boxes.now _ c.args.twin c.args.at _ c.split_at_mut-front.ensures.front c.requires.behind (needed-aligned g.M.CrackerMap.held _ _ c.args.course.now.tails.now _ _ _ c.requires.lawful c.requires.needed)

pub align_twins-requires-clause-twin_aligned : goal.align_twins-requires-clause-twin_aligned
align_twins-requires-clause-twin_aligned g c κs within =
    first-behind (λ m. IsAligned c.args.course.now.attribute c.args.course.now.tape.now (g.M.CrackerMap.held m)) c.args.boxes.now _ c.args.twin _ c.split_at_mut-front.ensures.back (needed-aligned g.M.CrackerMap.held _ _ c.args.course.now.tails.now _ _ _ c.requires.lawful c.requires.twin)

pub align_twins-requires-clause-room : goal.align_twins-requires-clause-room
align_twins-requires-clause-room g c κs within =
    in-front (λ m. peak_from 0 c.args.course.now.tape.now ≤ (g.M.CrackerMap.held m).cells) c.args.boxes.now _ c.args.twin c.args.at _ c.split_at_mut-front.ensures.front c.requires.behind (needed-room g.M.CrackerMap.held _ c.args.course.now.tails.now _ _ _ c.requires.room c.requires.needed)

pub align_twins-requires-clause-twin_room : goal.align_twins-requires-clause-twin_room
align_twins-requires-clause-twin_room g c κs within =
    first-behind (λ m. peak_from 0 c.args.course.now.tape.now ≤ (g.M.CrackerMap.held m).cells) c.args.boxes.now _ c.args.twin _ c.split_at_mut-front.ensures.back (needed-room g.M.CrackerMap.held _ c.args.course.now.tails.now _ _ _ c.requires.room c.requires.twin)

pub returns-clause-lawful : goal.returns-clause-lawful
returns-clause-lawful g c =
    both-set (λ m. IsLawful c.args.course.now.attribute c.args.course.now.tape.now (g.M.CrackerMap.held m)) c.args.boxes.now _ _ c.args.twin c.args.at 0 _ _ c.split_at_mut-front.ensures.front c.split_at_mut-front.ensures.back c.requires.lawful (lawful-aligned _ _ _ c.align_twins.ensures.aligned) (lawful-aligned _ _ _ c.align_twins.ensures.twin_aligned)
