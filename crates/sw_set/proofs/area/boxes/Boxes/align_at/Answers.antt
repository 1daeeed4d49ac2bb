use Rattle.std.proofs.Common.{◌≤◌, get_or, length, subst}
use Rattle.sw_kernel.specs.Tapes.{peak_from}
use Rattle.sw_map.specs.Held.{Held}
use Rattle.sw_map.specs.Lawful.{IsAligned}
use Rattle.sw_set.proofs.Areas.Aligning.{at-ends, at-maps, at-own, at-place, at-set}
use Rattle.sw_set.proofs.area.boxes.Boxes.align_at.Goals as goal

pub align_map-requires-clause-aligned : goal.align_map-requires-clause-aligned
align_map-requires-clause-aligned g c κs within = at-place g.M.CrackerMap.held _ _ _ _ c.self.view_is c.requires.within c.index_mut.ensures.value (λ m. IsAligned m.head c.args.tape.now m) c.requires.aligned

pub align_map-requires-clause-room : goal.align_map-requires-clause-room
align_map-requires-clause-room g c κs within = at-place g.M.CrackerMap.held _ _ _ _ c.self.view_is c.requires.within c.index_mut.ensures.value (λ m. peak_from 0 c.args.tape.now ≤ m.cells) c.requires.room

pub returns-clause-aligned : goal.returns-clause-aligned
returns-clause-aligned g c = λ d.
    let held = g.M.CrackerMap.held in
    let own = at-own held c.args.self.now c.self.inside.maps.items c.args.at _ c.self.view_is c.requires.within c.index_mut.ensures.value d in
    at-set held c.args.self.now c.self.inside.maps.items c.args.at _ c.self.view_is c.requires.within c.index_mut.ensures.value c.align_map.new.it (IsAligned (get_or c.args.self.now c.args.at d).head c.args.tape.now)
    (subst (λ (m : Held). IsAligned m.head c.args.tape.now (held c.align_map.new.it)) own c.align_map.ensures.aligned)

pub returns-clause-maps : goal.returns-clause-maps
returns-clause-maps g c = at-maps g.M.CrackerMap.held _ _ _ _ c.self.view_is c.requires.within c.index_mut.ensures.value _ c.align_map.ensures.same

pub returns-clause-ends : goal.returns-clause-ends
returns-clause-ends g c = at-ends g.M.CrackerMap.held _ _ _ _ c.self.view_is c.requires.within c.index_mut.ensures.value _ c.align_map.result (length c.args.tape.now) c.align_map.ensures.ends c.align_map.ensures.behind
