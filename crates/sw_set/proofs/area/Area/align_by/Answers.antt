use Rattle.std.proofs.Common.{All, sym, subst}
use Rattle.sw_query.specs.Outcomes.{MemoryAside}
use Rattle.sw_set.specs.Aligned.{AreSameMaps, HasRoomWhereNeeded, IsAtEnd}
use Rattle.sw_set.specs.Shelf.{AreaState}
use Rattle.sw_set.proofs.Areas.Shelves.{area-with, apart-same, leases-same}
use Rattle.sw_set.proofs.area.Area.align_by.Goals as goal

pub align_by-requires-clause-room : goal.align_by-requires-clause-room
align_by-requires-clause-room g c κs within = subst (λ (v : AreaState). All (HasRoomWhereNeeded c.args.tails.now v.tape) v.boxes) (sym c.self.view_is) c.requires.room

pub invariant_of-self : goal.invariant_of-self
invariant_of-self g c =
    let same = c.align_by.ensures.maps in
    (area-with _ _ _ _ _ _ _ _ c.align_by.ensures.lawful (leases-same _ _ c.self.invariant.0.leases same) (apart-same _ _ c.self.invariant.0.apart same) c.self.invariant.0, c.self.invariant.1)

pub returns-clause-maps : goal.returns-clause-maps
returns-clause-maps g c = subst (λ (v : AreaState). AreSameMaps v.boxes c.align_by.new.self) c.self.view_is c.align_by.ensures.maps

pub returns-clause-ends : goal.returns-clause-ends
returns-clause-ends g c = subst (λ (v : AreaState). MemoryAside c.align_by.result (λ _. All (IsAtEnd c.args.tails.now v.tape) c.align_by.new.self)) c.self.view_is c.align_by.ensures.ends
