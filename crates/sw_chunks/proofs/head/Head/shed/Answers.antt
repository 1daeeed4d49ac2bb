use Rattle.std.proofs.Common.{rules, ◌≡◌, List, length, subst, sym}
use Rattle.sw_set.specs.Shelf.{AreaState}
use Rattle.sw_chunks.specs.Heads.{HeadState, IsHeadLawful, told_in}
use Rattle.sw_chunks.specs.Shelved.{AreShed}
use Rattle.sw_chunks.proofs.Shelves.{lawful-shelf}
use Rattle.sw_chunks.proofs.Standing.{whole}
use Rattle.sw_chunks.proofs.head.Head.shed.Goals as goal

pub invariant_of-self : goal.invariant_of-self
invariant_of-self g c =
    let was : HeadState = record { attribute = c.self.inside.attribute; cuts = c.self.inside.cuts.items; updates = told_in c.self.inside.told.rows; areas = c.self.inside.areas.items } in
    let shed : AreShed c.args.most c.self.inside.areas.items c.shed_all.new.areas c.shed_all.result = search rules in
    let many : c.self.inside.areas.len ≡ length c.self.inside.areas.items = search rules in (
      subst (λ (l : List AreaState). IsHeadLawful (record was { areas = l }))
          (sym (whole c.self.inside.areas.len c.shed_all.new.areas c.self.inside.areas.items many shed.many)) (lawful-shelf was c.shed_all.new.areas shed.many shed.same c.self.invariant.0),
      c.self.invariant.1,
    )
