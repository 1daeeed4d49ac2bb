use Rattle.std.proofs.Common.{rules, ◌≡◌, List, [], length, subst, sym, ap, ◌∙◌}
use Rattle.sw_query.specs.Scan.{answer, answer_over}
use Rattle.sw_table.specs.Updates.{rows_of}
use Rattle.sw_set.specs.Merged.{StandsForSame}
use Rattle.sw_set.specs.Shelf.{AreaState}
use Rattle.sw_chunks.specs.Asked.{AreasFit, with_all}
use Rattle.sw_chunks.specs.Cleared.{AreEach}
use Rattle.sw_chunks.specs.Heads.{HeadState, IsHeadLawful, told_in}
use Rattle.sw_chunks.proofs.Fits.{areas_fit}
use Rattle.sw_chunks.proofs.Standing.{areas_answer, if_ok-more, lawful-same, whole}
use Rattle.sw_chunks.proofs.head.Head.scan.Goals as goal

pub scan_areas-requires-clause-fits : goal.scan_areas-requires-clause-fits
scan_areas-requires-clause-fits g c = λ κs far.
    let value : c.as_mut_slice.result.now ≡ c.self.inside.areas.items = search rules in
    let w = c.self.invariant.0 in
    subst (AreasFit c.args.query.now (answer_over [] c.args.query.now.want)) (sym value)
    (areas_fit _ _ _ c.self.inside.areas.items c.args.query.now w.areas_of w.stands w.fit (c.requires.head ∙ ap (λ (h : HeadState). h.attribute) (sym c.self.view_is)))

pub invariant_of-self : goal.invariant_of-self
invariant_of-self g c =
    let was : HeadState = record { attribute = c.self.inside.attribute; cuts = c.self.inside.cuts.items; updates = told_in c.self.inside.told.rows; areas = c.self.inside.areas.items } in
    let same : AreEach StandsForSame c.self.inside.areas.items c.scan_areas.new.areas = search rules in
    let many : c.self.inside.areas.len ≡ length c.self.inside.areas.items = search rules in (
      subst (λ (l : List AreaState). IsHeadLawful (record was { areas = l }))
          (sym (whole c.self.inside.areas.len c.scan_areas.new.areas c.self.inside.areas.items many same.0)) (lawful-same was c.scan_areas.new.areas same c.self.invariant.0),
      c.self.invariant.1,
    )

pub returns-clause-answered : goal.returns-clause-answered
returns-clause-answered g c =
    let value : c.as_mut_slice.result.now ≡ c.self.inside.areas.items = search rules in
    let w = c.self.invariant.0 in
    if_ok-more _ (λ r. r ≡ answer (rows_of c.args.self.now.updates) c.args.query.now) c.scan_areas.result c.scan_areas.ensures.answered
    (λ r is.
    is ∙ (ap (with_all c.args.query.now (answer_over [] c.args.query.now.want)) value
    ∙ (areas_answer _ _ _ c.self.inside.areas.items c.args.query.now w.areas_of w.stands (c.requires.head ∙ ap (λ (h : HeadState). h.attribute) (sym c.self.view_is))
    ∙ ap (λ (h : HeadState). answer (rows_of h.updates) c.args.query.now) c.self.view_is)))
