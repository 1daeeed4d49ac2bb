use Rattle.std.proofs.Common.{rules, ◌≡◌, List, [], IfSome, subst, sym, ap, ◌∙◌}
use Rattle.sw_query.specs.declared.reply.Reply.{Reply}
use Rattle.sw_query.specs.Scan.{answer, answer_over}
use Rattle.sw_table.specs.Updates.{rows_of}
use Rattle.sw_set.specs.Resting.{IsToldWhere}
use Rattle.sw_set.specs.Shelf.{AreaState}
use Rattle.sw_chunks.specs.Asked.{AreAtRest, AreasFit, with_all}
use Rattle.sw_chunks.specs.Heads.{HeadState}
use Rattle.sw_chunks.proofs.Fits.{areas_fit}
use Rattle.sw_chunks.proofs.Standing.{areas_answer}
use Rattle.sw_chunks.proofs.head.Head.answer_at_rest.Goals as goal

pub answer_resting-requires-clause-fits : goal.answer_resting-requires-clause-fits
answer_resting-requires-clause-fits g c = λ κs far.
    let value : c.as_slice-areas.result.now ≡ c.self.inside.areas.items = search rules in
    let w = c.self.invariant.0 in
    subst (AreasFit c.args.query.now (answer_over [] c.args.query.now.want)) (sym value)
    (areas_fit _ _ _ c.self.inside.areas.items c.args.query.now w.areas_of w.stands w.fit (c.requires.head ∙ ap (λ (h : HeadState). h.attribute) (sym c.self.view_is)))

pub returns-clause-rests : goal.returns-clause-rests
returns-clause-rests g c =
    let value : c.as_slice-areas.result.now ≡ c.self.inside.areas.items = search rules in
    subst (λ (l : List AreaState). IsToldWhere (AreAtRest c.args.query.now l) c.in_ok-told.told)
    (value ∙ ap (λ (h : HeadState). h.areas) c.self.view_is) c.in_ok-told.ensures.rests

pub returns-clause-answered : goal.returns-clause-answered
returns-clause-answered g c =
    let value : c.as_slice-areas.result.now ≡ c.self.inside.areas.items = search rules in
    let w = c.self.invariant.0 in
    subst (λ (v : Reply). IfSome c.in_ok-told.told (λ r. r ≡ v))
    (ap (with_all c.args.query.now (answer_over [] c.args.query.now.want)) value
    ∙ (areas_answer _ _ _ c.self.inside.areas.items c.args.query.now w.areas_of w.stands (c.requires.head ∙ ap (λ (h : HeadState). h.attribute) (sym c.self.view_is))
    ∙ ap (λ (h : HeadState). answer (rows_of h.updates) c.args.query.now) c.self.view_is)) c.in_ok-told.ensures.answered
