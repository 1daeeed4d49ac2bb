use Rattle.std.proofs.Common.{◌∙◌, sym, subst, IfErr}
use Rattle.sw_set.specs.Prepared.{IsHindered}
use Rattle.sw_set.specs.Preparing.{HasPreparedOr}
use Rattle.sw_set.specs.Shelf.{AreaState}
use Rattle.sw_set.proofs.Preparing.Queried.{hindered-for, prepared-for}
use Rattle.sw_set.proofs.area.Area.prepare_touched.Goals as goal

pub returns-clause-hindered : goal.returns-clause-hindered
returns-clause-hindered g c =
    subst (λ (v : AreaState). IfErr c.prepare_range-done.result (IsHindered c.args.query.now c.args.self.now v)) (sym c.stamp.ensures)
    (hindered-for _ c.args.query.now c.args.self.now _ _ c.requires.touched (c.as_slice.ensures ∙ c.in_ok-tails.ensures) c.prepare_range-done.ensures.lacking c.prepare_range-done.ensures.spent)

pub returns-clause-ends : goal.returns-clause-ends
returns-clause-ends g c =
    subst (λ (v : AreaState). HasPreparedOr c.prepare_range-done.result c.args.query.now c.args.self.now v) (sym c.stamp.ensures)
    (prepared-for _ c.args.query.now c.args.self.now _ _ _ _ c.requires.touched c.bounds_of-lower.ensures.lower c.bounds_of-lower.ensures.upper (c.as_slice.ensures ∙ c.in_ok-tails.ensures) c.prepare_range-done.ensures.same c.prepare_range-done.ensures.ends)
