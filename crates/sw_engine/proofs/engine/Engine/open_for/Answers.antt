use Rattle.std.proofs.Common.{◌≤◌, length}
use Rattle.sw_query.specs.declared.refusal.Refusal.{Refusal}
use Rattle.sw_engine.specs.Desk.{RefusesOpening}
use Rattle.sw_engine.proofs.Ties.{handed_on, opens_for_few}
use Rattle.sw_engine.proofs.engine.Engine.open_for.Goals as goal

pub returns-in_err-tickets-clause-refused : goal.returns-in_err-tickets-clause-refused
returns-in_err-tickets-clause-refused g c =
    let rows = c.args.rows.items in
    let few : length rows ≤ c.args.limit = c.in_ok-ground.ensures.few in
    handed_on (λ (e : Refusal). RefusesOpening c.args.limit rows g.J.Naming.most c.args.sessions e) c.from_residual-in_err-tickets.result c.in_err-tickets.field-0.0 c.from_residual-in_err-tickets.ensures.1
    (opens_for_few c.args.limit g.J.Naming.most c.args.sessions rows c.in_err-tickets.field-0.0 few c.in_err-tickets.ensures.refused)
