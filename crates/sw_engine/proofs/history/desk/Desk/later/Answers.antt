use Rattle.std.proofs.Common.{subst}
use Rattle.sw_engine.specs.Desk.{DeskState}
use Rattle.sw_engine.specs.Published.{IsOfFirst, later}
use Rattle.sw_engine.proofs.Whole.{all_first}
use Rattle.sw_engine.proofs.history.desk.Desk.later.Goals as goal

pub returns-clause-entries : goal.returns-clause-entries
returns-clause-entries g c =
    let j = g.J.Naming in
    subst (λ (d : DeskState). IsOfFirst j.limit j.opening d.books.entries (later j.opening d.books)) c.self.view_is (all_first j.columns j.opening j.limit c.self.inside.spine c.self.invariant.of)
