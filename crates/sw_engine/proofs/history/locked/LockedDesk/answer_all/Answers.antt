use Rattle.sw_engine.proofs.Shelves.{shelf_told_all}
use Rattle.sw_engine.proofs.history.locked.LockedDesk.answer_all.Goals as goal

pub invariant_of-self : goal.invariant_of-self
invariant_of-self g c =
    let j = g.J.Naming in
    (shelf_told_all c.answer_all.result j.limit j.opening c.ticket.inside.state.shown.0 c.args.told.kept.items c.self.inside.desk.books c.answer_all.new.self.books c.self.inside.shelf c.self.invariant.0 c.answer_all.ensures.answered c.answer_all.ensures.kept c.answer_all.ensures.updates, c.self.invariant.1)
