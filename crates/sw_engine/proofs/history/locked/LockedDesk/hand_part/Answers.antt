use Rattle.sw_engine.proofs.Backlog.{shelf_part}
use Rattle.sw_engine.proofs.history.locked.LockedDesk.hand_part.Goals as goal

pub invariant_of-self : goal.invariant_of-self
invariant_of-self g c =
    let j = g.J.Naming in
    (shelf_part j.limit j.opening c.self.inside.desk.books c.hand_part.new.self.books c.self.inside.shelf c.self.invariant.0 c.hand_part.ensures.books, c.self.invariant.1)
