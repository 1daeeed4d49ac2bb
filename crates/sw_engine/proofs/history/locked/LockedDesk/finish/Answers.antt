use Rattle.sw_spine.specs.declared.history.State.TheVariants as state
use Rattle.sw_engine.proofs.Shelves.{shelf_settled}
use Rattle.sw_engine.proofs.history.locked.LockedDesk.finish.Goals as goal

pub invariant_of-self : goal.invariant_of-self
invariant_of-self g c =
    let j = g.J.Naming in
    (shelf_settled j.limit j.opening c.args.session.now.shown.0 (state.Answered c.args.reply) c.self.inside.desk.books c.finish.new.self.books c.self.inside.shelf c.self.invariant.0 c.finish.ensures.finished c.finish.ensures.updates, c.self.invariant.1)
