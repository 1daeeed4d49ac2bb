use Rattle.std.proofs.Common.{rules, ◌≡◌, ◌++◌, sym, subst}
use Rattle.sw_spine.specs.Receivable.{AreUpdates}
use Rattle.sw_engine.specs.Desk.{received_by}
use Rattle.sw_engine.proofs.Latches.{may_follow}
use Rattle.sw_engine.proofs.heads.latch.LatchedHead.receive.Goals as goal

pub receive_all-requires-clause-may : goal.receive_all-requires-clause-may
receive_all-requires-clause-may g c κs within =
    let j = g.J.Naming in
    let h = c.self.inside in
    let is : c.in-Some.head.updates ++ h.inbox.items ≡ received_by j.opening h.head ++ h.inbox.items = search rules in
    may_follow c.in-Some.head.attribute j.limit c.in-Some.head.updates h.inbox.items c.self.invariant.most (subst (AreUpdates j.limit) (sym is) c.self.invariant.may_come)
