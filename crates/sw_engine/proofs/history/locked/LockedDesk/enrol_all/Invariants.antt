use Rattle.std.proofs.Common.{◌≡◌, length}
use Rattle.sw_engine.specs.Desk.{InOrder}
use Rattle.sw_engine.proofs.history.locked.LockedDesk.enrol_all.Given as goal

abbrev pub invariant-loop : goal.invariant-loop
invariant-loop g l = record {
  many : length l.tickets.items ≡ l.counter;
  order : InOrder 1 l.tickets.items;
  sessions : l.self.desk.books.sessions ≡ length l.tickets.items;
}
