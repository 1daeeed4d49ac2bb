use Rattle.std.proofs.Common.{None, ◌≡◌, ◌++◌, All}
use Rattle.sw_spine.specs.History.{mine}
use Rattle.sw_spine.specs.Books.{waits_for}
use Rattle.sw_engine.specs.Desk.{AreGiven}
use Rattle.sw_engine.specs.Own.{IsEnded}
use Rattle.sw_engine.proofs.history.desk.Desk.give_all.Given as goal

abbrev pub invariant-loop-ticket : goal.invariant-loop-ticket
invariant-loop-ticket g l = record {
  books : l.self.books ≡ l.fn.self.books;
  mine : All (λ t. mine t.0 l.fn.self.books.entries ≡ t.1) l.yielded;
  ended : All (IsEnded l.fn.self.books.entries) l.yielded;
  rest : All (λ t. waits_for t.0 l.fn.self.books ≡ None) l.yielded;
  given : AreGiven l.yielded l.fn.self.given l.self.given;
  all : l.yielded ++ l.ticket-iterator.rest.items ≡ l.fn.tickets.items;
}
