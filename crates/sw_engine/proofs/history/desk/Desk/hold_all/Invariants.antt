use Rattle.std.proofs.Common.{◌≡◌, length}
use Rattle.sw_engine.proofs.Closing.{AreHeld}
use Rattle.sw_engine.proofs.history.desk.Desk.hold_all.Given as goal

abbrev pub invariant-loop-place : goal.invariant-loop-place
invariant-loop-place g l = record {
  desk : l.self ≡ l.initial.self;
  tickets : l.tickets ≡ l.initial.tickets;
  made : AreHeld (length l.initial.self.given) l.place l.initial.tickets;
}
