use Rattle.std.proofs.Common.{◌≡◌, ◌+◌, length, map, take}
use Rattle.sw_engine.specs.Desk.{AreCounted, InOrder}
use Rattle.sw_cli.proofs.serving.jobs.Given as goal

abbrev pub invariant-loop-ticket : goal.invariant-loop-ticket
invariant-loop-ticket g l = record {
  order : InOrder (1 + length l.jobs.items) l.ticket-iterator.rest.items;
  many : length l.jobs.items + length l.ticket-iterator.rest.items ≡ length l.blocks;
  numbers : AreCounted 1 (map (λ j. j.session.0) l.jobs.items);
  calls : map (λ j. j.calls) l.jobs.items ≡ take (length l.jobs.items) l.blocks;
}
