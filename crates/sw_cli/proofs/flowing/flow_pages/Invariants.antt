use Rattle.std.proofs.Common.{◌≡◌, ◌≤◌, ◌+◌, drop, length, take, vec_capacity}
use Rattle.sw_engine.specs.Desk.{InOrder}
use Rattle.sw_cli.proofs.Pages.{Reached}
use Rattle.sw_cli.proofs.flowing.flow_pages.Given as goal

abbrev pub invariant-loop-ticket : goal.invariant-loop-ticket
invariant-loop-ticket g l =
    let s = g.W.Sink in
    record {
      order : InOrder (1 + length l.done.items) l.ticket-iterator.rest.items;
      many : length l.done.items + length l.ticket-iterator.rest.items ≡ length l.fn.pages.blocks.items;
      room : length l.done.items + length l.ticket-iterator.rest.items ≤ vec_capacity l.done;
      left : drop (length l.done.items) l.blocks.items ≡ drop (length l.done.items) l.fn.pages.blocks.items;
      size : length l.blocks.items ≡ length l.fn.pages.blocks.items;
      reached : Reached l.schema (take (length l.done.items) l.fn.pages.blocks.items) l.done.items (s.taken l.fn.out) (s.taken l.out) (s.failed l.fn.out) (s.failed l.out) l.flown;
    }
