use Rattle.std.proofs.Common.{◌≡◌, ◌++◌, map}
use Rattle.sw_cli.proofs.serving.parted.Given as goal

abbrev pub invariant-loop-one : goal.invariant-loop-one
invariant-loop-one g l = record {
  tickets : l.tickets.items ≡ map (λ d. d.ticket) l.yielded;
  told : l.all_told.items ≡ map (λ d. d.told) l.yielded;
  all : l.yielded ++ l.one-iterator.rest.items ≡ l.fn.done.items;
}
