use Rattle.std.proofs.Common.{length}
use Rattle.sw_logs.specs.Orders.{AllFit}
use Rattle.sw_commands.proofs.ordering.read_logs.Given as goal

abbrev pub invariant-loop-log : goal.invariant-loop-log
invariant-loop-log g l = AllFit (length l.schema) l.calls.items
