use Rattle.std.proofs.Common.{◌≡◌, length}
use Rattle.sw_logs.specs.Orders.{AllFit}
use Rattle.sw_logs.specs.Readings.{HasMore, KnowsMore}
use Rattle.sw_logs.proofs.reading.add_records.Given as goal

abbrev pub invariant-loop-record : goal.invariant-loop-record
invariant-loop-record l = record {
  width : length l.schema ≡ length l.initial.schema;
  learned : KnowsMore l.initial.schema l.schema;
  kept : HasMore l.initial.calls.items l.calls.items;
  fit : AllFit (length l.schema) l.calls.items;
}
