use Rattle.std.proofs.Common.{◌≡◌, ◌≤◌, ◌++◌, length}
use Rattle.sw_rows.specs.Groups.{records_in}
use Rattle.sw_rows.specs.Records.{IsPlain, left_in}
use Rattle.sw_rows.proofs.table.group.Group.fill.Given as goal

-- those in their places and those left are all
abbrev pub invariant-loop-at : goal.invariant-loop-at
invariant-loop-at l = record {
  plain : IsPlain l.records.rdr;
  many : l.self-inside.many ≡ l.at;
  within : l.at ≤ length l.self-inside.places.items;
  all : left_in l.initial.records ≡ records_in l.at l.self-inside.places.items ++ left_in l.records;
}
