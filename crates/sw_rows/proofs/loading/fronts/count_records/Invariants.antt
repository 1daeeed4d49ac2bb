use Rattle.std.proofs.Common.{◌≡◌, ◌+◌, length}
use Rattle.csv.specs.Reading.{default_config, records, strip_bom}
use Rattle.sw_rows.specs.Records.{IsPlain, records_left}
use Rattle.sw_rows.proofs.loading.fronts.count_records.Given as goal

-- those counted and those left are all
abbrev pub invariant-loop-n : goal.invariant-loop-n
invariant-loop-n l = record {
  plain : IsPlain l.records.rdr;
  all : l.n + length (records_left l.records.rdr) ≡ length (records default_config (strip_bom l.bytes));
}
