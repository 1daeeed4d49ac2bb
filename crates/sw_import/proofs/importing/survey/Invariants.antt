use Rattle.std.proofs.Common.{◌≡◌, ◌+◌, length}
use Rattle.sw_import.specs.Records.{IsOpen, are_even, records_left}
use Rattle.sw_import.specs.Taken.{rows_of}
use Rattle.sw_import.proofs.importing.survey.Given as goal

abbrev pub invariant-rows : goal.invariant-rows
invariant-rows l =
    IsOpen l.records.rdr
    × (length (records_left l.records.rdr) + l.count ≡ length (rows_of l.values))
    × (are_even l.values.fills_short l.values.width (records_left l.records.rdr) ≡ are_even l.values.fills_short l.values.width (rows_of l.values))
