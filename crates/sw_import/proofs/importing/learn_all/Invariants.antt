use Rattle.sw_import.specs.Records.{IsOpen}
use Rattle.sw_import.proofs.importing.learn_all.Given as goal

abbrev pub invariant-rows : goal.invariant-rows
invariant-rows l = IsOpen l.records.rdr
