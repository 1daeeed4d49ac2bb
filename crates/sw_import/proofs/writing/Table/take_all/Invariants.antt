use Rattle.std.proofs.Common.{◌≡◌, ◌≤◌, ◌++◌, ℕ, List}
use Rattle.sw_import.specs.Records.{IsOpen, records_left}
use Rattle.sw_import.specs.Taken.{AreWanted, TakesIn}
use Rattle.sw_import.proofs.writing.Table.take_all.Given as goal

abbrev pub invariant-rows : goal.invariant-rows
invariant-rows l =
    IsOpen l.records.rdr
    × (l.self.rows ≤ l.most.rows)
    × (taken : List (List (List ℕ)))
    × (records_left l.initial.records.rdr ≡ taken ++ records_left l.records.rdr)
    × AreWanted l.maker l.most l.initial.self taken
    × TakesIn l.maker taken l.initial.self l.self
