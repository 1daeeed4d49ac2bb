use Rattle.std.proofs.Common.{◌≡◌, [], take}
use Rattle.csv.specs.Records.{fields_of, partial_of}
use Rattle.sw_import.specs.Imports.{header_of}
use Rattle.sw_import.proofs.writing.header.Given as goal

abbrev pub invariant-loop-planned : goal.invariant-loop-planned
invariant-loop-planned l = (partial_of l.header ≡ []) × (fields_of l.header ≡ header_of (take l.planned-index l.plan))
