use Rattle.std.proofs.Common.{◌≡◌, length}
use Rattle.csv.specs.Records.{fields_of}
use Rattle.sw_import.proofs.importing.headings.Given as goal

abbrev pub invariant-loop-place : goal.invariant-loop-place
invariant-loop-place l = length (fields_of l.header) ≡ l.place
