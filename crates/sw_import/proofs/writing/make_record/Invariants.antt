use Rattle.std.proofs.Common.{◌≡◌, [], drop, length}
use Rattle.csv.specs.Records.{fields_of, partial_of}
use Rattle.sw_import.specs.Made.{row_after, row_made, sources_of}
use Rattle.sw_import.proofs.writing.make_record.Given as goal

abbrev pub invariant-loop-place : goal.invariant-loop-place
invariant-loop-place l =
    (partial_of l.made ≡ [])
    × (length (fields_of l.made) ≡ l.place)
    × (row_after l.rules (fields_of l.made) (drop l.place (sources_of l.plan)) (fields_of l.row) ≡ row_made l.rules (sources_of l.plan) (fields_of l.row))
