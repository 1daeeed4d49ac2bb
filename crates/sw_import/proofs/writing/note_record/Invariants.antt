use Rattle.std.proofs.Common.{◌≡◌}
use Rattle.sw_import.specs.Imports.{left_out_of}
use Rattle.sw_import.proofs.writing.note_record.Given as goal

abbrev pub invariant-loop-place : goal.invariant-loop-place
invariant-loop-place l = left_out_of l.done ≡ left_out_of l.initial.done
