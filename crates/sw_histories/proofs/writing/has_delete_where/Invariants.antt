use Rattle.std.proofs.Common.{◌≡◌, length}
use Rattle.sw_histories.specs.RecordText.{has_delete_where}
use Rattle.sw_histories.proofs.writing.has_delete_where.Given as goal

abbrev pub invariant-loop-entry : goal.invariant-loop-entry
invariant-loop-entry l = has_delete_where l.entries ≡ has_delete_where l.rest

abbrev pub decreases-loop-entry : goal.decreases-loop-entry
decreases-loop-entry l = length l.rest
