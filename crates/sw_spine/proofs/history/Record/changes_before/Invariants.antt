use Rattle.std.proofs.Common.{◌<◌, All}
use Rattle.sw_spine.proofs.history.Record.changes_before.Given as goal

abbrev pub invariant-loop-i : goal.invariant-loop-i
invariant-loop-i l = All (λ i. i < l.place) l.places.items
