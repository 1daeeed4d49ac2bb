use Rattle.std.proofs.Common.{◌≡◌, [], length, map}
use Rattle.serde_json.specs.View.{view}
use Rattle.sw_histories.specs.RecordReading.{texts_after}
use Rattle.sw_histories.proofs.reading.members.texts.Given as goal

abbrev pub invariant-loop-value : goal.invariant-loop-value
invariant-loop-value l = texts_after [] (map view l.items) ≡ texts_after (map (λ t. t.now) l.found.items) (map view l.rest)

abbrev pub decreases-loop-value : goal.decreases-loop-value
decreases-loop-value l = length l.rest
