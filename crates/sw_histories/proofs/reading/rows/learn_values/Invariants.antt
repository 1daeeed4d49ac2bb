use Rattle.std.proofs.Common.{length}
use Rattle.std.specs.Prelude.{filter_map, map}
use Rattle.serde_json.specs.View.{view}
use Rattle.sw_lang.proofs.Known.Knowing.{Learning}
use Rattle.sw_histories.specs.RecordReading.{text_in}
use Rattle.sw_histories.proofs.reading.rows.learn_values.Given as goal

abbrev pub invariant-loop-value : goal.invariant-loop-value
invariant-loop-value l = Learning l.fn.schema l.schema (filter_map text_in (map view l.items)) (filter_map text_in (map view l.rest))

abbrev pub decreases-loop-value : goal.decreases-loop-value
decreases-loop-value l = length l.rest
