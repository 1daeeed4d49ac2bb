use Rattle.std.proofs.Common.{◌≡◌, false, arith, sym}
use Rattle.std.specs.Prelude.{filter_map, map}
use Rattle.serde_json.specs.View.{view}
use Rattle.sw_rows.specs.Header.{has_texts}
use Rattle.sw_histories.specs.RecordReading.{text_in}
use Rattle.sw_lang.proofs.Known.Knowing.{none_known}
use Rattle.sw_histories.proofs.reading.rows.learn_cells.Goals as goal

pub returns-then-not-has_texts : goal.returns-then-not-has_texts
returns-then-not-has_texts c =
    let none : has_texts c.args.schema.now ≡ false = grind arith in
    sym (none_known c.args.schema.now (filter_map text_in (map view c.args.items.now)) none)
