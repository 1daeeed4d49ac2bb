use Rattle.std.proofs.Common.{◌∷◌, [], codes}
use Rattle.sw_outputs.specs.Fields.{keyed_records, records_text}
use Rattle.sw_outputs.proofs.records.keyed_rows.Goals as goal

pub returns : goal.returns
returns c = c.in_ok-text.ensures (records_text (keyed_records c.args.schema.now c.args.attrs.now c.args.rows.now)) []
    (c.in_ok-add_keyed_rows.ensures _ (c.in_ok-add_names.ensures [] (codes "key" ∷ []) (c.in_ok-add.ensures [] [] c.new-records.ensures)))
