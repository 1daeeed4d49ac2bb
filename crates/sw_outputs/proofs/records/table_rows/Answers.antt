use Rattle.std.proofs.Common.{[]}
use Rattle.sw_outputs.specs.Fields.{table_text}
use Rattle.sw_outputs.proofs.records.table_rows.Goals as goal

pub returns : goal.returns
returns c = c.in_ok-text.ensures (table_text c.args.schema.now c.args.attrs.now c.args.rows.now) []
    (c.in_ok-add_rows.ensures _ (c.in_ok-add_header.ensures [] [] c.new-records.ensures))
