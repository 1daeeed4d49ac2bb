use Rattle.sw_rows.proofs.Loads.TextPartLaws.{table_joined}
use Rattle.sw_rows.proofs.loading.text_parts.read_text_table.Goals as goal

pub returns-clause-gives : goal.returns-clause-gives
returns-clause-gives g c = table_joined c.args.columns c.into_schema.result c.args.body.now c.in_ok-rows.field-0 c.in_ok-rows.ensures c.into_schema.ensures.schema
