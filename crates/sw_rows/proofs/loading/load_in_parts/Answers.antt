use Rattle.std.proofs.Common.{◌∙◌}
use Rattle.sw_rows.proofs.Tables.TableLemmas.{table_of_few}
use Rattle.sw_rows.proofs.loading.load_in_parts.Goals as goal

pub returns-in-Ok-read_table_in_parts-clause-table : goal.returns-in-Ok-read_table_in_parts-clause-table
returns-in-Ok-read_table_in_parts-clause-table g c =
    (c.in-Ok.bytes.items, table_of_few c.in-Ok.bytes.items c.in-Ok.ensures.short ∙ (rw c.deref.ensures.value at c.in-Ok-read_table_in_parts.ensures.gives))
