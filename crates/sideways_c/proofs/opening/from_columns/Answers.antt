use Rattle.sw_rows.specs.Tables.{shown_packed}
use Rattle.sideways_c.proofs.Opens.{columns_numbered}
use Rattle.sideways_c.proofs.opening.from_columns.Goals as goal

pub opened_handle-requires-clause-numbered : goal.opened_handle-requires-clause-numbered
opened_handle-requires-clause-numbered c = columns_numbered c.args.table (shown_packed (c.in-Ok.schema, c.in-Ok.rows)) c.in-Ok.ensures
