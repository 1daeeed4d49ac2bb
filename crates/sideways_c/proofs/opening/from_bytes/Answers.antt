use Rattle.sw_rows.specs.Tables.{shown_packed}
use Rattle.sideways_c.proofs.Opens.{table_numbered}
use Rattle.sideways_c.proofs.opening.from_bytes.Goals as goal

pub opened_handle-requires-clause-numbered : goal.opened_handle-requires-clause-numbered
opened_handle-requires-clause-numbered c =
    table_numbered c.args.table.now (shown_packed (c.in-Ok.schema, c.in-Ok.rows)) c.in-Ok.ensures.table
