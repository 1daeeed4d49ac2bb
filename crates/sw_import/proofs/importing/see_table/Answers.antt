use Rattle.sw_rows.specs.Tables.{shown_packed}
use Rattle.sw_import.proofs.importing.see_table.Goals as goal

pub returns-in-Ok : goal.returns-in-Ok
returns-in-Ok c = (shown_packed c.in-Ok.field-0, rw c.new.ensures.inner at c.in-Ok.ensures.spelled)
