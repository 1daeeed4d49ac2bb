use Rattle.sw_rows.specs.Tables.{shown_packed}
use Rattle.sw_import.proofs.importing.see_table_in_parts.Goals as goal

pub returns-in-Ok : goal.returns-in-Ok
returns-in-Ok c d = (shown_packed d.in-Ok.field-0, rw d.new.ensures.inner at d.in-Ok.ensures.spelled)
