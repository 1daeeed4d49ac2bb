use Rattle.std.proofs.Common.{refl}
use Rattle.sw_import.specs.Taken.{rows_of}
use Rattle.sw_import.proofs.TakenLemmas.{table_of_all}
use Rattle.sw_import.proofs.importing.write_table.Goals as goal

pub returns : goal.returns
returns c few =
    table_of_all c.args.how.now _ _ (rows_of c.args.values) c.in_ok-table.table c.take_all.new.self refl c.of.ensures.rows c.of.ensures.sample
    c.in_ok-table.ensures (rw c.in_ok-records.ensures.all at c.in_ok-take_all.ensures) few
