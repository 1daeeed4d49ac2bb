use Rattle.std.proofs.Common.{◌∙◌}
use Rattle.sw_rows.proofs.Tables.RecordLemmas.{read_one}
use Rattle.sw_rows.proofs.table.records.read_next.Goals as goal
use Rattle.sw_rows.proofs.table.records.read_next.Goals.{in-Ok, in-Err}

pub returns-clause-row : goal.returns-clause-row
returns-clause-row c = elim c.match-read_byte_record.branch [
  | in-Ok w ↦ rw w.result-is (read_one c.args.rdr.now c.read_byte_record.new.self w.in-Ok.found _ c.requires (w.in-Ok.ensures.goes ∙ c.requires.going) (w.in-Ok.ensures.reads c.requires.trim c.requires.ready))
  | in-Err w ↦ rw w.result-is tt
]
