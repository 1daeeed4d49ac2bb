use Rattle.sw_rows.proofs.Tables.SeenLemmas.{zero_among}
use Rattle.sw_rows.proofs.table.seen.SeenCodes.none.Goals as goal

pub returns : goal.returns
returns c = λ texts rows place attr ne. absurd (ne (zero_among 16 8 place attr))
