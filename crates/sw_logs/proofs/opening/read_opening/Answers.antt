use Rattle.std.proofs.Common.{arith}
use Rattle.std.proofs.lemmas.Grind.{common_steps}
use Rattle.sw_rows.specs.Tables.{shown_packed}
use Rattle.sw_logs.proofs.OpeningLemmas.{table_numbered}
use Rattle.sw_logs.proofs.opening.read_opening.Goals as goal

pub returns-clause-opening : goal.returns-clause-opening
returns-clause-opening g c =
    let t = c.in-Ok.ensures.table in
    record {
      some = c.requires.some;
      most = c.requires.most;
      few = grind (arith, common_steps);
      numbered = table_numbered t.0 (shown_packed c.in-Ok.found) t.1;
    }
