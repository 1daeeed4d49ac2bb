use Rattle.std.proofs.Common.{◌==◌, sym}
use Rattle.sw_headers.proofs.Runs.{none_stays, some_stays}
use Rattle.sw_headers.proofs.rewriting.quoted_run.Goals as goal

pub returns-in-Some-clause-stays : goal.returns-in-Some-clause-stays
returns-in-Some-clause-stays c = some_stays (λ b. b == 34) c.args.text.now c.in-Some.end (sym c.in-Some.ensures)

pub returns-in-None-clause-stays : goal.returns-in-None-clause-stays
returns-in-None-clause-stays c = none_stays (λ b. b == 34) c.args.text.now (sym c.in-None.ensures)
