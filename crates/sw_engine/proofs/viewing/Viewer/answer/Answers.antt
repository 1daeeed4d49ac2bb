use Rattle.std.proofs.Common.{◌≡◌, List, subst}
use Rattle.std.specs.Prelude.{IfOk}
use Rattle.sw_query.specs.Scan.{answer}
use Rattle.sw_table.specs.declared.row.Row.{Row}
use Rattle.sw_versions.specs.Rules.{updates_in}
use Rattle.sw_engine.proofs.Published.{rows_join}
use Rattle.sw_engine.proofs.viewing.Viewer.answer.Goals as goal

pub returns-clause-answered : goal.returns-clause-answered
returns-clause-answered g c =
    subst (λ (rows : List Row). IfOk c.answer.result (λ r. r ≡ answer rows c.args.query.now)) (rows_join g.J.Naming.opening (updates_in c.answer.new.self.seen)) c.answer.ensures.answered
