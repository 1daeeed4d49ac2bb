use Rattle.std.proofs.Common.{◌≡◌, length, List, IfOk, refl, subst}
use Rattle.sw_query.specs.Scan.{answer}
use Rattle.sw_table.specs.declared.row.Row.{Row}
use Rattle.sw_table.proofs.LiveLaws.{kept-fresh}
use Rattle.sw_query.proofs.scanning.answer.Goals as goal

pub returns-clause-answered : goal.returns-clause-answered
returns-clause-answered c =
    let rs = c.args.rows.now in
    subst (λ (v : List Row). IfOk c.scan.result (λ reply. reply ≡ answer v c.args.query.now)) (kept-fresh (length rs) rs refl) c.scan.ensures.answered
