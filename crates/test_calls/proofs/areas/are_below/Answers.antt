use Rattle.std.proofs.Common.{◌<◌, [], All, List, arith, subst}
use Rattle.std.proofs.lemmas.List.{take_all}
use Rattle.std.proofs.lemmas.List.Elements.{All-more}
use Rattle.sw_table.specs.declared.row.Row.{Row}
use Rattle.test_calls.proofs.areas.are_below.Goals as goal

pub loop-row-preserved : goal.loop-row-preserved
loop-row-preserved c =
    let none : Row = record { key = 0; cells = [] } in
    All-more (λ (r : Row). r.key < c.args.next) c.args.rows.now c.loop-row.row-index none c.loop-row-test.true c.loop-row.invariant c.if-row-next.false

pub returns : goal.returns
returns c = λ t. subst (λ (l : List Row). All (λ (r : Row). r.key < c.args.next) l) (take_all c.loop-row.row-index c.args.rows.now (omega arith)) c.loop-row.invariant
