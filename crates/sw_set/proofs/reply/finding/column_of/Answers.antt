use Rattle.std.proofs.Common.{sym, subst, ℕ, map}
use Rattle.sw_query.specs.Scan.{column}
use Rattle.sw_map.specs.declared.tail.Tail.TheVariants.{Key, Cell}
use Rattle.sw_set.specs.Choice.{IsColumn, shown_rows}
use Rattle.sw_set.specs.declared.reply.window.Side.TheVariants.{Head}
use Rattle.sw_set.proofs.Replying.Stock.{head-column, tail-column}
use Rattle.sw_set.proofs.reply.finding.column_of.Goals as goal

pub returns-then-attr-head : goal.returns-then-attr-head
returns-then-attr-head g c =
    subst (λ (a : ℕ). IsColumn (map g.M.CrackerMap.held c.args.boxes.now) (record { at = c.find_ready.result; side = Head }) (column a (shown_rows c.args.head c.args.tape.now))) (sym c.if-attr-head.true)
    (head-column g.M.CrackerMap.held c.args.boxes.now c.args.head c.args.tape.now Key c.find_ready.result c.requires.stocked c.find_ready.ensures.inside c.find_ready.ensures.ready)

pub returns : goal.returns
returns g c = tail-column g.M.CrackerMap.held c.args.boxes.now c.args.head c.args.tape.now (Cell c.args.attr) c.find_ready-2.result c.requires.stocked c.find_ready-2.ensures.inside c.find_ready-2.ensures.ready
