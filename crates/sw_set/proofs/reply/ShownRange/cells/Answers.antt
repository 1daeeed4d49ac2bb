use Rattle.std.proofs.Common.{◌∙◌, ap, sym, subst, slice_range}
use Rattle.sw_query.specs.Scan.{cell_of, column}
use Rattle.sw_set.specs.Choice.{RangeHasCells, RangeState, range_rows, shown_rows, side_in}
use Rattle.sw_set.proofs.Replying.Stock.{column-range}
use Rattle.sw_set.proofs.reply.ShownRange.cells.Goals as goal

pub column_of-column-requires-clause-cells : goal.column_of-column-requires-clause-cells
column_of-column-requires-clause-cells g c κs within = subst (λ (v : RangeState). RangeHasCells v c.args.attr) (sym c.self.view_is) c.requires.cells

pub returns : goal.returns
returns g c =
    let s = c.self.inside in
    c.new.ensures
    ∙ ap (λ m. slice_range (side_in c.column_of-column.result.side (g.M.CrackerMap.held m)) s.from s.upto) (sym c.index-self-column.is)
    ∙ column-range g.M.CrackerMap.held s.boxes.now c.column_of-column.result c.index-self-column.result (cell_of c.args.attr) (shown_rows s.head s.tape.now) s.from s.upto c.column_of-column.ensures c.index-self-column.is
    ∙ ap (λ (v : RangeState). column c.args.attr (range_rows v)) c.self.view_is
