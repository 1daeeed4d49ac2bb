use Rattle.sw_lang.specs.Replies.{kind_at}
use Rattle.sw_lang.proofs.Progress.{step, stops_within}
use Rattle.sw_lang.proofs.Printed.Texts.{cells_first}
use Rattle.sw_lang.proofs.printing.rows.write_more_cells.Goals as goal

pub returns-in_err-write_next_cell : goal.returns-in_err-write_next_cell
returns-in_err-write_next_cell g c =
    let parted = rw (cells_first (kind_at c.args.schema.now) c.in-Some.attr.now c.in-Some.later.now c.loop-attr.attrs.now c.in-Some-split_first.cell.now c.in-Some-split_first.after.now c.loop-attr.cells.now c.in-Some.ensures.cases.0 c.in-Some-split_first.ensures.cases.0) at c.loop-attr.invariant in
    stops_within _ _ c.from_residual.result c.from_residual.ensures.1 parted (rw c.values_or_int.ensures.domain at c.in_err-write_next_cell.ensures)

pub loop-attr-preserved : goal.loop-attr-preserved
loop-attr-preserved g c =
    let parted = rw (cells_first (kind_at c.args.schema.now) c.in-Some.attr.now c.in-Some.later.now c.loop-attr.attrs.now c.in-Some-split_first.cell.now c.in-Some-split_first.after.now c.loop-attr.cells.now c.in-Some.ensures.cases.0 c.in-Some-split_first.ensures.cases.0) at c.loop-attr.invariant in
    step parted (rw c.values_or_int.ensures.domain at c.in_ok-write_next_cell.ensures)
