use Rattle.std.proofs.Common.{rules, ◌≡◌, ◌∙◌, length, subst}
use mir.Syntax.{w64}
use mir.Val.{of_z, to_z}
use Rattle.sw_table.specs.Packed.{zeros}
use Rattle.sw_arrays.proofs.Blocks.{part_filled}
use Rattle.sw_arrays.specs.Columns.{row_cells}
use Rattle.sw_arrays.proofs.Rows.{row_next, row_whole}
use Rattle.sw_arrays.proofs.columns.cells_at.Goals as goal

pub loop-attr-preserved : goal.loop-attr-preserved
loop-attr-preserved c =
    let same : to_z w64 (of_z w64 c.cell_or_zero.result) ≡ c.cell_or_zero.result = search rules in
    row_next c.args.columns.now c.args.row c.loop-attr.attr _ c.loop-attr.cells _ c.loop-attr-test.true c.requires (same ∙ c.cell_or_zero.ensures) c.loop-attr.invariant

pub returns : goal.returns
returns c =
    let full : c.loop-attr.attr ≡ length c.args.columns.now = search rules in
    row_whole c.args.columns.now c.args.row c.loop-attr.cells c.requires (subst (λ n. c.loop-attr.cells ≡ part_filled n (row_cells c.args.columns.now c.args.row) zeros) full c.loop-attr.invariant)
