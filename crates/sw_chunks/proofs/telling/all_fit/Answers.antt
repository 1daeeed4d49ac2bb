use Rattle.std.proofs.Common.{arith}
use Rattle.sw_chunks.specs.Heads.{IsCell}
use Rattle.sw_chunks.proofs.Tells.{all-more, all-taken}
use Rattle.sw_chunks.proofs.telling.all_fit.Goals as goal

pub loop-cell-preserved : goal.loop-cell-preserved
loop-cell-preserved c = all-more IsCell c.args.cells.now c.loop-cell.cell-index _ c.loop-cell-test.true c.loop-cell.invariant c.cell_fits.ensures

pub returns : goal.returns
returns c = all-taken IsCell c.args.cells.now c.loop-cell.cell-index (let no = c.loop-cell-test.false in omega (arith, no)) c.loop-cell.invariant
