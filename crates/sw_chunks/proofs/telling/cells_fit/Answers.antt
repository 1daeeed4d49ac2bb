use Rattle.std.proofs.Common.{All, subst}
use Rattle.sw_chunks.specs.Heads.{IsCell}
use Rattle.sw_chunks.proofs.Tells.{cell-at}
use Rattle.sw_chunks.proofs.telling.cells_fit.Goals as goal

pub returns : goal.returns
returns g = cell-at g.args.row.now.cells (subst (All IsCell) g.as_slice.ensures g.all_fit.ensures)
