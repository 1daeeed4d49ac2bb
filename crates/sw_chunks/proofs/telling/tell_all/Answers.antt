use Rattle.sw_table.specs.declared.row.Update.{Update}
use Rattle.sw_chunks.specs.Heads.{CellsFit, told_in}
use Rattle.sw_chunks.proofs.Tells.{all-more, told-more}
use Rattle.sw_chunks.proofs.telling.tell_all.Goals as goal

pub loop-update-preserved : goal.loop-update-preserved
loop-update-preserved c = (
  told-more (told_in c.loop-update.told.rows) (told_in c.tell.new.told.rows) (told_in c.args.told.now.rows) c.args.updates.now c.loop-update.update-index _ c.loop-update-test.true c.loop-update.invariant.0 c.tell.ensures,
  all-more (λ (u : Update). CellsFit u) c.args.updates.now c.loop-update.update-index _ c.loop-update-test.true c.loop-update.invariant.1 c.update_fits.ensures,
)
