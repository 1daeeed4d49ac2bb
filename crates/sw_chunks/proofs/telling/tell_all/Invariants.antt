use Rattle.std.proofs.Common.{◌≡◌, ◌++◌, take, All}
use Rattle.sw_table.specs.declared.row.Update.{Update}
use Rattle.sw_chunks.specs.Heads.{CellsFit, told_in}
use Rattle.sw_chunks.proofs.telling.tell_all.Given as goal

abbrev pub invariant-loop-update : goal.invariant-loop-update
invariant-loop-update l = (told_in l.told.rows ≡ told_in l.initial.told.rows ++ take l.update-index l.updates) × All (λ (u : Update). CellsFit u) (take l.update-index l.updates)
