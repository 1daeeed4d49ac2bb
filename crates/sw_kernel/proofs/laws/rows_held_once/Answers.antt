use Rattle.sw_table.specs.declared.row.Row.{Row}
use Rattle.sw_kernel.specs.Arrangement.{joined}
use Rattle.sw_kernel.specs.Replay.{replay}
use Rattle.sw_kernel.specs.Tapes.{live_rows}
use Rattle.sw_kernel.proofs.Once.{held-replay, once-from_held}
use Rattle.sw_kernel.proofs.laws.rows_held_once.Goals as goal

pub returns : goal.returns
returns c = λ value es t d. once-from_held (λ (r : Row). r.key) (joined (replay value es)) (live_rows value (λ (r : Row). r.key) es) (held-replay value (λ (r : Row). r.key) es t d)
