use Rattle.std.proofs.Common.{[]}
use Rattle.sw_kernel.specs.Partition.{head_of}
use Rattle.sw_kernel.specs.Arrangement.{last}
use Rattle.sw_kernel.specs.Replay.{pair_of}
use Rattle.sw_kernel.proofs.Seen.{shown-replay_from}
use Rattle.sw_kernel.proofs.laws.replays_seen.Goals as goal

pub returns : goal.returns
returns c = λ value tail es. shown-replay_from (pair_of value tail) head_of es (last [])
