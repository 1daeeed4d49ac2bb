use Rattle.std.proofs.Common.{[]}
use Rattle.sw_kernel.specs.Arrangement.{last}
use Rattle.sw_kernel.proofs.Rising.{has-replay_from}
use Rattle.sw_kernel.proofs.laws.bounds_marked.Goals as goal

pub returns : goal.returns
returns c = λ value es b. has-replay_from value b es (last [])
