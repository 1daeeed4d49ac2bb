use Rattle.std.proofs.Common.{[]}
use Rattle.sw_kernel.specs.Arrangement.{last}
use Rattle.sw_kernel.proofs.Rising.{replay_from-rises}
use Rattle.sw_kernel.proofs.laws.bounds_rise.Goals as goal

pub returns : goal.returns
returns c = λ value es. replay_from-rises value es (last []) tt
