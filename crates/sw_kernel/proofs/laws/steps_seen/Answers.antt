use Rattle.sw_kernel.specs.Partition.{head_of}
use Rattle.sw_kernel.specs.Replay.{pair_of}
use Rattle.sw_kernel.proofs.Seen.{shown-step}
use Rattle.sw_kernel.proofs.laws.steps_seen.Goals as goal

pub returns : goal.returns
returns c = λ value tail e a. shown-step (pair_of value tail) head_of e a
