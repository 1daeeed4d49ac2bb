use Rattle.sw_kernel.proofs.Once.{count-replay}
use Rattle.sw_kernel.proofs.laws.items_counted.Goals as goal

pub returns : goal.returns
returns c = λ value es t. count-replay value es t
