use Rattle.sw_kernel.proofs.Sound.{replay-sound}
use Rattle.sw_kernel.proofs.laws.marks_sound.Goals as goal

pub returns : goal.returns
returns c = λ value es t. replay-sound value es t
