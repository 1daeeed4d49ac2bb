use Rattle.sw_map.proofs.Replays.{aligned-more}
use Rattle.sw_map.proofs.laws.steps_keep_alignment.Goals as goal

pub returns : goal.returns
returns c = λ a tape m e at al. aligned-more a tape m e at al
