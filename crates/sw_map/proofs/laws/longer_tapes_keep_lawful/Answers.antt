use Rattle.sw_map.proofs.Replays.{lawful-longer}
use Rattle.sw_map.proofs.laws.longer_tapes_keep_lawful.Goals as goal

pub returns : goal.returns
returns c = λ a tape es m l. lawful-longer a tape es m l
