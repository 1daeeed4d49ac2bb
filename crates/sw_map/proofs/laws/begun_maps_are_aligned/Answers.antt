use Rattle.sw_map.proofs.Replays.{begun-aligned}
use Rattle.sw_map.proofs.laws.begun_maps_are_aligned.Goals as goal

pub returns : goal.returns
returns c = λ a tape tail cells. begun-aligned a tape tail cells
