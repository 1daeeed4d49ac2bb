use Rattle.sw_map.proofs.Replays.{after-room, may-replay}
use Rattle.sw_map.proofs.laws.next_entries_fit.Goals as goal

pub returns : goal.returns
returns c = λ a tape m e t at al. (may-replay a tape m e t al at, after-room a tape m e t al at)
