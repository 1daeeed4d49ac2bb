use Rattle.sw_map.proofs.Replays.{ready-joined, ready-place}
use Rattle.sw_map.proofs.laws.ready_maps_show_rows.Goals as goal

pub returns : goal.returns
returns c = λ a tape m al end. (ready-joined a tape m al end, λ b. ready-place a tape m b al end)
