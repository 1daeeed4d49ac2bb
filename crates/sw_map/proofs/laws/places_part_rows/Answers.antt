use Rattle.sw_map.specs.Lawful.{rows_by}
use Rattle.sw_map.proofs.Replays.{place-marked, place-sound, place-within}
use Rattle.sw_map.proofs.laws.places_part_rows.Goals as goal

pub returns : goal.returns
returns c = λ a tape b t marked. let p = place-marked a tape b marked in (p.0, p.1, place-within b p.0 (rows_by a tape) p.1, place-sound a tape b p.0 t p.1)
