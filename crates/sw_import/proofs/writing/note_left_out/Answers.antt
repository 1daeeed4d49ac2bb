use Rattle.sw_import.proofs.TakenLemmas.{tells_one}
use Rattle.sw_import.proofs.writing.note_left_out.Goals as goal

pub returns-then-place-done : goal.returns-then-place-done
returns-then-place-done c = tells_one c.args.done.now c.args.place _ _ c.if-place-done.true c.add.ensures
