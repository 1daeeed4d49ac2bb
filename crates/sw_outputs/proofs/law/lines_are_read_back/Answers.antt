use Rattle.sw_outputs.proofs.JsonBack.{lines_read_back}
use Rattle.sw_outputs.proofs.law.lines_are_read_back.Goals as goal

pub returns : goal.returns
returns c = lines_read_back
