use Rattle.sw_outputs.proofs.CsvBack.{values_read_back}
use Rattle.sw_outputs.proofs.law.values_are_read_back.Goals as goal

pub returns : goal.returns
returns c = values_read_back
