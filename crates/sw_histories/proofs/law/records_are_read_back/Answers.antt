use Rattle.sw_histories.proofs.Back.RunRecords.{records_read_back}
use Rattle.sw_histories.proofs.Back.WrittenAgain.{text_same}
use Rattle.sw_histories.proofs.law.records_are_read_back.Goals as goal

pub returns-clause-read : goal.returns-clause-read
returns-clause-read c = records_read_back

pub returns-clause-again : goal.returns-clause-again
returns-clause-again c = text_same
