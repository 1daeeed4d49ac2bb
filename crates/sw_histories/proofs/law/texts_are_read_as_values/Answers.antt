use Rattle.sw_histories.proofs.Back.RecordBack.{record_read}
use Rattle.sw_histories.proofs.law.texts_are_read_as_values.Goals as goal

pub returns : goal.returns
returns c = record_read
