use Rattle.std.proofs.Common.{◌∙◌}
use Rattle.sw_histories.proofs.Back.RecordTextLemmas.{writes_text}
use Rattle.sw_histories.proofs.writing.write_record_ref.Goals as goal

pub returns-in-Ok : goal.returns-in-Ok
returns-in-Ok g c = writes_text _ _ _ _ c.write_all.result _ (rw (c.as_slice.ensures.value ∙ c.in-Ok.ensures) at c.write_all.ensures)
