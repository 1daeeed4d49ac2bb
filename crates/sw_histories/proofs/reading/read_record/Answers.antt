use Rattle.std.proofs.Common.{◌∙◌, ap, sym, subst, Err}
use Rattle.sw_lang.specs.Reading.{Answers}
use Rattle.sw_spine.specs.History.{History}
use Rattle.sw_histories.specs.Outlines.{record_in}
use Rattle.sw_histories.specs.RecordReading.{record_at}
use Rattle.sw_histories.specs.Told.{Reads}
use Rattle.sw_histories.proofs.Found.EntriesLemmas.{other_record, text_record}
use Rattle.sw_histories.proofs.reading.read_record.Goals as goal

pub returns-in-Ok-clause-answers : goal.returns-in-Ok-clause-answers
returns-in-Ok-clause-answers c =
    let same = c.in-Ok.ensures.cases.0 in
    subst (Reads (λ h. h) c.read_record_text.result) (ap record_in same ∙ sym (text_record c.args.bytes.now c.in-Ok.ensures.cases.1)) c.read_record_text.ensures.answers

pub returns-in-Err-clause-answers : goal.returns-in-Err-clause-answers
returns-in-Err-clause-answers c =
    subst (λ e. Answers {A = History} (Err e) (record_at c.args.bytes.now)) (sym c.no_history.ensures) (other_record c.args.bytes.now c.in-Err.ensures.cases.0)
