use Rattle.sw_rows.proofs.Scans.TextRowLaws.{answer_over_texts, matching_over_texts, meets_over_texts}
use Rattle.sw_rows.proofs.laws.text_answers.answers_are_over_texts.Goals as goal

pub returns-clause-meets : goal.returns-clause-meets
returns-clause-meets c = meets_over_texts

pub returns-clause-matching : goal.returns-clause-matching
returns-clause-matching c = matching_over_texts

pub returns-clause-answer : goal.returns-clause-answer
returns-clause-answer c = answer_over_texts
