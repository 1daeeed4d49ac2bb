use Rattle.sw_rows.proofs.Scans.TextRowLaws.{coded_still, seen_still}
use Rattle.sw_rows.proofs.laws.text_answers.rows_keep_their_texts.Goals as goal

pub returns-clause-coded : goal.returns-clause-coded
returns-clause-coded c = coded_still

pub returns-clause-seen : goal.returns-clause-seen
returns-clause-seen c = seen_still
