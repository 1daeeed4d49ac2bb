use Rattle.sw_histories.proofs.Back.LegalFiles.{files_found_legal, lines_legal}
use Rattle.sw_histories.proofs.law.legal_files_are_found_legal.Goals as goal

pub returns-clause-lines : goal.returns-clause-lines
returns-clause-lines c = lines_legal

pub returns-clause-checked : goal.returns-clause-checked
returns-clause-checked c = files_found_legal
