use Rattle.sw_lang.proofs.Parsing.TextFits.{asks_of_texts, row_of_codes}
use Rattle.sw_lang.proofs.laws.lines_ask_of_texts.Goals as goal

pub returns-clause-queries : goal.returns-clause-queries
returns-clause-queries c = asks_of_texts

pub returns-clause-rows : goal.returns-clause-rows
returns-clause-rows c = row_of_codes
