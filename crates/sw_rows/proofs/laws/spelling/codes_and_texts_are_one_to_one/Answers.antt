use Rattle.sw_rows.proofs.Schemas.TextLaws.{code_counted, code_only, code_there, code_within}
use Rattle.sw_rows.proofs.laws.spelling.codes_and_texts_are_one_to_one.Goals as goal

pub returns-clause-there : goal.returns-clause-there
returns-clause-there c = λ texts code text s. code_there texts code text s.distinct

pub returns-clause-only : goal.returns-clause-only
returns-clause-only c = code_only

pub returns-clause-within : goal.returns-clause-within
returns-clause-within c = code_within

pub returns-clause-each : goal.returns-clause-each
returns-clause-each c = code_counted
