use Rattle.sw_rows.proofs.Schemas.TextLaws.{code_kept, given_kept, taken_back, text_of_kept}
use Rattle.sw_rows.proofs.laws.spelling.texts_keep_their_codes.Goals as goal

pub returns-clause-codes : goal.returns-clause-codes
returns-clause-codes c = code_kept

pub returns-clause-texts : goal.returns-clause-texts
returns-clause-texts c = text_of_kept

pub returns-clause-given : goal.returns-clause-given
returns-clause-given c = given_kept

pub returns-clause-taken_back : goal.returns-clause-taken_back
returns-clause-taken_back c = taken_back
