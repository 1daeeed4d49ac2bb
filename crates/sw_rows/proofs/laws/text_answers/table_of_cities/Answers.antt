use Rattle.std.proofs.Common.{refl}
use Rattle.std.specs.Char.{encode_utf8}
use Rattle.std.specs.Str.{chars, is_utf8}
use Rattle.csv.proofs.OnLiterals.{csv_on_literals}
use Rattle.sw_rows.proofs.laws.text_answers.table_of_cities.Goals as goal

pub returns-clause-whole : goal.returns-clause-whole
unfolding csv_on_literals chars is_utf8 encode_utf8
returns-clause-whole c = refl
