use Rattle.std.proofs.Common.{refl}
use Rattle.std.specs.Char.{encode_utf8}
use Rattle.std.specs.Str.{chars, is_utf8}
use Rattle.csv.proofs.OnLiterals.{csv_on_literals}
use Rattle.sw_rows.proofs.laws.examples.faults_of_tables.Goals as goal

pub returns-clause-empty : goal.returns-clause-empty
unfolding csv_on_literals
returns-clause-empty c = refl

pub returns-clause-short_record : goal.returns-clause-short_record
unfolding csv_on_literals
returns-clause-short_record c = refl

pub returns-clause-long_record : goal.returns-clause-long_record
unfolding csv_on_literals
returns-clause-long_record c = refl

pub returns-clause-no_cell : goal.returns-clause-no_cell
unfolding csv_on_literals
returns-clause-no_cell c = refl

pub returns-clause-length_first : goal.returns-clause-length_first
unfolding csv_on_literals
returns-clause-length_first c = refl

pub returns-clause-header_first : goal.returns-clause-header_first
unfolding csv_on_literals
returns-clause-header_first c = refl

pub returns-clause-no_text : goal.returns-clause-no_text
unfolding csv_on_literals chars is_utf8 encode_utf8
returns-clause-no_text c = refl
