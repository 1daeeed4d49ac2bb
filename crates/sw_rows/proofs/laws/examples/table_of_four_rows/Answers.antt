use Rattle.std.proofs.Common.{refl}
use Rattle.csv.proofs.OnLiterals.{csv_on_literals}
use Rattle.sw_rows.proofs.laws.examples.table_of_four_rows.Goals as goal

pub returns-clause-split : goal.returns-clause-split
unfolding csv_on_literals
returns-clause-split c = refl

pub returns-clause-whole : goal.returns-clause-whole
unfolding csv_on_literals
returns-clause-whole c = refl
