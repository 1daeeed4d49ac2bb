use Rattle.std.proofs.Common.{refl}
use Rattle.csv.proofs.OnLiterals.{csv_on_literals}
use Rattle.sw_rows.proofs.laws.examples.cut_tables.Goals as goal

pub returns-clause-at_6 : goal.returns-clause-at_6
unfolding csv_on_literals
returns-clause-at_6 c = refl

pub returns-clause-at_7 : goal.returns-clause-at_7
unfolding csv_on_literals
returns-clause-at_7 c = refl

pub returns-clause-at_31 : goal.returns-clause-at_31
unfolding csv_on_literals
returns-clause-at_31 c = refl

pub returns-clause-at_40 : goal.returns-clause-at_40
unfolding csv_on_literals
returns-clause-at_40 c = refl

pub returns-clause-at_42 : goal.returns-clause-at_42
unfolding csv_on_literals
returns-clause-at_42 c = refl

pub returns-clause-at_43 : goal.returns-clause-at_43
unfolding csv_on_literals
returns-clause-at_43 c = refl

pub returns-clause-at_44 : goal.returns-clause-at_44
unfolding csv_on_literals
returns-clause-at_44 c = refl
