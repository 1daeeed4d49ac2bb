use Rattle.std.proofs.Common.{refl}
use Rattle.csv.proofs.OnLiterals.{csv_on_literals}
use Rattle.sw_rows.proofs.laws.examples.lines_and_quotes.Goals as goal

pub returns-clause-carriage_returns : goal.returns-clause-carriage_returns
unfolding csv_on_literals
returns-clause-carriage_returns c = refl

pub returns-clause-empty_lines : goal.returns-clause-empty_lines
unfolding csv_on_literals
returns-clause-empty_lines c = refl

pub returns-clause-quoted : goal.returns-clause-quoted
unfolding csv_on_literals
returns-clause-quoted c = refl

pub returns-clause-empty_field : goal.returns-clause-empty_field
unfolding csv_on_literals
returns-clause-empty_field c = refl

pub returns-clause-blanks : goal.returns-clause-blanks
unfolding csv_on_literals
returns-clause-blanks c = refl
