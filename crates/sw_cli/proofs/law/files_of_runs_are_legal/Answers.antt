use Rattle.sw_cli.proofs.RunRecords.{found_legal, records_of_runs}
use Rattle.sw_cli.proofs.law.files_of_runs_are_legal.Goals as goal

pub returns-clause-of_runs : goal.returns-clause-of_runs
returns-clause-of_runs c = records_of_runs

pub returns-clause-found : goal.returns-clause-found
returns-clause-found c = found_legal
