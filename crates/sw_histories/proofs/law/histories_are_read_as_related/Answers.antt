use Rattle.sw_histories.proofs.Related.RecordGrammar.{file_found, file_only}
use Rattle.sw_histories.proofs.law.histories_are_read_as_related.Goals as goal

pub returns-clause-found : goal.returns-clause-found
returns-clause-found c bytes h e = file_found bytes h e

pub returns-clause-only : goal.returns-clause-only
returns-clause-only c bytes h r = file_only bytes h r
