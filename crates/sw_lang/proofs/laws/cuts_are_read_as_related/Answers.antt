use Rattle.sw_lang.proofs.Cutting.Texts.{cuts_found, cuts_read}
use Rattle.sw_lang.proofs.laws.cuts_are_read_as_related.Goals as goal

pub returns-clause-found : goal.returns-clause-found
returns-clause-found c = cuts_found

pub returns-clause-only : goal.returns-clause-only
returns-clause-only c = cuts_read
