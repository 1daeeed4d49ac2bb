use Rattle.sw_outputs.proofs.TableBack.{tables_read_back}
use Rattle.sw_outputs.proofs.law.tables_are_read_back.Goals as goal

pub returns : goal.returns
returns c = tables_read_back
