use Rattle.sw_engine.proofs.Later.{begin_trans}
use Rattle.sw_engine_laws.proofs.Stays.{ends_stay, placed}
use Rattle.sw_engine_laws.proofs.law.what_was_seen_stays.Goals as goal

pub returns-clause-placed : goal.returns-clause-placed
returns-clause-placed c es fs begin p e = placed es fs p e begin

pub returns-clause-ends : goal.returns-clause-ends
returns-clause-ends c es fs begin limit opening batches = ends_stay limit opening es fs batches begin

pub returns-clause-again : goal.returns-clause-again
returns-clause-again c = begin_trans
