use Rattle.sw_engine.proofs.Later.{begin_self}
use Rattle.sw_engine.proofs.engine.Session.delete_where.Goals as goal

pub returns-then-is_err-clause-grows : goal.returns-then-is_err-clause-grows
returns-then-is_err-clause-grows g c = begin_self c.args.self.now.2.entries
