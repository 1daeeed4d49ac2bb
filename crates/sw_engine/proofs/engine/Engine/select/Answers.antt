use Rattle.std.proofs.Common.{inl}
use Rattle.sw_engine.proofs.engine.Engine.select.Goals as goal

pub returns-in-Err-clause-refused : goal.returns-in-Err-clause-refused
returns-in-Err-clause-refused g c = (inl c.in-Err.ensures.refused.0, c.in-Err.ensures.refused.1)
