use Rattle.sw_order_laws.proofs.Choosing.{exhausted_has_no_end, exhausted_has_no_order}
use Rattle.sw_order_laws.proofs.laws.exhausted_searches_have_no_order.Goals as goal

pub returns-clause-end : goal.returns-clause-end
returns-clause-end c = exhausted_has_no_end

pub returns-clause-order : goal.returns-clause-order
returns-clause-order c = exhausted_has_no_order
