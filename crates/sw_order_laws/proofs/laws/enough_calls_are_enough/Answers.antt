use Rattle.sw_order_laws.proofs.Choosing.{closed_are_enough, one_of_enough_comes_next, untouched_lack}
use Rattle.sw_order_laws.proofs.Wanting.{wanting_fewer_lack, wanting_more_lack}
use Rattle.sw_order_laws.proofs.laws.enough_calls_are_enough.Goals as goal

pub returns-clause-next : goal.returns-clause-next
returns-clause-next c = one_of_enough_comes_next

pub returns-clause-closed : goal.returns-clause-closed
returns-clause-closed c = closed_are_enough

pub returns-clause-lacking : goal.returns-clause-lacking
returns-clause-lacking c = untouched_lack

pub returns-clause-more : goal.returns-clause-more
returns-clause-more c = wanting_more_lack

pub returns-clause-fewer : goal.returns-clause-fewer
returns-clause-fewer c = wanting_fewer_lack
