use Rattle.sw_order_laws.proofs.Moves.{orders_are_whole, whole_are_orders}
use Rattle.sw_order_laws.proofs.laws.whole_beginnings_are_orders.Goals as goal

pub returns-clause-found : goal.returns-clause-found
returns-clause-found c = orders_are_whole

pub returns-clause-orders : goal.returns-clause-orders
returns-clause-orders c = whole_are_orders
