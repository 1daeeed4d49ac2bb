use Rattle.sw_order_laws.proofs.Choosing.{left_alone_stays_apart}
use Rattle.sw_order_laws.proofs.Moves.{calls_apart_change_places, calls_apart_leave_the_same, calls_apart_move}
use Rattle.sw_order_laws.proofs.laws.calls_apart_need_one_order.Goals as goal

pub returns-clause-exchanged : goal.returns-clause-exchanged
returns-clause-exchanged c = calls_apart_change_places

pub returns-clause-same : goal.returns-clause-same
returns-clause-same c = calls_apart_leave_the_same

pub returns-clause-moved : goal.returns-clause-moved
returns-clause-moved c = calls_apart_move

pub returns-clause-later : goal.returns-clause-later
returns-clause-later c = left_alone_stays_apart
