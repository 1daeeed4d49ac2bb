use Rattle.sw_order_laws.proofs.Moves.{idle_calls_come_next, idle_calls_move, replies_tell_of_none, unknown_may_be_left_out}
use Rattle.sw_order_laws.proofs.laws.idle_calls_come_at_once.Goals as goal

pub returns-clause-moved : goal.returns-clause-moved
returns-clause-moved c = idle_calls_move

pub returns-clause-next : goal.returns-clause-next
returns-clause-next c = idle_calls_come_next

pub returns-clause-told : goal.returns-clause-told
returns-clause-told c = replies_tell_of_none

pub returns-clause-left_out : goal.returns-clause-left_out
returns-clause-left_out c = unknown_may_be_left_out
