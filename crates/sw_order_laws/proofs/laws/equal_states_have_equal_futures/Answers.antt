use Rattle.sw_order_laws.proofs.Moves.{alike_have_one_future}
use Rattle.sw_order_laws.proofs.laws.equal_states_have_equal_futures.Goals as goal

pub returns : goal.returns
returns c = alike_have_one_future
