use Rattle.std.proofs.Common.{ℕ, List, subst}
use Rattle.std.proofs.lemmas.Result.{IfOk-weaker}
use Rattle.sw_logs.specs.Orders.{IsOrderOf}
use Rattle.sw_logs.proofs.order.is_order.Goals as goal

pub returns : goal.returns
returns c = IfOk-weaker c.is_order_of.result _ _ (λ told h good. subst (λ (l : List ℕ). IsOrderOf c.args.by c.args.calls.now l) c.as_slice-places.ensures.value (h good)) c.is_order_of.ensures
