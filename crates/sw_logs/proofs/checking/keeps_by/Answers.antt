use Rattle.std.proofs.Common.{subst, sym}
use Rattle.sw_logs.specs.Orders.{KeepsBy}
use Rattle.sw_logs.specs.declared.order.By.{By}
use Rattle.sw_logs.proofs.checking.keeps_by.Goals as goal

pub returns-in-Times : goal.returns-in-Times
returns-in-Times c = λ told. subst (λ (b : By). KeepsBy b c.args.calls.now c.args.places.now) (sym c.in-Times.is) (c.keeps_times.ensures told)
