use Rattle.std.proofs.Common.{List, length, subst, sym}
use Rattle.sw_logs.specs.Orders.{AllFit}
use Rattle.sw_logs.specs.declared.logged.Logged.{Logged}
use Rattle.sw_keys.specs.Renamings.{IsRenaming}
use Rattle.sw_keys.proofs.RenamingLemmas.{fit_renamed}
use Rattle.sw_keys.proofs.order.check_renamed_order.Goals as goal

pub check_order-requires-clause-fit : goal.check_order-requires-clause-fit
check_order-requires-clause-fit c =
    let renaming : IsRenaming c.as_slice.result.now c.len-count.result c.args.calls.now c.in-Some.renamed.items = rw c.in-Some.is at c.in-Ok.ensures in
    subst (λ (l : List Logged). AllFit (length c.args.opening.schema) l) (sym c.as_slice-2.ensures.value)
    (fit_renamed (length c.args.opening.schema) c.as_slice.result.now c.args.calls.now c.in-Some.renamed.items renaming.calls_are c.requires.fit)
