use Rattle.std.proofs.Common.{List, sym, subst}
use mathlib.Core.List.{IsPrefix}
use Rattle.sw_table.specs.declared.row.Update.{Update}
use Rattle.sw_versions.specs.Rules.{updates_in}
use Rattle.sw_engine.specs.Published.{later}
use Rattle.sw_engine.proofs.Shelves.{shown_begins}
use Rattle.sw_engine.proofs.history.locked.LockedDesk.certify.Goals as goal

pub has_all-whole-requires : goal.has_all-whole-requires
has_all-whole-requires g c =
    let j = g.J.Naming in
    let b = c.self.inside.desk.books in
    subst (λ (us : List Update). IsPrefix (updates_in c.published-receipt.result) us) (sym c.later.ensures.later)
    (subst (λ (l : List (List Update)). IsPrefix (updates_in l) (later j.opening b)) (sym c.published-receipt.ensures) (shown_begins j.limit j.opening b c.self.inside.shelf c.self.invariant.0))
