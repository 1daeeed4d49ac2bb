use Rattle.std.proofs.Common.{ap, sym, subst, List}
use Rattle.std.proofs.lemmas.Result.{IfOk-weaker}
use Rattle.sw_table.specs.declared.row.Update.{Update}
use Rattle.sw_versions.specs.Known.{Known}
use Rattle.sw_engine.specs.Published.{EndWithEntries}
use Rattle.sw_engine.proofs.Shelves.{shelf_ends, shelf_viewed}
use Rattle.sw_engine.proofs.history.locked.LockedDesk.viewer.Goals as goal

pub returns-clause-entries : goal.returns-clause-entries
returns-clause-entries g c =
    let j = g.J.Naming in
    let books = c.self.inside.desk.books in
    let shelf = c.self.inside.shelf in
    IfOk-weaker c.viewer.result _ _
    (λ v is. subst (λ (l : List (List Update)). EndWithEntries j.limit j.opening books.entries l) (sym (ap (λ (k : Known). k.seen) is)) (shelf_ends j.limit j.opening books shelf c.self.invariant.0))
    c.viewer.ensures.opened

pub invariant_of-self : goal.invariant_of-self
invariant_of-self g c =
    let j = g.J.Naming in
    (shelf_viewed c.viewer.result _ j.limit j.opening c.self.inside.desk.books c.self.inside.shelf c.viewer.new.self c.self.invariant.0 c.viewer.ensures.counted c.viewer.ensures.refused, c.self.invariant.1)
