use Rattle.std.proofs.Common.{◌≡◌, List, sym, ap, ◌∙◌, subst}
use Rattle.sw_table.specs.declared.row.Update.{Update}
use Rattle.sw_spine.proofs.ReplayLemmas.{numbered_rise}
use Rattle.sw_versions.specs.Known.{Shelved}
use Rattle.sw_engine.specs.Published.{IsShelfOf, no_versions}
use Rattle.sw_engine.proofs.Shelves.{shelf_new}
use Rattle.sw_engine.proofs.history.locked.LockedDesk.new.Goals as goal

pub invariant_of-result : goal.invariant_of-result
invariant_of-result g c =
    let j = g.J.Naming in
    let shelf : c.new.result ≡ no_versions = c.new.ensures ∙ ap (λ (l : List (List Update)). record { booked = l; published = l; viewers = 0; missed = 0 }) c.named-book.ensures in (
      subst (λ (v : Shelved). IsShelfOf j.limit j.opening c.args.desk.books v) (sym shelf) (shelf_new j.columns j.opening j.limit c.args.desk.books c.requires.begun),
      numbered_rise 0 j.opening c.heads-heads.ensures.numbered,
    )
