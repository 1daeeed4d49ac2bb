use Rattle.std.proofs.Common.{ap, subst, refl, List}
use mathlib.Core.List.{IsPrefix}
use Rattle.sw_table.specs.declared.row.Update.{Update}
use Rattle.sw_versions.proofs.Batches.{either_begins}
use Rattle.sw_versions.proofs.book.Front.begins.Goals as goal

pub returns : goal.returns
returns g c =
    let one = c.self.inside.seen.log in
    let other = c.other.inside.seen.log in
    let both = c.learn.new.self.log in
    let this : IsPrefix one both = subst (λ (l : List (List Update)). IsPrefix l both) (ap (λ s. s.log) c.again-both.ensures) c.learn.ensures.2 in
    rw (← c.self.view_is, ← c.other.view_is) (either_begins one other both this c.learn.ensures.3 c.self.invariant.3 c.other.invariant.3 c.self.inside.count c.other.inside.count c.self.invariant.0 c.other.invariant.0 _ refl)
