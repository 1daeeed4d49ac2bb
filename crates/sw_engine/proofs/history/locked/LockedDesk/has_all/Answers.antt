use Rattle.std.proofs.Common.{List, ap, subst, sym}
use mathlib.Core.List.{IsPrefix}
use Rattle.sw_table.specs.declared.row.Update.{Update}
use Rattle.sw_versions.proofs.Prefixes.{prefix_trans}
use Rattle.sw_versions.specs.Rules.{updates_in}
use Rattle.sw_spine.specs.declared.history.Entry.{Entry}
use Rattle.sw_engine.specs.Published.{Shown, TellsAll, later}
use Rattle.sw_engine.proofs.Shelves.{published_begins, tells_all}
use Rattle.sw_engine.proofs.history.locked.LockedDesk.has_all.Goals as goal

pub has_all-requires : goal.has_all-requires
has_all-requires g c =
    let opening = g.J.Naming.opening in
    let b = c.look.new.self.books in
    let us = updates_in c.receipt.result.now in
    let shown : IsPrefix c.look.new.session.shown.2.published (later opening b) = subst (λ (x : Shown). IsPrefix x.2.published (later opening b)) (sym c.look.ensures.sees) (published_begins opening b) in
    subst (λ (l : List Update). IsPrefix us l) (sym c.later.ensures.later)
    (prefix_trans us c.look.new.session.shown.2.published (later opening b) c.receipt.ensures.held shown)

pub returns-clause-all : goal.returns-clause-all
returns-clause-all g c =
    let j = g.J.Naming in
    let b = c.look.new.self.books in
    let v = c.look.new.session.shown in
    let entries = ap (λ (x : Shown). x.2.entries) c.look.ensures.sees in
    subst (λ (l : List (List Update)). TellsAll j.limit j.opening v.2.entries l c.has_all.result) c.receipt.ensures.given
    (subst (λ (es : List Entry). TellsAll j.limit j.opening es c.receipt.result.now c.has_all.result) (sym entries)
    (tells_all j.limit j.opening b.entries c.receipt.result.now c.later.result.now c.has_all.result c.has_all.ensures c.later.ensures.all))
