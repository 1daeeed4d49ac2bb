use Rattle.std.proofs.Common.{◌∙◌, ◌+◌, List, length, sym, ap, subst}
use mathlib.Core.List.{IsPrefix}
use Rattle.sw_table.specs.declared.row.Update.{Update}
use Rattle.sw_versions.specs.Rules.{updates_in}
use Rattle.sw_spine.specs.Books.{Books, with_published}
use Rattle.sw_spine.specs.declared.history.Entry.{Entry}
use Rattle.sw_engine.specs.Published.{EndWithEntries, IsShelfOf, Shown, TellsAll, later, published_of}
use Rattle.sw_engine.proofs.Shelves.{published_is, shelf_caught, shelf_count, shelf_ends, shelf_high, shelf_low, shown_begins, tells_all}
use Rattle.sw_engine.proofs.history.locked.LockedDesk.publish.Goals as goal

pub catch_up-came-requires : goal.catch_up-came-requires
catch_up-came-requires g c =
    subst (λ (us : List Update). IsPrefix (updates_in c.self.inside.shelf.booked) us) (sym c.later.ensures.later) c.self.invariant.0.booked

pub publish-requires-clause-low : goal.publish-requires-clause-low
publish-requires-clause-low g c =
    let j = g.J.Naming in
    let is = c.count-count.ensures ∙ ap (λ (l : List (List Update)). length j.opening + length (updates_in l)) c.published-receipt.ensures in
    shelf_low j.limit j.opening c.self.inside.desk.books c.self.inside.shelf c.catch_up-came.new.self c.count-count.result c.self.invariant.0 c.catch_up-came.ensures.grows is

pub publish-requires-clause-high : goal.publish-requires-clause-high
publish-requires-clause-high g c =
    let j = g.J.Naming in
    let b = c.self.inside.desk.books in
    let v = c.catch_up-came.new.self in
    let is = c.count-count.ensures ∙ ap (λ (l : List (List Update)). length j.opening + length (updates_in l)) c.published-receipt.ensures in
    let caught = shelf_caught j.limit j.opening b c.self.inside.shelf v c.later.result.now c.count-count.result c.self.invariant.0 c.later.ensures.later c.later.ensures.entries c.catch_up-came.ensures.booked c.catch_up-came.ensures.batch c.catch_up-came.ensures.published is in
    shelf_high j.limit j.opening (with_published c.count-count.result b) v c.count-count.result caught is c.later.ensures.opening

pub publish-requires-clause-ends : goal.publish-requires-clause-ends
publish-requires-clause-ends g c =
    let j = g.J.Naming in
    let b = c.self.inside.desk.books in
    let v = c.catch_up-came.new.self in
    let is = c.count-count.ensures ∙ ap (λ (l : List (List Update)). length j.opening + length (updates_in l)) c.published-receipt.ensures in
    let caught = shelf_caught j.limit j.opening b c.self.inside.shelf v c.later.result.now c.count-count.result c.self.invariant.0 c.later.ensures.later c.later.ensures.entries c.catch_up-came.ensures.booked c.catch_up-came.ensures.batch c.catch_up-came.ensures.published is in
    shelf_count j.limit j.opening (with_published c.count-count.result b) v c.count-count.result caught is

pub invariant_of-self : goal.invariant_of-self
invariant_of-self g c =
    let j = g.J.Naming in
    let b = c.self.inside.desk.books in
    let v = c.catch_up-came.new.self in
    let is = c.count-count.ensures ∙ ap (λ (l : List (List Update)). length j.opening + length (updates_in l)) c.published-receipt.ensures in
    let caught = shelf_caught j.limit j.opening b c.self.inside.shelf v c.later.result.now c.count-count.result c.self.invariant.0 c.later.ensures.later c.later.ensures.entries c.catch_up-came.ensures.booked c.catch_up-came.ensures.batch c.catch_up-came.ensures.published is in
    (subst (λ (x : Books). IsShelfOf j.limit j.opening x v) (sym c.publish.ensures.published) caught, c.self.invariant.1)

pub returns-clause-told : goal.returns-clause-told
returns-clause-told g c =
    let j = g.J.Naming in
    let b = c.self.inside.desk.books in
    let v = c.catch_up-came.new.self in
    let is = c.count-count.ensures ∙ ap (λ (l : List (List Update)). length j.opening + length (updates_in l)) c.published-receipt.ensures in
    let caught = shelf_caught j.limit j.opening b c.self.inside.shelf v c.later.result.now c.count-count.result c.self.invariant.0 c.later.ensures.later c.later.ensures.entries c.catch_up-came.ensures.booked c.catch_up-came.ensures.batch c.catch_up-came.ensures.published is in
    ap updates_in c.published-receipt.ensures ∙ sym (ap (λ (x : Shown). x.2.published) c.publish.ensures.sees ∙ ap (published_of j.opening) c.publish.ensures.published ∙ published_is j.limit j.opening (with_published c.count-count.result b) v caught)

pub returns-clause-entries : goal.returns-clause-entries
returns-clause-entries g c =
    let j = g.J.Naming in
    let b = c.self.inside.desk.books in
    let v = c.catch_up-came.new.self in
    let is = c.count-count.ensures ∙ ap (λ (l : List (List Update)). length j.opening + length (updates_in l)) c.published-receipt.ensures in
    let caught = shelf_caught j.limit j.opening b c.self.inside.shelf v c.later.result.now c.count-count.result c.self.invariant.0 c.later.ensures.later c.later.ensures.entries c.catch_up-came.ensures.booked c.catch_up-came.ensures.batch c.catch_up-came.ensures.published is in
    subst (λ (x : Books). EndWithEntries j.limit j.opening x.entries v.published) (sym c.publish.ensures.published) (shelf_ends j.limit j.opening (with_published c.count-count.result b) v caught)

pub has_all-whole-requires : goal.has_all-whole-requires
has_all-whole-requires g c =
    let j = g.J.Naming in
    let b = c.self.inside.desk.books in
    let v = c.catch_up-came.new.self in
    let is = c.count-count.ensures ∙ ap (λ (l : List (List Update)). length j.opening + length (updates_in l)) c.published-receipt.ensures in
    let caught = shelf_caught j.limit j.opening b c.self.inside.shelf v c.later.result.now c.count-count.result c.self.invariant.0 c.later.ensures.later c.later.ensures.entries c.catch_up-came.ensures.booked c.catch_up-came.ensures.batch c.catch_up-came.ensures.published is in
    let begins : IsPrefix (updates_in v.published) (later j.opening b) = shown_begins j.limit j.opening (with_published c.count-count.result b) v caught in
    subst (λ (us : List Update). IsPrefix (updates_in c.published-receipt.result) us) (sym c.later-2.ensures.later) (subst (λ (l : List (List Update)). IsPrefix (updates_in l) (later j.opening b)) (sym c.published-receipt.ensures) begins)

pub returns-clause-all : goal.returns-clause-all
returns-clause-all g c =
    let j = g.J.Naming in
    let b = c.self.inside.desk.books in
    subst (λ (es : List Entry). TellsAll j.limit j.opening es c.published-receipt.result c.has_all-whole.result) (sym (ap (λ (x : Shown). x.2.entries) c.publish.ensures.sees ∙ ap (λ (x : Books). x.entries) c.publish.ensures.published))
    (tells_all j.limit j.opening b.entries c.published-receipt.result c.later-2.result.now c.has_all-whole.result c.has_all-whole.ensures c.later-2.ensures.all)
