use Rattle.std.proofs.Common.{ap, subst, ◌∙◌}
use Rattle.sw_engine.specs.Later.{Begin}
use Rattle.sw_engine.specs.Own.{own_of}
use Rattle.sw_engine.specs.Published.{Shown}
use Rattle.sw_engine.proofs.engine.Session.is_whole.Goals as goal

pub returns-clause-number : goal.returns-clause-number
returns-clause-number g c =
    let b = c.has_all.new.ticket in
    let stays = c.has_all.ensures.stays in
    stays.visited.number ∙ ap (λ (v : Shown). v.0) c.self.view_is

pub returns-clause-mine : goal.returns-clause-mine
returns-clause-mine g c =
    let b = c.has_all.new.ticket in
    let stays = c.has_all.ensures.stays in
    stays.calls ∙ ap (λ (v : Shown). v.1) c.self.view_is

pub returns-clause-own : goal.returns-clause-own
returns-clause-own g c =
    let b = c.has_all.new.ticket in
    let stays = c.has_all.ensures.stays in
    stays.own ∙ ap own_of c.self.view_is

pub returns-clause-grows : goal.returns-clause-grows
returns-clause-grows g c =
    let b = c.has_all.new.ticket in
    let stays = c.has_all.ensures.stays in
    subst (λ (v : Shown). Begin v.2.entries b.2.entries) c.self.view_is stays.visited.entries

pub returns-clause-receipt : goal.returns-clause-receipt
returns-clause-receipt g c =
    let b = c.has_all.new.ticket in
    let stays = c.has_all.ensures.stays in
    stays.visited.given ∙ ap (λ (v : Shown). v.2.given) c.self.view_is

pub returns-clause-missed : goal.returns-clause-missed
returns-clause-missed g c =
    let b = c.has_all.new.ticket in
    let stays = c.has_all.ensures.stays in
    stays.visited.missed ∙ ap (λ (v : Shown). v.2.missed) c.self.view_is
