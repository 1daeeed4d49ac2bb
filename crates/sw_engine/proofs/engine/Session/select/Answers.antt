use Rattle.std.proofs.Common.{◌≡◌, ◌++◌, ◌∷◌, [], ap, subst, ◌∙◌}
use Rattle.std.specs.Prelude.{IfOk, OnErr}
use Rattle.sw_query.specs.declared.query.Call.TheVariants.{Select}
use Rattle.sw_engine.specs.Later.{Begin}
use Rattle.sw_engine.specs.Own.{LeavesSelect}
use Rattle.sw_engine.specs.Published.{Shown}
use Rattle.sw_engine.proofs.Called.{select_calls, select_full, select_leaves, select_refused, select_stays, select_visited}
use Rattle.sw_engine.proofs.engine.Session.select.Goals as goal

pub returns-clause-number : goal.returns-clause-number
returns-clause-number g c =
    let q = c.args.query.now in
    let told = c.select.result in
    let a = c.self.inside.ticket in
    let b = c.select.new.ticket in
    let e = c.select.ensures in
    (select_visited q told a b e.answers e.refused).number ∙ ap (λ (v : Shown). v.0) c.self.view_is

pub returns-clause-mine : goal.returns-clause-mine
returns-clause-mine g c =
    let q = c.args.query.now in
    let told = c.select.result in
    let a = c.self.inside.ticket in
    let b = c.select.new.ticket in
    let e = c.select.ensures in
    subst (λ (v : Shown). IfOk told (λ r. b.1 ≡ v.1 ++ (Select q, r) ∷ [])) c.self.view_is (select_calls q told a b e.answers)

pub returns-clause-err : goal.returns-clause-err
returns-clause-err g c =
    let q = c.args.query.now in
    let told = c.select.result in
    let a = c.self.inside.ticket in
    let b = c.select.new.ticket in
    let e = c.select.ensures in
    subst (λ (v : Shown). OnErr told (b.1 ≡ v.1)) c.self.view_is (select_stays q told a b e.refused)

pub returns-clause-own : goal.returns-clause-own
returns-clause-own g c =
    let q = c.args.query.now in
    let told = c.select.result in
    let a = c.self.inside.ticket in
    let b = c.select.new.ticket in
    let e = c.select.ensures in
    subst (λ (v : Shown). LeavesSelect q told v b) c.self.view_is (select_leaves q told a b e.answers e.refused)

pub returns-clause-grows : goal.returns-clause-grows
returns-clause-grows g c =
    let q = c.args.query.now in
    let told = c.select.result in
    let a = c.self.inside.ticket in
    let b = c.select.new.ticket in
    let e = c.select.ensures in
    subst (λ (v : Shown). Begin v.2.entries b.2.entries) c.self.view_is (select_visited q told a b e.answers e.refused).entries

pub returns-clause-receipt : goal.returns-clause-receipt
returns-clause-receipt g c =
    let q = c.args.query.now in
    let told = c.select.result in
    let a = c.self.inside.ticket in
    let b = c.select.new.ticket in
    let e = c.select.ensures in
    (select_visited q told a b e.answers e.refused).given ∙ ap (λ (v : Shown). v.2.given) c.self.view_is

pub returns-clause-missed : goal.returns-clause-missed
returns-clause-missed g c =
    let q = c.args.query.now in
    let told = c.select.result in
    let a = c.self.inside.ticket in
    let b = c.select.new.ticket in
    let e = c.select.ensures in
    (select_visited q told a b e.answers e.refused).missed ∙ ap (λ (v : Shown). v.2.missed) c.self.view_is

pub returns-clause-refused : goal.returns-clause-refused
returns-clause-refused g c =
    let q = c.args.query.now in
    let told = c.select.result in
    let a = c.self.inside.ticket in
    let b = c.select.new.ticket in
    let e = c.select.ensures in
    select_refused q told a b e.refused

pub returns-clause-full : goal.returns-clause-full
returns-clause-full g c =
    let q = c.args.query.now in
    let told = c.select.result in
    let a = c.self.inside.ticket in
    let b = c.select.new.ticket in
    let e = c.select.ensures in
    select_full q told a b e.refused
