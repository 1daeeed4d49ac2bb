use Rattle.std.proofs.Common.{List, ap, sym, subst, ◌∙◌}
use Rattle.sw_spine.specs.Books.{Books}
use Rattle.sw_spine.specs.declared.history.Entry.{Entry}
use Rattle.sw_engine.specs.Published.{Shown}
use Rattle.sw_engine.specs.Sessions.{Refuses, Standing, Stays}
use Rattle.sw_engine.proofs.Shelves.{shelf_begun}
use Rattle.sw_engine.proofs.history.locked.LockedDesk.begin.Goals as goal

pub invariant_of-self : goal.invariant_of-self
invariant_of-self g c =
    let j = g.J.Naming in
    (shelf_begun c.begin.result j.limit j.opening c.args.session.now.shown.0 c.args.query c.self.inside.desk.books c.begin.new.self.books c.self.inside.shelf c.self.invariant.0 c.begin.ensures.entries c.begin.ensures.kept c.begin.ensures.updates c.begin.ensures.published, c.self.invariant.1)

pub returns-in-Err-clause-refused : goal.returns-in-Err-clause-refused
returns-in-Err-clause-refused g c = (
  subst (λ (v : Standing). Stays v.shown c.look.new.session.shown) c.in-Err.ensures.stays c.look.ensures.stays,
  subst (λ (es : List Entry). Refuses es c.in-Err.refusal) (sym (ap (λ (v : Shown). v.2.entries) c.look.ensures.sees ∙ ap (λ (b : Books). b.entries) c.look.ensures.same)) c.in-Err.ensures.refused,
)
