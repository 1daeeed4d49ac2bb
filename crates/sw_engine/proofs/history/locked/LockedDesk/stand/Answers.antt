use Rattle.std.proofs.Common.{List, ap, sym, subst, ◌∙◌}
use Rattle.sw_spine.specs.Books.{Books}
use Rattle.sw_spine.specs.declared.history.Entry.{Entry}
use Rattle.sw_engine.specs.Published.{Shown}
use Rattle.sw_engine.specs.Sessions.{Refuses, Standing, Stays}
use Rattle.sw_engine.proofs.AtRest.{shelf_told}
use Rattle.sw_engine.proofs.history.locked.LockedDesk.stand.Goals as goal

pub invariant_of-self : goal.invariant_of-self
invariant_of-self g c =
    let j = g.J.Naming in
    (shelf_told c.answer.result j.limit j.opening c.ticket.inside.state.shown.0 c.args.query c.self.inside.desk.books c.answer.new.self.books c.self.inside.shelf c.self.invariant.0 c.answer.ensures.answered c.answer.ensures.kept c.answer.ensures.updates, c.self.invariant.1)

pub returns-in-Err-clause-refused : goal.returns-in-Err-clause-refused
returns-in-Err-clause-refused g c = (
  subst (λ (v : Shown). Stays v c.look.new.session.shown) (ap (λ (s : Standing). s.shown) c.in-Err.ensures.stays ∙ c.ticket.view_is) c.look.ensures.stays,
  subst (λ (es : List Entry). Refuses es c.in-Err.refusal) (sym (ap (λ (v : Shown). v.2.entries) c.look.ensures.sees ∙ ap (λ (b : Books). b.entries) c.look.ensures.same)) c.in-Err.ensures.refused,
)
