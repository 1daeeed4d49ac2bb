use Rattle.std.proofs.Common.{List, ap, sym, subst, ◌∙◌}
use Rattle.sw_spine.specs.Books.{Books, updates}
use Rattle.sw_spine.specs.declared.history.Entry.{Entry}
use Rattle.sw_engine.specs.Published.{Shown}
use Rattle.sw_engine.specs.Sessions.{Answers, Refuses, Standing, Stays}
use Rattle.sw_engine.proofs.Called.{answers_then}
use Rattle.sw_spine.specs.Table.{update_by}
use Rattle.sw_engine.proofs.Shelves.{shelf_answered}
use Rattle.sw_engine.proofs.history.locked.LockedDesk.commit.Goals as goal

pub invariant_of-self : goal.invariant_of-self
invariant_of-self g c =
    let j = g.J.Naming in
    let had = c.self.inside.desk.books in
    (shelf_answered j.limit j.opening c.ticket.inside.state.shown.0 c.args.call had c.commit.new.self.books c.self.inside.shelf (update_by j.limit (updates had) c.args.call) c.self.invariant.0 c.in-Ok.ensures.committed c.in-Ok.ensures.updates, c.self.invariant.1)

pub returns-in-Ok-clause-answers : goal.returns-in-Ok-clause-answers
returns-in-Ok-clause-answers g c =
    subst (λ (v : Shown). Answers c.args.call c.in-Ok.reply v c.publish-came.new.ticket) c.ticket.view_is
    (answers_then c.args.call c.in-Ok.reply c.ticket.inside.state.shown c.commit.new.session.shown c.publish-came.new.ticket c.in-Ok.ensures.answers c.publish-came.ensures.stays)

pub returns-in-Err-clause-refused : goal.returns-in-Err-clause-refused
returns-in-Err-clause-refused g c = (
  subst (λ (v : Shown). Stays v c.look.new.session.shown) (ap (λ (s : Standing). s.shown) c.in-Err.ensures.stays ∙ c.ticket.view_is) c.look.ensures.stays,
  subst (λ (es : List Entry). Refuses es c.in-Err.refusal) (sym (ap (λ (v : Shown). v.2.entries) c.look.ensures.sees ∙ ap (λ (b : Books). b.entries) c.look.ensures.same)) c.in-Err.ensures.refused,
)
