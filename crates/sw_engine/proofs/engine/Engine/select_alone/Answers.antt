use Rattle.std.proofs.Common.{◌<◌, inl, inr, length, arith, subst}
use Rattle.sw_query.specs.declared.query.Call.TheVariants.{Select}
use Rattle.sw_query.specs.declared.query.Query.{Query}
use Rattle.sw_query.specs.declared.reply.Reply.{Reply}
use Rattle.sw_engine.specs.Published.{Shown}
use Rattle.sw_engine.specs.Sessions.{Answers, Voids}
use Rattle.sw_engine.proofs.Called.{begun_answers, begun_voids, stays_self}
use Rattle.sw_engine.proofs.engine.Engine.select_alone.Goals as goal

pub index-requires : goal.index-requires
index-requires g c =
    let less : c.head_of.result < length g.J.Naming.columns = c.head_of.ensures.below (length g.J.Naming.columns) c.self.invariant.1 c.requires.0 in
    omega (arith, less, c.self.invariant.0)

pub returns-in_default-clause-refused : goal.returns-in_default-clause-refused
returns-in_default-clause-refused g c = (inl (stays_self c.args.ticket.now), (tt, tt))

pub returns-then-is_err-clause-refused : goal.returns-then-is_err-clause-refused
returns-then-is_err-clause-refused g c = (inl (stays_self c.args.ticket.now), (tt, tt))

pub returns-in_default-reach-clause-refused : goal.returns-in_default-reach-clause-refused
returns-in_default-reach-clause-refused g c = (inl (stays_self c.args.ticket.now), (tt, tt))

pub returns-in_default-answer-clause-refused : goal.returns-in_default-answer-clause-refused
returns-in_default-answer-clause-refused g c = (
  inr (subst (λ (v : Shown). Voids c.args.query.now v c.void.new.session.shown) c.ticket.view_is
      (subst (λ (q : Query). Voids q c.ticket.inside.state.shown c.void.new.session.shown) c.in-Ok.ensures
      (begun_voids c.in-Ok.asked c.begin.new.head.taken c.ticket.inside.state c.begin.new.session c.void.new.session c.in_ok-begin.ensures.begins c.void.ensures.settles))),
  (tt, tt),
)

pub returns-clause-answers : goal.returns-clause-answers
returns-clause-answers g c =
    subst (λ (v : Shown). Answers (Select c.args.query.now) c.in-Ok-answer.reply v c.finish.new.session.shown) c.ticket.view_is
    (subst (λ (q : Query). Answers (Select q) c.in-Ok-answer.reply c.ticket.inside.state.shown c.finish.new.session.shown) c.in-Ok.ensures
    (subst (λ (r : Reply). Answers (Select c.in-Ok.asked) r c.ticket.inside.state.shown c.finish.new.session.shown) c.in-Ok-answer.ensures.answered.1
    (begun_answers c.in-Ok.asked c.begin.new.head.taken c.in-Ok-answer.kept c.ticket.inside.state c.begin.new.session c.finish.new.session c.in_ok-begin.ensures.begins c.finish.ensures.settles)))
