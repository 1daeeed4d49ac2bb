use Rattle.std.proofs.Common.{rules, ◌≡◌, length, sym, ap, subst, refl, arith, ◌∙◌}
use Rattle.std.specs.List.{zip}
use Rattle.std.proofs.lemmas.List.{length-map}
use Rattle.sw_query.specs.declared.query.Call.TheVariants.{Select}
use Rattle.sw_spine.specs.History.{CallsBelow}
use Rattle.sw_engine.specs.Sessions.{AnswersAll}
use Rattle.sw_engine.proofs.Together.{all_asked, all_selects, answers_none, zip_told}
use Rattle.sw_engine.proofs.engine.Engine.select_together.Goals as goal

pub returns-in_default-clause-answers : goal.returns-in_default-clause-answers
returns-in_default-clause-answers g c = answers_none c.args.calls.now c.new-none.result.items c.args.ticket.now c.args.ticket.now (search rules) refl

pub returns-in_default-short_query-clause-answers : goal.returns-in_default-short_query-clause-answers
returns-in_default-short_query-clause-answers g c = answers_none c.args.calls.now c.new-none.result.items c.args.ticket.now c.args.ticket.now (search rules) refl

pub returns-in_default-share-clause-answers : goal.returns-in_default-share-clause-answers
returns-in_default-share-clause-answers g c = answers_none c.args.calls.now c.new-none.result.items c.args.ticket.now c.args.ticket.now (search rules) refl

pub returns-in_default-answer_all_at_rest-clause-answers : goal.returns-in_default-answer_all_at_rest-clause-answers
returns-in_default-answer_all_at_rest-clause-answers g c = answers_none c.args.calls.now c.new-none.result.items c.args.ticket.now c.args.ticket.now (search rules) refl

pub returns-then-is_empty-clause-answers : goal.returns-then-is_empty-clause-answers
returns-then-is_empty-clause-answers g c = answers_none c.args.calls.now c.new-none.result.items c.args.ticket.now c.args.ticket.now (search rules) refl

pub answer_all-stood-requires : goal.answer_all-stood-requires
answer_all-stood-requires g c =
    let told = c.in-Some-answer_all_at_rest.told.kept.items in
    record { asks = all_asked (CallsBelow (length g.J.Naming.columns)) (λ t. Select t.0) told c.args.calls.now (length told) c.in-Some-answer_all_at_rest.ensures.asked c.requires }

pub returns-in_default-stood-clause-answers : goal.returns-in_default-stood-clause-answers
returns-in_default-stood-clause-answers g c = answers_none c.args.calls.now c.new-none.result.items c.args.ticket.now c.answer_all-stood.new.ticket (search rules) c.in_default-stood.ensures.answers

pub returns-clause-selects : goal.returns-clause-selects
returns-clause-selects g c =
    let told = c.in-Some-answer_all_at_rest.told.kept.items in
    let replies = c.in-Some-stood.replies.items in
    let as_many : length replies ≡ length told = ap length c.in-Some-stood.ensures.answers.0 ∙ length-map told (λ t. t.1) in
    all_selects (λ t. t.0) told c.args.calls.now (length told) (length replies) c.in-Some-answer_all_at_rest.ensures.asked (omega (arith, as_many)) c.in-Some-answer_all_at_rest.ensures.few

pub returns-clause-answers : goal.returns-clause-answers
returns-clause-answers g c =
    let told = c.in-Some-answer_all_at_rest.told.kept.items in
    let calls = c.args.calls.now in
    let are = ap (zip calls) c.in-Some-stood.ensures.answers.0 ∙ zip_told told calls c.in-Some-answer_all_at_rest.ensures.asked c.in-Some-answer_all_at_rest.ensures.few in
    subst (λ made. AnswersAll made c.args.ticket.now c.answer_all-stood.new.ticket) (sym are) c.in-Some-stood.ensures.answers.1
