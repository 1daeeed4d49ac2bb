use Rattle.std.proofs.Common.{◌≡◌, ◌∙◌, sym, true, false}
use Rattle.std.specs.Prelude.{codes}
use Rattle.std.proofs.lemmas.Result.{err_from_is_err_and}
use Rattle.sw_lang.specs.Tokens.{tok, tokens}
use Rattle.sw_lang.specs.Reading.{terms_at, is_word}
use Rattle.sw_lang.proofs.Parsing.Steps.{term_ends, term_goes}
use Rattle.sw_lang.proofs.reading.parse.add_terms.Goals as goal

pub returns-in_err-term : goal.returns-in_err-term
returns-in_err-term c =
    let p = err_from_is_err_and c.from_residual.result c.from_residual.ensures.1 in
    rw (p.1, p.2) (term_ends c.in_err-term.field-0.0 c.args.schema.now c.loop-term.conds (tokens c.loop-term.rest.now) (terms_at c.args.schema.now c.args.conds.now (tokens c.args.text.now)) c.in_err-term.ensures.gives c.loop-term.invariant)

pub returns-in_default : goal.returns-in_default
returns-in_default c =
    let goes = term_goes c.args.schema.now c.loop-term.conds (tokens c.loop-term.rest.now) (terms_at c.args.schema.now c.args.conds.now (tokens c.args.text.now)) c.in_ok-term.term (tokens c.in_ok-term.after.now) c.in_ok-term.ensures.gives c.loop-term.invariant in
    rw c.in_ok-add_term.ensures.ok (sym (rw c.in_default.ensures.tokens at goes))

pub returns-then-not-is_word : goal.returns-then-not-is_word
returns-then-not-is_word c =
    let goes = term_goes c.args.schema.now c.loop-term.conds (tokens c.loop-term.rest.now) (terms_at c.args.schema.now c.args.conds.now (tokens c.args.text.now)) c.in_ok-term.term (tokens c.in_ok-term.after.now) c.in_ok-term.ensures.gives c.loop-term.invariant in
    let no : is_word (codes "and") (tok c.in-Some.token) ≡ false = sym c.is_word.ensures ∙ c.if-not-is_word.true in
    rw c.bad.ensures (sym (rw (c.in-Some.ensures.tokens, no) at goes))

pub loop-term-preserved : goal.loop-term-preserved
loop-term-preserved c =
    let goes = term_goes c.args.schema.now c.loop-term.conds (tokens c.loop-term.rest.now) (terms_at c.args.schema.now c.args.conds.now (tokens c.args.text.now)) c.in_ok-term.term (tokens c.in_ok-term.after.now) c.in_ok-term.ensures.gives c.loop-term.invariant in
    let yes : is_word (codes "and") (tok c.in-Some.token) ≡ true = sym c.is_word.ensures ∙ c.if-not-is_word.false in
    rw c.in_ok-add_term.ensures.ok (rw (c.in-Some.ensures.tokens, yes) at goes)
