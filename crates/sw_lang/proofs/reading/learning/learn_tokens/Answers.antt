use Rattle.std.proofs.Common.{◌∙◌, ap, subst, length, take, List}
use Rattle.sw_rows.specs.Header.{Column, holding, texts_of}
use Rattle.sw_lang.specs.Learning.{quoted_text, quoted_texts}
use Rattle.sw_lang.specs.Tokens.{Tok, tok, tokens}
use Rattle.sw_lang.proofs.Known.Knowing.{Learning, back, begin, some_now, step}
use Rattle.sw_lang.proofs.reading.learning.learn_tokens.Goals as goal

pub loop-token-init : goal.loop-token-init
loop-token-init c = begin c.args.schema.now (quoted_texts (tokens c.args.text.now)) c.len-count.ensures.schema

pub learn_token-requires : goal.learn_token-requires
learn_token-requires c = some_now c.args.schema.now c.loop-token.schema (quoted_texts (tokens c.args.text.now)) (quoted_texts (tokens c.loop-token.rest.now)) c.requires c.loop-token.invariant

pub returns-in-Err-clause-unchanged : goal.returns-in-Err-clause-unchanged
returns-in-Err-clause-unchanged c =
    let before = c.args.schema.now in
    let new = c.learn_token.new.schema in
    c.forget_texts.ensures
    ∙ ap (λ n. holding (take n (texts_of new)) new) c.texts_known-known.ensures
    ∙ ap (λ (s : List Column). holding (take (length (texts_of before)) (texts_of s)) s) c.in-Err.ensures.unchanged
    ∙ back before c.loop-token.schema (quoted_texts (tokens c.args.text.now)) (quoted_texts (tokens c.loop-token.rest.now)) c.len-count.ensures.schema c.requires c.loop-token.invariant

pub loop-token-preserved : goal.loop-token-preserved
loop-token-preserved c =
    let before = c.args.schema.now in
    let now = c.loop-token.schema in
    let all = quoted_texts (tokens c.args.text.now) in
    let left = subst (λ (ts : List Tok). Learning before now all (quoted_texts ts)) c.in-Some.ensures.tokens c.loop-token.invariant in
    step before now c.learn_token.new.schema all (quoted_text (tok c.in-Some.token)) (quoted_texts (tokens c.in-Some.after.now)) c.requires left c.in_default-learn_token.ensures.learned
