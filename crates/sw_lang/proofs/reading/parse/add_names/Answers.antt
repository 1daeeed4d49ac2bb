use Rattle.std.proofs.Common.{◌≡◌, ◌∙◌, length, sym, true, false, arith}
use Rattle.std.specs.Prelude.{nat_lt}
use Rattle.std.proofs.lemmas.Bool.{le-ltb, lt-ltb}
use Rattle.std.proofs.lemmas.Result.{err_from_is_err_and}
use Rattle.sw_lang.specs.Tokens.{tok, tokens}
use Rattle.sw_lang.specs.Reading.{names_at, is_comma}
use Rattle.sw_lang.proofs.Parsing.Steps.{name_ends, name_goes}
use Rattle.sw_lang.proofs.reading.parse.add_names.Goals as goal

pub returns-in_err-name : goal.returns-in_err-name
returns-in_err-name c =
    let p = err_from_is_err_and c.from_residual.result c.from_residual.ensures.1 in
    rw (p.1, p.2) (name_ends c.in_err-name.field-0.0 c.args.schema.now c.loop-name.names (tokens c.loop-name.rest.now) (names_at c.args.schema.now c.args.names.now (tokens c.args.text.now)) c.in_err-name.ensures.gives c.loop-name.invariant)

pub returns-in_default : goal.returns-in_default
returns-in_default c =
    let goes = name_goes c.args.schema.now c.loop-name.names (tokens c.loop-name.rest.now) (names_at c.args.schema.now c.args.names.now (tokens c.args.text.now)) c.in_ok-name.name (tokens c.in_ok-name.after.now) c.in_ok-name.ensures.gives c.loop-name.invariant in
    rw (c.in_ok-push.ensures.ok, c.in_default.ensures.tokens) (sym (rw c.in_default.ensures.tokens at goes))

pub returns-then-not-is_comma : goal.returns-then-not-is_comma
returns-then-not-is_comma c =
    let goes = name_goes c.args.schema.now c.loop-name.names (tokens c.loop-name.rest.now) (names_at c.args.schema.now c.args.names.now (tokens c.args.text.now)) c.in_ok-name.name (tokens c.in_ok-name.after.now) c.in_ok-name.ensures.gives c.loop-name.invariant in
    let no : is_comma (tok c.in-Some.token) ≡ false = sym c.is_comma.ensures ∙ c.if-not-is_comma.true in
    rw (c.in_ok-push.ensures.ok, c.in-Some.ensures.tokens) (sym (rw (c.in-Some.ensures.tokens, no) at goes))

pub returns-then-not-has_room : goal.returns-then-not-has_room
returns-then-not-has_room c =
    let goes = name_goes c.args.schema.now c.loop-name.names (tokens c.loop-name.rest.now) (names_at c.args.schema.now c.args.names.now (tokens c.args.text.now)) c.in_ok-name.name (tokens c.in_ok-name.after.now) c.in_ok-name.ensures.gives c.loop-name.invariant in
    let yes : is_comma (tok c.in-Some.token) ≡ true = sym c.is_comma.ensures ∙ c.if-not-is_comma.false in
    let full : nat_lt (length c.loop-name.names) 7 ≡ false = le-ltb _ _ (omega arith) in
    rw c.bad.ensures (sym (rw (c.in-Some.ensures.tokens, yes, full) at goes))

pub loop-name-preserved : goal.loop-name-preserved
loop-name-preserved c =
    let goes = name_goes c.args.schema.now c.loop-name.names (tokens c.loop-name.rest.now) (names_at c.args.schema.now c.args.names.now (tokens c.args.text.now)) c.in_ok-name.name (tokens c.in_ok-name.after.now) c.in_ok-name.ensures.gives c.loop-name.invariant in
    let yes : is_comma (tok c.in-Some.token) ≡ true = sym c.is_comma.ensures ∙ c.if-not-is_comma.false in
    let room : nat_lt (length c.loop-name.names) 7 ≡ true = lt-ltb _ _ (omega arith) in
    rw c.in_ok-push.ensures.ok (rw (c.in-Some.ensures.tokens, yes, room) at goes)
