use Rattle.std.proofs.Common.{◌≡◌, length, take, arith, ap, sym, nat_eq}
use Rattle.std.proofs.lemmas.Result.{err_from_is_err_and}
use Rattle.std.proofs.lemmas.Grind.{common_steps}
use Rattle.sw_lang.specs.Tokens.{tokens}
use Rattle.sw_lang.proofs.Parsing.Singles.{value_ends, rest_ends, row_read}
use Rattle.sw_lang.proofs.reading.parse.cells_at.Goals as goal

pub returns-in_err-value : goal.returns-in_err-value
returns-in_err-value c =
    let i = c.loop-attr.attr in
    let p = err_from_is_err_and c.from_residual.result c.from_residual.ensures.1 in
    let len : length (take i c.loop-attr.cells) ≡ i = grind (arith, common_steps) in
    rw (p.1, p.2) (value_ends c.in_err-value.field-0.0 c.args.schema.now (take i c.loop-attr.cells) i _ (tokens c.args.text.now) (tokens c.loop-attr.rest.now) (omega arith) c.attr_values.ensures.domain c.loop-attr.invariant.read
    (c.in_err-value.ensures (take i c.loop-attr.cells) (ap (λ n. nat_eq n 0) (sym len))))

pub returns-in_err-nothing_left : goal.returns-in_err-nothing_left
returns-in_err-nothing_left c =
    let i = c.loop-attr.attr in
    let p = err_from_is_err_and c.from_residual-in_err-nothing_left.result c.from_residual-in_err-nothing_left.ensures.1 in
    rw (p.1, p.2) (rest_ends c.in_err-nothing_left.field-0.0 c.args.schema.now (take i c.loop-attr.cells) i (tokens c.args.text.now) (tokens c.loop-attr.rest.now) (omega arith) c.loop-attr.invariant.read c.in_err-nothing_left.ensures)

pub returns : goal.returns
returns c =
    let i = c.loop-attr.attr in
    row_read c.args.schema.now c.loop-attr.cells i (tokens c.args.text.now) (tokens c.loop-attr.rest.now) (omega arith) c.loop-attr.invariant.eight (omega arith) c.loop-attr.invariant.rest c.loop-attr.invariant.read c.in_ok-nothing_left.ensures
