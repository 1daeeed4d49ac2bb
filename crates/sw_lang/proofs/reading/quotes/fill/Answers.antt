use Rattle.std.proofs.Common.{◌≡◌, ◌∙◌, sym, ◌<◌, length, take, arith}
use Rattle.std.proofs.lemmas.List.{length-take-le}
use Rattle.sw_lang.specs.Tokens.{undoubled}
use Rattle.sw_rows.specs.declared.schema.texts.TheConstants.{MOST_BYTES_OF_TEXT}
use Rattle.sw_lang.proofs.Parsing.Quotes.{too_long}
use Rattle.sw_lang.proofs.reading.quotes.fill.Goals as goal

pub returns-then-len-eq-MOST_BYTES_OF_TEXT-clause-text : goal.returns-then-len-eq-MOST_BYTES_OF_TEXT-clause-text
returns-then-len-eq-MOST_BYTES_OF_TEXT-clause-text c =
    let l = c.loop-rest in
    let long : length (take l.len l.buffer) < length (undoubled c.args.raw.now) =
    too_long l.held (take l.len l.buffer) l.rest.now (undoubled c.args.raw.now) c.in-len1-up.len_at_least (sym c.is_second.ensures ∙ c.if-is_second.false) l.invariant.text in
    let all : length (take l.len l.buffer) ≡ MOST_BYTES_OF_TEXT =
    length-take-le l.len l.buffer (omega (arith, l.invariant.within, l.invariant.room)) ∙ c.if-len-eq-MOST_BYTES_OF_TEXT.true in
    omega (arith, long, all)
