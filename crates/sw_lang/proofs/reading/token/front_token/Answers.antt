use Rattle.std.proofs.Common.{◌≡◌, true, ◌∙◌, sym}
use Rattle.std.specs.Prelude.{slice_index}
use Rattle.sw_lang.specs.Tokens.{is_word_byte}
use Rattle.sw_lang.proofs.Parsing.Words.{tokens-word}
use Rattle.sw_lang.proofs.reading.token.front_token.Goals as goal

pub returns-then-is_word_byte-clause-tokens : goal.returns-then-is_word_byte-clause-tokens
returns-then-is_word_byte-clause-tokens c =
    let starts : is_word_byte (slice_index c.args.text.now 0) ≡ true = rw c.in-Some.ensures.cases.0 (sym c.is_word_byte.ensures ∙ c.if-is_word_byte.true) in
    rw (c.split_at.ensures.front, c.split_at.ensures.back, c.word_len.ensures) (tokens-word c.args.text.now starts)
