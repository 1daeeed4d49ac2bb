use Rattle.std.proofs.Common.{Some}
use Rattle.sw_lang.specs.PrintedCalls.{call_text}
use Rattle.sw_lang.specs.ReadBack.{PrintedCallsAreLines}
use Rattle.sw_lang.specs.Tokens.{tokens}
use Rattle.sw_lang.proofs.Parsing.Lines.{line_read}
use Rattle.sw_lang.proofs.Printed.Length.{call_short}
use Rattle.sw_lang.proofs.Printed.ReadBack.{call_back, no_comment}
use Rattle.sw_lang.proofs.laws.printed_calls_are_read.Goals as goal

lines : PrintedCallsAreLines
lines schema text call ok (short, not_comment, is) =
    (call_short schema (tokens text) call ok is, no_comment schema call, call_back schema (tokens text) call ok is)

pub returns-clause-lines : goal.returns-clause-lines
returns-clause-lines c = lines

pub returns-clause-read : goal.returns-clause-read
returns-clause-read c = λ schema text call ok is. line_read schema (call_text schema call) (Some call) ok (lines schema text call ok is)
