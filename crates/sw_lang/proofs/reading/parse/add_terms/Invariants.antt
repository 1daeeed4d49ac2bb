use Rattle.std.proofs.Common.{◌≡◌, length}
use Rattle.sw_lang.specs.Tokens.{tokens}
use Rattle.sw_lang.specs.Reading.{terms_at}
use Rattle.sw_lang.proofs.reading.parse.add_terms.Given as goal

abbrev pub invariant-loop-term : goal.invariant-loop-term
invariant-loop-term l = terms_at l.schema l.conds (tokens l.rest) ≡ terms_at l.schema l.fn.conds (tokens l.text)

abbrev pub decreases-loop-term : goal.decreases-loop-term
decreases-loop-term l = length l.rest
