use Rattle.std.proofs.Common.{◌≡◌, length}
use Rattle.sw_lang.specs.Tokens.{tokens}
use Rattle.sw_lang.specs.Reading.{names_at}
use Rattle.sw_lang.proofs.reading.parse.add_names.Given as goal

abbrev pub invariant-loop-name : goal.invariant-loop-name
invariant-loop-name l = names_at l.schema l.names (tokens l.rest) ≡ names_at l.schema l.fn.names (tokens l.text)

abbrev pub decreases-loop-name : goal.decreases-loop-name
decreases-loop-name l = length l.rest
