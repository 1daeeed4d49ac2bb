use Rattle.std.proofs.Common.{length}
use Rattle.sw_lang.specs.Learning.{quoted_texts}
use Rattle.sw_lang.specs.Tokens.{tokens}
use Rattle.sw_lang.proofs.Known.Knowing.{Learning}
use Rattle.sw_lang.proofs.reading.learning.learn_tokens.Given as goal

abbrev pub invariant-loop-token : goal.invariant-loop-token
invariant-loop-token l = Learning l.fn.schema l.schema (quoted_texts (tokens l.text)) (quoted_texts (tokens l.rest))

abbrev pub decreases-loop-token : goal.decreases-loop-token
decreases-loop-token l = length l.rest
