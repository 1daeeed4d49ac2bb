use Rattle.std.proofs.Common.{length, ◌-◌}
use Rattle.sw_lang.proofs.Parsing.Quotes.{Inside}
use Rattle.sw_lang.proofs.reading.quotes.raw_len.Given as goal

abbrev pub invariant-loop-at : goal.invariant-loop-at
invariant-loop-at l = Inside l.text l.at

abbrev pub decreases-loop-at : goal.decreases-loop-at
decreases-loop-at l = length l.text - l.at
