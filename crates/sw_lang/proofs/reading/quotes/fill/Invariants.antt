use Rattle.std.proofs.Common.{◌≡◌, ◌≤◌, ◌++◌, length, take}
use Rattle.sw_rows.specs.declared.schema.texts.TheConstants.{MOST_BYTES_OF_TEXT}
use Rattle.sw_lang.specs.Tokens.{undoubled, undoubled_after}
use Rattle.sw_lang.proofs.reading.quotes.fill.Given as goal

abbrev pub invariant-loop-rest : goal.invariant-loop-rest
invariant-loop-rest l = record {
  text : take l.len l.buffer ++ undoubled_after l.held l.rest ≡ undoubled l.raw;
  room : length l.buffer ≡ MOST_BYTES_OF_TEXT;
  within : l.len ≤ MOST_BYTES_OF_TEXT;
}

abbrev pub decreases-loop-rest : goal.decreases-loop-rest
decreases-loop-rest l = length l.rest
