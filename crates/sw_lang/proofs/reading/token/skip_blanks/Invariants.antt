use Rattle.std.proofs.Common.{◌≡◌, ◌≤◌, length}
use Rattle.sw_lang.specs.Tokens.{tokens, after_blanks}
use Rattle.sw_lang.proofs.reading.token.skip_blanks.Given as goal

abbrev pub invariant-loop-rest : goal.invariant-loop-rest
invariant-loop-rest l = record {
  text : after_blanks l.rest ≡ after_blanks l.text;
  same : tokens l.rest ≡ tokens l.text;
  shorter : length l.rest ≤ length l.text;
}

abbrev pub decreases-loop-rest : goal.decreases-loop-rest
decreases-loop-rest l = length l.rest
