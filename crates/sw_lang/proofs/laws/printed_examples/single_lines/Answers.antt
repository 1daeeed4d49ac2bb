use Rattle.std.proofs.Common.{refl}
use Rattle.std.specs.Fmt.{digits}
use Rattle.sw_lang.proofs.laws.printed_examples.single_lines.Goals as goal

pub returns : goal.returns
unfolding digits
returns c = record {
  count = refl;
  sum = refl;
  greatest = refl;
  least = refl;
  inserted = refl;
  full = refl;
  removed = refl;
  no_such_key = refl;
  many = refl;
}
