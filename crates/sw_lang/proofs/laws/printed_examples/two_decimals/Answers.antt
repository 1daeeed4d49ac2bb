use Rattle.std.proofs.Common.{refl}
use Rattle.std.specs.Fmt.{digits}
use Rattle.sw_lang.proofs.laws.printed_examples.two_decimals.Goals as goal

pub returns : goal.returns
unfolding digits
returns c = record {
  one_zero = refl;
  two_zeros = refl;
  below_zero = refl;
  one_digit = refl;
  none = refl;
  least = refl;
}
