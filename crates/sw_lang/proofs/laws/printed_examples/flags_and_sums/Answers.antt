use Rattle.std.proofs.Common.{refl}
use Rattle.std.specs.Fmt.{digits}
use Rattle.sw_lang.proofs.laws.printed_examples.flags_and_sums.Goals as goal

pub returns : goal.returns
unfolding digits
returns c = record {
  yes = refl;
  no = refl;
  flags = refl;
  prices = refl;
  past_64_bits = refl;
  least_price = refl;
  no_rows = refl;
}
