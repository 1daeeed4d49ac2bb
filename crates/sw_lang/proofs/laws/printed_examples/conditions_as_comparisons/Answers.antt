use Rattle.std.proofs.Common.{refl}
use Rattle.std.specs.Fmt.{digits}
use Rattle.sw_lang.proofs.laws.printed_examples.conditions_as_comparisons.Goals as goal

pub returns : goal.returns
unfolding digits
returns c = record {
  equal = refl;
  open_ends = refl;
  two = refl;
  without_bounds = refl;
  kinds = refl;
}
