use Rattle.std.proofs.Common.{refl}
use Rattle.std.specs.Fmt.{digits}
use Rattle.sw_lang.proofs.laws.printed_examples.updates_as_words.Goals as goal

pub returns : goal.returns
unfolding digits
returns c = record {
  insert = refl;
  kinds = refl;
  delete = refl;
  conditions = refl;
}
