use Rattle.std.proofs.Common.{refl}
use Rattle.std.specs.Fmt.{digits}
use Rattle.sw_cli.proofs.fault_examples.faults_of_texts.Goals as goal

pub returns : goal.returns
unfolding digits
returns c = record {
  table = refl;
  line = refl;
  name = refl;
  limit = refl;
}
