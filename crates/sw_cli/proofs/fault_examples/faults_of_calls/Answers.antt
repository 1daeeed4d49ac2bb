use Rattle.std.proofs.Common.{refl}
use Rattle.std.specs.Fmt.{digits}
use Rattle.sw_cli.proofs.fault_examples.faults_of_calls.Goals as goal

pub returns : goal.returns
unfolding digits
returns c = record {
  memory = refl;
  blank = refl;
  short = refl;
  contended = refl;
  shares = refl;
  full = refl;
  illegal = refl;
  input = refl;
  output = refl;
  ahead = refl;
}
