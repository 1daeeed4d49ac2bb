use Rattle.std.proofs.Common.{refl}
use Rattle.std.specs.Fmt.{digits}
use Rattle.sw_lang.proofs.laws.printed_examples.rows_as_lines.Goals as goal

pub returns : goal.returns
unfolding digits
returns c = record {
  one_cell = refl;
  two_cells = refl;
  one_row = refl;
  no_rows = refl;
}
