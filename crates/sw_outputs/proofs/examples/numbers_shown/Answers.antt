use Rattle.std.proofs.Common.{refl}
use Rattle.std.specs.Fmt.{digits}
use Rattle.csv.specs.Writing.{escaped, fields_text, is_blank}
use Rattle.json.specs.Print.{escape_byte}
use Rattle.sw_outputs.proofs.examples.numbers_shown.Goals as goal

pub returns : goal.returns
unfolding digits escape_byte escaped fields_text is_blank
returns c = record {
  count = refl;
  sum = refl;
  least = refl;
  nothing = refl;
  key = refl;
  full = refl;
  removed = refl;
  absent = refl;
  many = refl;
  column = refl;
  empty = refl;
}
