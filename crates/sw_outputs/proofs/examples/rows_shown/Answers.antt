use Rattle.std.proofs.Common.{refl}
use Rattle.std.specs.Fmt.{digits}
use Rattle.csv.specs.Writing.{escaped, fields_text, is_blank}
use Rattle.json.specs.Print.{escape_byte}
use Rattle.sw_outputs.proofs.examples.rows_shown.Goals as goal

pub returns : goal.returns
unfolding digits escape_byte escaped fields_text is_blank
returns c = record { json = refl; csv = refl; table = refl; read = refl; none = refl }
