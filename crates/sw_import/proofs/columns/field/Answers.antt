use Rattle.std.proofs.Common.{sym}
use Rattle.csv.proofs.RecordFacts.{field-get}
use Rattle.sw_import.proofs.RecordLemmas.{nothing_there}
use Rattle.csv.specs.Records.{fields_of}
use Rattle.sw_import.proofs.columns.field.Goals as goal

pub returns-in-Some : goal.returns-in-Some
returns-in-Some c = sym (field-get (fields_of c.args.row.now) c.args.place c.in-Some.field.now (sym c.in-Some.ensures.value))

pub returns-in-None : goal.returns-in-None
returns-in-None c = sym (nothing_there (fields_of c.args.row.now) c.args.place (sym c.in-None.ensures.value))
