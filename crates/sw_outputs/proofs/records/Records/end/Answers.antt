use Rattle.std.proofs.Common.{◌∙◌}
use Rattle.csv.specs.Records.{fields_of}
use Rattle.csv.specs.Writing.{writer_setup}
use Rattle.sw_outputs.proofs.Making.{not_numeric, written_row}
use Rattle.sw_outputs.proofs.records.Records.end.Goals as goal

pub returns : goal.returns
returns c = λ bytes fields m. record {
  setup = c.in-Ok.ensures.setup ∙ m.setup;
  none = c.in-Ok.ensures.ended;
  fresh = c.in-Ok.ensures.clean;
  bytes_are = written_row c.args.self.now.writer c.write_byte_record.new.self bytes fields (fields_of c.args.self.now.record) m.setup m.bytes_are m.fields_are (c.in-Ok.ensures.bytes m.none m.fresh (not_numeric (writer_setup c.args.self.now.writer) m.setup));
  fields_are = c.clear.ensures.fields;
  no_part = c.clear.ensures.partial;
}
