use Rattle.std.proofs.Common.{◌∙◌, ap, [], Some, ℕ}
use Rattle.std.specs.Global.{Vec}
use Rattle.std.specs.Io.KnownBytes.{append_known}
use Rattle.csv.specs.Writing.{writer_under}
use Rattle.sw_outputs.proofs.records.Records.new.Goals as goal

pub returns : goal.returns
returns c = record {
  setup = c.from_writer-writer.ensures.cfg;
  none = c.from_writer-writer.ensures.fields;
  fresh = c.from_writer-writer.ensures.wrote;
  bytes_are = ap (λ b. append_known (Some (writer_under c.from_writer-writer.result).items) b) c.from_writer-writer.ensures.empty
      ∙ ap (λ (v : Vec ℕ). append_known (Some v.items) []) c.from_writer-writer.ensures.wtr
      ∙ ap (λ l. append_known (Some l) []) c.new-bytes.ensures.items;
  fields_are = c.new-record.ensures.fields;
  no_part = c.new-record.ensures.partial;
}
