use Rattle.std.proofs.Common.{◌∙◌, ap}
use Rattle.sw_rows.specs.Header.{texts_of}
use Rattle.sw_rows.specs.Spelling.{kind_text}
use Rattle.sw_outputs.proofs.records.kind_of.Goals as goal

pub returns : goal.returns
returns c = c.kind_name.ensures (texts_of c.args.schema.now) c.kind_or_int.ensures.places ∙ ap kind_text c.kind_or_int.ensures.kind
