use Rattle.std.proofs.Common.{◌∙◌, ap, sym, Ok}
use Rattle.sw_rows.proofs.schema.Schema.of.Goals as goal

pub returns-in-Ok : goal.returns-in-Ok
returns-in-Ok c = c.in-Ok.ensures.gives ∙ ap Ok (sym (c.into_schema.ensures.fresh c.no_texts-texts.ensures))
