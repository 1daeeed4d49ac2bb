use Rattle.std.proofs.Common.{◌∙◌, sym}
use Rattle.sw_rows.proofs.Schemas.DomainLaws.{texts_here}
use Rattle.sw_rows.proofs.schema.Columns.has_texts.Goals as goal

pub returns-in-Text : goal.returns-in-Text
returns-in-Text c = sym (texts_here c.args.self.now c.loop-attr.attr c.kind.result c.kind.ensures.value c.in-Text.is) ∙ c.loop-attr.invariant
