use Rattle.std.proofs.Common.{◌∙◌, ap, sym}
use Rattle.sw_rows.specs.Header.{has_texts}
use Rattle.sw_rows.proofs.Schemas.DomainLaws.{holding_of_texts}
use Rattle.sw_rows.proofs.schema.Schema.has_texts.Goals as goal

pub returns : goal.returns
returns c = c.has_texts.ensures ∙ sym (holding_of_texts c.self.inside.texts c.self.inside.columns) ∙ ap has_texts c.self.view_is
