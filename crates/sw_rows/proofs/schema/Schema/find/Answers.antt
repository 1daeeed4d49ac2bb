use Rattle.std.proofs.Common.{◌∙◌, ap, sym, position, bytes_eq}
use Rattle.sw_rows.specs.Header.{Column}
use Rattle.sw_rows.proofs.Schemas.DomainLaws.{holding_place}
use Rattle.sw_rows.proofs.schema.Schema.find.Goals as goal

pub returns : goal.returns
returns c = c.find.ensures ∙ sym (holding_place c.self.inside.texts c.self.inside.columns c.args.name.now) ∙ ap (position (λ (d : Column). bytes_eq c.args.name.now d.0)) c.self.view_is
