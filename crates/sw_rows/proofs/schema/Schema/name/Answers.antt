use Rattle.std.proofs.Common.{◌∙◌, ap, sym, slice_get}
use Rattle.sw_rows.specs.Header.{names_of}
use Rattle.sw_rows.proofs.Schemas.DomainLaws.{holding_names}
use Rattle.sw_rows.proofs.schema.Schema.name.Goals as goal

pub returns : goal.returns
returns c = ap (λ ds. slice_get (names_of ds) c.args.attr) (sym c.self.view_is) ∙ ap (λ ns. slice_get ns c.args.attr) (holding_names c.self.inside.texts c.self.inside.columns) ∙ c.name.ensures
