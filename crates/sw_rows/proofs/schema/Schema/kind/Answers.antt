use Rattle.std.proofs.Common.{◌≡◌, ◌∙◌, ap, sym, Some, slice_get}
use Rattle.sw_rows.specs.Domains.{domain}
use Rattle.sw_rows.specs.Header.{kinds_of, texts_of}
use Rattle.sw_rows.proofs.Schemas.DomainLaws.{kind_held}
use Rattle.sw_rows.proofs.schema.Schema.kind.Goals as goal

pub returns-clause-value : goal.returns-clause-value
returns-clause-value c =
    let own : c.self.inside.texts ≡ texts_of c.args.self.now = sym c.self.invariant.1 ∙ ap texts_of c.self.view_is in
    ap (λ ds. slice_get (kinds_of ds) c.args.attr) (sym c.self.view_is) ∙ kind_held c.self.inside.texts c.self.inside.columns c.args.attr c.kind.result c.kind.ensures.value ∙ ap (λ ts. Some (domain ts c.kind.result)) own
