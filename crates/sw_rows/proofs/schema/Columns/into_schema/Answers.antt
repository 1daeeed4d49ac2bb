use Rattle.std.proofs.Common.{◌∙◌, ap, sym, []}
use Rattle.sw_rows.specs.Header.{holding}
use Rattle.sw_rows.proofs.Schemas.DomainLaws.{fresh_entries, schema_holding}
use Rattle.sw_rows.proofs.schema.Columns.into_schema.Goals as goal

pub invariant_of-result : goal.invariant_of-result
invariant_of-result c = schema_holding c.args.texts c.args.self c.requires.some (rw c.self.view_is at c.self.invariant) c.len-count.ensures.texts c.requires.none

pub returns-clause-fresh : goal.returns-clause-fresh
returns-clause-fresh c = λ none. ap (λ ts. holding ts c.args.self) none ∙ ap (holding []) (sym c.self.view_is) ∙ fresh_entries c.self.inside.kinds.entries ∙ c.self.view_is
