use Rattle.std.proofs.Common.{◌≡◌, ◌≤◌, ◌∙◌, ap, sym, length, true, arith}
use Rattle.std.proofs.lemmas.Bool.{le-leb}
use Rattle.sw_rows.specs.Header.{holding, texts_of}
use Rattle.sw_rows.specs.Texts.{are_full}
use Rattle.sw_rows.specs.declared.schema.texts.TheConstants.{MOST_TEXTS}
use Rattle.sw_rows.proofs.Schemas.DomainLaws.{schema_held}
use Rattle.sw_rows.proofs.Schemas.TextLaws.{none_at_full}
use Rattle.sw_rows.proofs.schema.Schema.learn_text.Goals as goal

pub returns-then-texts_known-ge-MOST_TEXTS-clause-learned : goal.returns-then-texts_known-ge-MOST_TEXTS-clause-learned
returns-then-texts_known-ge-MOST_TEXTS-clause-learned c =
    let s = c.args.self.now in
    let ts = texts_of s in
    let many : MOST_TEXTS ≤ length ts = omega (arith, c.if-texts_known-ge-MOST_TEXTS.true, c.texts_known.ensures) in
    let full : are_full ts ≡ true = le-leb MOST_TEXTS (length ts) many in
    sym (ap (λ us. holding us s) (none_at_full ts c.args.text.now full) ∙ schema_held s c.len-count.ensures.schema)
