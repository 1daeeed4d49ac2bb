use Rattle.std.proofs.Common.{◌≡◌, ◌∙◌, ap, sym, take}
use Rattle.sw_rows.specs.Header.{holding, texts_of}
use Rattle.sw_rows.proofs.Schemas.DomainLaws.{holding_again, none_known, schema_again, take_none}
use Rattle.sw_rows.proofs.Schemas.TextLemmas.{texts_fewer}
use Rattle.sw_rows.proofs.schema.Schema.forget_texts.Goals as goal

pub invariant_of-self : goal.invariant_of-self
invariant_of-self c =
    let cs = c.self.inside.columns in
    let ts = c.self.inside.texts in
    let fewer : c.truncate.new.self ≡ take c.args.count ts = c.truncate.ensures in
    rw fewer (schema_again ts (take c.args.count ts) cs c.self.invariant.0 c.self.invariant.1 (texts_fewer c.args.count ts c.len-count.ensures.texts) (λ h. take_none c.args.count ts (none_known ts cs c.self.invariant.1 h)))

pub returns : goal.returns
returns c =
    let cs = c.self.inside.columns in
    let ts = c.self.inside.texts in
    let own : ts ≡ texts_of c.args.self.now = sym c.self.invariant.1 ∙ ap texts_of c.self.view_is in
    ap (λ us. holding us cs) (c.truncate.ensures ∙ ap (take c.args.count) own) ∙ sym (holding_again ts (take c.args.count (texts_of c.args.self.now)) cs) ∙ ap (holding (take c.args.count (texts_of c.args.self.now))) c.self.view_is
