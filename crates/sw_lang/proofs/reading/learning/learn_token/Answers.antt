use Rattle.std.proofs.Common.{◌∙◌, ap, sym}
use Rattle.sw_lang.specs.Learning.{knowing}
use Rattle.sw_lang.proofs.Known.Knowing.{nothing_more}
use Rattle.sw_lang.proofs.reading.learning.learn_token.Goals as goal

pub returns-in_default-clause-learned : goal.returns-in_default-clause-learned
returns-in_default-clause-learned c =
    let s = c.args.schema.now in
    sym (ap (λ more. knowing more s) c.in_default.ensures ∙ nothing_more s c.len-count.ensures.schema)
