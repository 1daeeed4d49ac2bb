use Rattle.std.proofs.Common.{◌∙◌, List, ap, length, subst}
use Rattle.sw_rows.specs.Header.{Column, IsSchema, texts_of}
use Rattle.sideways_c.proofs.Executing.{forgets}
use Rattle.sideways_c.proofs.lines.refusal_of.Goals as goal

pub returns-in-Ok-clause-same : goal.returns-in-Ok-clause-same
returns-in-Ok-clause-same c =
    let many = c.texts_known-known.ensures ∙ ap (λ (cs : List Column). length (texts_of cs)) c.schema-2.ensures in
    forgets c.args.line.now c.args.solo.now c.read.new.solo c.forget_texts.new.self c.texts_known-known.result (subst IsSchema c.schema.ensures c.len-columns.ensures.schema) many c.in-Ok.ensures.learned c.forget_texts.ensures
