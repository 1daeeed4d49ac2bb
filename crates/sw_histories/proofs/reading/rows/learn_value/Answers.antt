use Rattle.std.proofs.Common.{◌∙◌, [], ap, sym}
use Rattle.std.specs.List.{cons_option}
use Rattle.sw_lang.specs.Learning.{knowing}
use Rattle.sw_lang.proofs.Known.Knowing.{nothing_more}
use Rattle.sw_histories.proofs.reading.rows.learn_value.Goals as goal

pub returns-in_default : goal.returns-in_default
returns-in_default c =
    let s = c.args.schema.now in
    sym (ap (λ o. knowing (cons_option o []) s) (sym c.in_default.ensures.value) ∙ nothing_more s c.len-count.ensures.schema)
