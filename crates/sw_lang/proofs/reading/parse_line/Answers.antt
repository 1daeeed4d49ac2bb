use Rattle.std.proofs.Common.{◌∙◌, ap, length, take, List}
use Rattle.sw_rows.specs.Header.{Column, holding, texts_of}
use Rattle.sw_lang.proofs.Known.Knowing.{line_forgotten}
use Rattle.sw_lang.proofs.reading.parse_line.Goals as goal

pub returns-in-Err-clause-unchanged : goal.returns-in-Err-clause-unchanged
returns-in-Err-clause-unchanged c =
    let before = c.args.schema.now in
    let new = c.learn_line.new.schema in
    c.forget_texts.ensures
    ∙ ap (λ n. holding (take n (texts_of new)) new) c.texts_known-known.ensures
    ∙ ap (λ (s : List Column). holding (take (length (texts_of before)) (texts_of s)) s) c.in_ok-learn_line.ensures.learned
    ∙ line_forgotten before c.args.text.now c.len-count.ensures.schema
