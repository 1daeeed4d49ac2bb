use Rattle.std.proofs.Common.{◌∙◌, ◌∷◌, [], append-nil, subst, sym}
use Rattle.csv.specs.Writing.{default_writer, row_text}
use Rattle.sw_outputs.specs.Records.{IsMade}
use Rattle.sw_outputs.proofs.records.empty_column.Goals as goal

pub returns : goal.returns
returns c =
    let name = row_text default_writer (c.args.name.now ∷ []) in
    let named = subst (λ t. IsMade c.add.new.self [] (t ∷ [])) c.as_bytes.ensures.value (c.in_ok-add.ensures [] [] c.new-records.ensures) in
    c.in_ok-text.ensures name [] (c.in_ok-end.ensures [] (c.args.name.now ∷ []) named) ∙ sym (append-nil name)
