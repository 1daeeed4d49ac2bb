use Rattle.std.proofs.Common.{◌∙◌, ◌∷◌, [], ◌++◌, ap, append-nil, subst, sym}
use Rattle.csv.specs.Writing.{default_writer, row_text}
use Rattle.sw_outputs.specs.Records.{IsMade}
use Rattle.sw_outputs.proofs.records.full_column.Goals as goal

pub returns : goal.returns
returns c =
    let name = row_text default_writer (c.args.name.now ∷ []) in
    let number = row_text default_writer (c.args.number.now ∷ []) in
    let named = subst (λ t. IsMade c.add.new.self [] (t ∷ [])) c.as_bytes.ensures.value (c.in_ok-add.ensures [] [] c.new-records.ensures) in
    c.in_ok-text.ensures (name ++ number) [] (c.in_ok-end-2.ensures name (c.args.number.now ∷ []) (c.in_ok-add-2.ensures name [] (c.in_ok-end.ensures [] (c.args.name.now ∷ []) named)))
    ∙ ap (λ t. name ++ t) (sym (append-nil number))
