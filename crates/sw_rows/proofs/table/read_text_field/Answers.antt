use Rattle.std.proofs.Common.{◌∙◌, [], ap, sym, pos, rules, Ok, FitsSigned, w64}
use Rattle.std.proofs.lemmas.Int.{to_z-of_z}
use Rattle.sw_rows.specs.Texts.{is_text}
use Rattle.sw_rows.specs.Tables.{cell_at, over_seen}
use Rattle.sw_rows.specs.Domains as kind
use Rattle.sw_rows.proofs.Tables.TableLemmas.{field_known, text_fails, text_given, text_is}
use Rattle.sw_rows.proofs.Schemas.TextLaws.{given_known}
use Rattle.sw_rows.proofs.table.read_text_field.Goals as goal

pub returns-in-Ok-clause-gives : goal.returns-in-Ok-clause-gives
returns-in-Ok-clause-gives c = λ more.
    let t = c.in-Some-read_text.text.now in
    let same = text_is (is_text c.args.field.now) t c.args.field.now c.in-Some-read_text.ensures.value in
    let fits : FitsSigned w64 c.cell_of-in-Ok.result = search rules in
    ap (λ f. cell_at c.args.at.rec c.args.at.field (over_seen c.args.texts.now (kind.Text []) f more) f) (sym same)
    ∙ text_given c.args.texts.now t more c.in-Ok.code c.args.at.rec c.args.at.field c.in-Some-read_text.ensures.text c.in-Ok.ensures.code
    ∙ ap (λ z. Ok z) (sym c.cell_of-in-Ok.ensures ∙ sym (to_z-of_z w64 c.cell_of-in-Ok.result fits))

pub returns-in-Err-clause-gives : goal.returns-in-Err-clause-gives
returns-in-Err-clause-gives c = λ more.
    let t = c.in-Some-read_text.text.now in
    let same = text_is (is_text c.args.field.now) t c.args.field.now c.in-Some-read_text.ensures.value in
    rw (← same) (text_fails c.args.texts.now t more c.in-Err.e c.args.at.rec c.args.at.field c.in-Some-read_text.ensures.text c.in-Err.ensures.code)

pub returns-then-seen-ne0-clause-gives : goal.returns-then-seen-ne0-clause-gives
returns-then-seen-ne0-clause-gives c = λ more.
    let ts = c.args.texts.now in
    let t = c.args.field.now in
    let has = c.requires c.if-seen-ne0.true in
    let fits : FitsSigned w64 c.cell_of.result = search rules in
    text_given ts t more c.args.seen c.args.at.rec c.args.at.field has.sound (given_known ts c.args.seen t has.coded)
    ∙ ap (λ z. Ok z) (sym (c.cell_of.ensures ∙ ap pos c.from.ensures) ∙ sym (to_z-of_z w64 c.cell_of.result fits))

pub returns-then-seen-ne0-clause-learned : goal.returns-then-seen-ne0-clause-learned
returns-then-seen-ne0-clause-learned c = let has = c.requires c.if-seen-ne0.true in sym (field_known c.args.texts.now c.args.field.now c.args.seen has.sound has.coded)

pub returns-in-Some-clause-gives : goal.returns-in-Some-clause-gives
returns-in-Some-clause-gives c = λ more.
    let ts = c.args.texts.now in
    let t = c.args.field.now in
    let fits : FitsSigned w64 c.cell_of-in-Some.result = search rules in
    text_given ts t more c.in-Some.code c.args.at.rec c.args.at.field c.in-Some.ensures.text (given_known ts c.in-Some.code t c.in-Some.ensures.code)
    ∙ ap (λ z. Ok z) (sym c.cell_of-in-Some.ensures ∙ sym (to_z-of_z w64 c.cell_of-in-Some.result fits))

pub returns-in-Some-clause-learned : goal.returns-in-Some-clause-learned
returns-in-Some-clause-learned c = sym (field_known c.args.texts.now c.args.field.now c.in-Some.code c.in-Some.ensures.text c.in-Some.ensures.code)
