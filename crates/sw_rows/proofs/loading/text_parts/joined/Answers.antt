use Rattle.std.proofs.Common.{◌≡◌, ◌∙◌, ap, sym, refl, Ok, length, false, arith}
use Rattle.std.proofs.lemmas.Bool.Decides.{nat_tests}
use Rattle.sw_rows.specs.Header.{kinds_of}
use Rattle.sw_rows.specs.Parts.{rows_behind}
use Rattle.sw_rows.specs.Texts.{are_full}
use Rattle.sw_table.specs.Packed.{Packed}
use Rattle.sw_rows.proofs.Loads.TextPartLaws.{codes_are, part_coded, part_under, parts_joined}
use Rattle.sw_rows.proofs.loading.text_parts.joined.Goals as goal

pub append-requires-clause-more : goal.append-requires-clause-more
append-requires-clause-more c =
    let n = length c.args.columns.now in
    part_under n c.args.first.rows.width c.exchange_texts.new.rows c.requires.first.width
    (part_coded (kinds_of c.args.columns.now) c.deref.result.now n c.args.rest.rows c.exchange_texts.new.rows c.requires.rest c.exchange_texts.ensures)

pub returns-in-Ok : goal.returns-in-Ok
returns-in-Ok c = λ a b whole both one other.
    let cs = c.args.columns.now in
    let codes = c.deref.result.now in
    let count = c.len.ensures.value in
    let few = c.if-len-ge-MOST_TEXTS.false in
    let room : are_full c.args.rest.texts ≡ false = grind (arith, nat_tests, count, few) in
    let rows = ap (λ (p : Packed). rows_behind c.args.first.rows.items (Ok p.items)) (sym c.exchange_texts.ensures) ∙ c.in-Ok.ensures.gives in
    parts_joined cs a b whole c.args.first c.args.rest _ codes both one other room c.in_ok-codes.ensures.texts (codes_are _ _ _ _ _ refl c.deref.ensures.value c.in_ok-codes.ensures.codes) rows (c.in-Ok.ensures.width ∙ c.requires.first.width)
