use Rattle.std.proofs.Common.{◌≡◌, ◌∙◌, ap, sym, rules, true, Ok, FitsSigned, w64}
use Rattle.std.proofs.lemmas.Int.{to_z-of_z}
use Rattle.sw_rows.specs.Header.{has_texts, holding, texts_of}
use Rattle.sw_rows.specs.Texts.{as_cell, code_given, with_text}
use Rattle.sw_rows.proofs.Schemas.DomainLaws.{holding_again, holding_of_texts, none_more, schema_again}
use Rattle.sw_rows.proofs.schema.Schema.add_text.Goals as goal

pub invariant_of-self : goal.invariant_of-self
invariant_of-self c =
    let cs = c.self.inside.columns in
    let ts = c.self.inside.texts in
    let some : has_texts cs ≡ true = sym (holding_of_texts ts cs) ∙ ap has_texts c.self.view_is ∙ c.requires.some in
    schema_again ts c.add-added.new.self cs c.self.invariant.0 c.self.invariant.1 c.len-count.ensures.texts (none_more c.add-added.new.self (has_texts cs) some)

pub invariant_of-self-2 : goal.invariant_of-self-2
invariant_of-self-2 c =
    let cs = c.self.inside.columns in
    let ts = c.self.inside.texts in
    let some : has_texts cs ≡ true = sym (holding_of_texts ts cs) ∙ ap has_texts c.self.view_is ∙ c.requires.some in
    schema_again ts c.add-added.new.self cs c.self.invariant.0 c.self.invariant.1 c.len-count.ensures.texts (none_more c.add-added.new.self (has_texts cs) some)

pub returns-clause-code : goal.returns-clause-code
returns-clause-code c =
    let own : c.self.inside.texts ≡ texts_of c.args.self.now = sym c.self.invariant.1 ∙ ap texts_of c.self.view_is in
    let fits : FitsSigned w64 c.cell_of.result = search rules in
    ap as_cell (ap (λ ts. code_given ts c.args.text.now) (sym own) ∙ c.in_ok-code.ensures.code) ∙ ap (λ z. Ok z) (sym c.cell_of.ensures ∙ sym (to_z-of_z w64 c.cell_of.result fits))

pub returns-clause-added : goal.returns-clause-added
returns-clause-added c =
    let cs = c.self.inside.columns in
    let ts = c.self.inside.texts in
    let own : ts ≡ texts_of c.args.self.now = sym c.self.invariant.1 ∙ ap texts_of c.self.view_is in
    let us = with_text (texts_of c.args.self.now) c.args.text.now in
    ap (λ vs. holding vs cs) (c.in_ok-code.ensures.added ∙ ap (λ vs. with_text vs c.args.text.now) own) ∙ sym (holding_again ts us cs) ∙ ap (holding us) c.self.view_is
