use Rattle.std.proofs.Common.{◌∙◌, ap, sym, [], List, map}
use Rattle.sw_rows.specs.Domains.{domain, is_of_texts}
use Rattle.sw_rows.specs.Header.{kinds_of}
use Rattle.sw_table.specs.Exchanged.{with_exchanged}
use Rattle.sw_table.specs.Packed.{Packed}
use Rattle.sw_table.specs.declared.row.Row.{Row}
use Rattle.sw_rows.proofs.Loads.TextPartLaws.{none_coded, not_text, number_further, text_further}
use Rattle.sw_rows.proofs.loading.text_parts.exchange_texts.Goals as goal
use Rattle.sw_rows.proofs.loading.text_parts.exchange_texts.Goals.{in-Text, in_default}

abbrev items_are : Packed → List Row → Packed
items_are p rows = record p { items = rows }

pub loop-attr-init : goal.loop-attr-init
loop-attr-init c = ap (items_are c.args.rows.now) (sym (none_coded c.args.codes.now c.args.rows.now.items))

pub loop-attr-preserved : goal.loop-attr-preserved
loop-attr-preserved c =
    let ds = kinds_of c.args.columns.now in
    let i = c.loop-attr.attr in
    let codes = c.args.codes.now in
    let start = c.args.rows.now in
    elim c.match-kind.branch [
      | in-Text w ↦
          w.rows-is ∙ w.exchange.ensures
          ∙ ap (λ p. items_are p (map (with_exchanged i codes) p.items)) c.loop-attr.invariant
          ∙ ap (items_are start) (text_further ds codes start.items i (domain [] c.kind.result) c.kind.ensures.value (ap (λ k. is_of_texts (domain [] k)) w.in-Text.is))
      | in_default w ↦
          w.rows-is ∙ c.loop-attr.invariant
          ∙ ap (items_are start) (number_further ds codes start.items i (domain [] c.kind.result) c.kind.ensures.value (not_text c.kind.result w.in_default.not-Text))
    ]
