use Rattle.std.proofs.Common.{◌≡◌, ◌∙◌, ◌<◌, ◌≤◌, ap, sym, arith, rules, pos, length, drop, take, map, get_or, Some, FitsSigned, w64, to_z, of_z}
use Rattle.std.specs.Prelude.{option_map}
use Rattle.std.proofs.lemmas.Int.{to_z-of_z}
use Rattle.std.proofs.lemmas.List.{take_more_set}
use Rattle.std.proofs.lemmas.Grind.{common_steps}
use Rattle.serde_json.specs.View.{view}
use Rattle.sw_rows.specs.Header.{kinds_of, texts_of}
use Rattle.sw_rows.specs.Domains.{domain}
use Rattle.sw_rows.specs.Tables.{padded}
use Rattle.sw_rows.proofs.Tables.TableLemmas.{padded_take}
use Rattle.sw_histories.proofs.Found.RecordReadingLemmas.{cell_none, cell_some, cells_end, cells_long}
use Rattle.sw_histories.proofs.reading.rows.read_cells.Goals as goal

pub returns-in-None : goal.returns-in-None
returns-in-None c =
    let kinds = kinds_of c.args.schema.now in
    let vs = c.args.items.now in
    let i = c.loop-attr.attr in
    let long : length vs ≡ length kinds = grind (arith, common_steps) in
    let none = cell_none (take i c.loop-attr.cells) kinds vs i (domain (texts_of c.args.schema.now) c.kind.result) c.index-items-attr.result c.kind.ensures.value (omega arith) c.index-items-attr.is c.in-None.ensures in
    sym (cells_long kinds vs long ∙ ap (option_map padded) (sym c.loop-attr.invariant.read ∙ none))

pub loop-attr-preserved : goal.loop-attr-preserved
loop-attr-preserved c =
    let kinds = kinds_of c.args.schema.now in
    let vs = c.args.items.now in
    let i = c.loop-attr.attr in
    let z = c.in-Some.cell in
    let fits : FitsSigned w64 z = search rules in
    let kept : to_z w64 (of_z w64 z) ≡ z = to_z-of_z w64 z fits in
    let lt : i < length c.loop-attr.cells = omega arith in
    let some = cell_some (take i c.loop-attr.cells) kinds vs i (domain (texts_of c.args.schema.now) c.kind.result) c.index-items-attr.result z c.kind.ensures.value (omega arith) c.index-items-attr.is c.in-Some.ensures in
    record {
      counts = c.loop-attr.invariant.counts;
      eight = grind (arith, common_steps);
      rest = λ k h. let old : get_or c.loop-attr.cells k (pos 0) ≡ pos 0 = c.loop-attr.invariant.rest k (omega arith) in grind (arith, common_steps);
      read = rw (kept, take_more_set c.loop-attr.cells i z lt) (sym some ∙ c.loop-attr.invariant.read);
    }

pub returns : goal.returns
returns c =
    let kinds = kinds_of c.args.schema.now in
    let vs = c.args.items.now in
    let i = c.loop-attr.attr in
    let long : length vs ≡ length kinds = grind (arith, common_steps) in
    let over : length kinds ≤ i = grind (arith, common_steps) in
    let whole = padded_take c.loop-attr.cells i c.loop-attr.invariant.eight (omega arith) c.loop-attr.invariant.rest in
    sym (cells_long kinds vs long ∙ ap (option_map padded) (sym c.loop-attr.invariant.read ∙ cells_end (take i c.loop-attr.cells) kinds (drop i (map view vs)) i over) ∙ ap (λ x. Some x) whole)
