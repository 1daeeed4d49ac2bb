use Rattle.std.proofs.Common.{◌≡◌, ◌∙◌, ◌∷◌, [], ◌++◌, ap, map, rules, subst, FitsSigned, ℤ, of_z, to_z, w64}
use Rattle.std.proofs.lemmas.Int.{to_z-of_z}
use Rattle.sw_lang.specs.Replies.{kind_at}
use Rattle.sw_outputs.specs.Fields.{cell_field, cell_fields}
use Rattle.sw_outputs.specs.Records.{IsMade}
use Rattle.sw_outputs.proofs.Making.{begins, cells_first, ends, ends_in, more, no_attrs, no_cells, none_left}
use Rattle.sw_outputs.proofs.records.add_cells.Goals as goal

pub loop-attr-init : goal.loop-attr-init
loop-attr-init c = begins c.args.records.now (cell_fields (map (kind_at c.args.schema.now) c.args.attrs.now) c.args.cells.now)

pub loop-attr-preserved : goal.loop-attr-preserved
loop-attr-preserved c =
    let f = kind_at c.args.schema.now in
    let z : ℤ = c.in-Some-split_first.cell.now in
    let fits : FitsSigned w64 z = search rules in
    let kept : to_z w64 (of_z w64 z) ≡ z = to_z-of_z w64 z fits in
    more _ _ c.add.new.self _ _ (cell_fields (map f c.in-Some.later.now) c.in-Some-split_first.after.now) (cell_field (f c.in-Some.attr.now) c.in-Some-split_first.cell.now) c.loop-attr.invariant
    (cells_first f c.in-Some.attr.now c.in-Some.later.now c.loop-attr.attrs.now c.in-Some-split_first.cell.now c.in-Some-split_first.after.now c.loop-attr.cells.now c.in-Some.ensures.cases.0 c.in-Some-split_first.ensures.cases.0)
    (λ b fs m. subst (λ t. IsMade c.add.new.self b (fs ++ t ∷ [])) (c.as_slice.ensures.value ∙ c.in_ok-text.ensures ∙ ap (cell_field (f c.in-Some.attr.now)) kept) (c.in_ok-add.ensures b fs m))

pub returns-in_default-split_first : goal.returns-in_default-split_first
returns-in_default-split_first c = ends_in _ _ c.end.new.self _ _ c.end.result c.loop-attr.invariant (no_cells (kind_at c.args.schema.now) c.loop-attr.attrs.now c.loop-attr.cells.now (none_left c.loop-attr.cells.now c.in_default-split_first.ensures.cases)) c.end.ensures

pub returns : goal.returns
returns c = ends _ _ c.end-2.new.self _ _ c.loop-attr.invariant (no_attrs (kind_at c.args.schema.now) c.loop-attr.attrs.now c.loop-attr.cells.now (none_left c.loop-attr.attrs.now c.in_default.ensures.cases)) c.in_ok-end.ensures
