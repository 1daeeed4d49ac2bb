use Rattle.std.proofs.Common.{rules, ◌≡◌, ◌∙◌, ◌≤◌, ◌<◌, length, pos, set, slice_index_or, sym, ap, subst}
use Rattle.std.proofs.lemmas.List.{drop-map}
use mir.Syntax.{w64}
use mir.Val.{of_z, to_z}
use Rattle.sw_query.specs.Replies.{reply_row}
use Rattle.sw_query.specs.declared.reply.ReplyRow.{ReplyRow}
use Rattle.sw_arrays.specs.Blocks.{column_in, filled, many_in}
use Rattle.sw_arrays.proofs.Blocks.{copied_all, copied_full, copied_next, part_filled, row_passed, row_within}
use Rattle.sw_arrays.proofs.copied.cells_into.Goals as goal

pub returns-in-None-clause-copied : goal.returns-in-None-clause-copied
returns-in-None-clause-copied c =
    let f = λ (r : ReplyRow). slice_index_or r.cells c.args.column (pos 0) in
    let fits : c.loop-place.place ≤ length c.args.out.now = search rules in
    let all = copied_all f c.loop-place.place c.from_row-left.result c.loop-place.left c.loop-place.out c.args.out.now c.loop-place.invariant.0 c.loop-place.invariant.1 c.in-None.ensures.0 c.loop-place.invariant.2 fits in
    all.0 ∙ ap (λ xs. filled xs c.args.out.now) (ap (column_in c.args.column) c.from_row-left.ensures ∙ sym (drop-map f c.args.from c.args.rows.now))

pub returns-in-None-clause-many : goal.returns-in-None-clause-many
returns-in-None-clause-many c =
    let f = λ (r : ReplyRow). slice_index_or r.cells c.args.column (pos 0) in
    let fits : c.loop-place.place ≤ length c.args.out.now = search rules in
    let all = copied_all f c.loop-place.place c.from_row-left.result c.loop-place.left c.loop-place.out c.args.out.now c.loop-place.invariant.0 c.loop-place.invariant.1 c.in-None.ensures.0 c.loop-place.invariant.2 fits in
    all.1 ∙ ap (λ xs. many_in xs c.args.out.now) (ap (column_in c.args.column) c.from_row-left.ensures ∙ sym (drop-map f c.args.from c.args.rows.now))

pub loop-place-preserved : goal.loop-place-preserved
loop-place-preserved c =
    let f = λ (r : ReplyRow). slice_index_or r.cells c.args.column (pos 0) in
    let x : ReplyRow = reply_row c.in-Some.field-0-0 c.in-Some.cells.now in
    let fits : c.loop-place.place < length c.args.out.now = search rules in
    let value : to_z w64 (of_z w64 c.cell_at.result) ≡ slice_index_or c.in-Some.cells.now c.args.column (pos 0) = search rules in (
      ap (λ z. set c.loop-place.out c.loop-place.place z) value ∙ copied_next f c.loop-place.place c.from_row-left.result c.loop-place.left c.next.new.self x c.loop-place.out c.args.out.now c.loop-place.invariant.0 c.loop-place.invariant.1 c.in-Some.ensures fits,
      row_passed c.loop-place.place c.from_row-left.result c.loop-place.left c.next.new.self x c.loop-place.invariant.1 c.in-Some.ensures,
      row_within c.loop-place.place c.from_row-left.result c.loop-place.left c.next.new.self x c.loop-place.invariant.1 c.in-Some.ensures,
    )

pub returns-clause-copied : goal.returns-clause-copied
returns-clause-copied c =
    let f = λ (r : ReplyRow). slice_index_or r.cells c.args.column (pos 0) in
    let full : c.loop-place.place ≡ length c.args.out.now = search rules in
    let at_end : c.loop-place.out ≡ part_filled (length c.args.out.now) (column_in c.args.column c.from_row-left.result) c.args.out.now = subst (λ n. c.loop-place.out ≡ part_filled n (column_in c.args.column c.from_row-left.result) c.args.out.now) full c.loop-place.invariant.0 in
    let few : length c.args.out.now ≤ length c.from_row-left.result = subst (λ n. n ≤ length c.from_row-left.result) full c.loop-place.invariant.2 in
    (copied_full f c.from_row-left.result c.loop-place.out c.args.out.now at_end few).0
    ∙ ap (λ xs. filled xs c.args.out.now) (ap (column_in c.args.column) c.from_row-left.ensures ∙ sym (drop-map f c.args.from c.args.rows.now))
