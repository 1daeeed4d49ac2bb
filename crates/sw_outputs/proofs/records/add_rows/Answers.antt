use Rattle.std.proofs.Common.{[], ap, map, subst, sym}
use Rattle.csv.specs.Writing.{default_writer, row_text}
use Rattle.sw_lang.specs.Replies.{kind_at}
use Rattle.sw_outputs.specs.Fields.{cell_fields, records_text, row_fields}
use Rattle.sw_outputs.proofs.Making.{GoesOver, arrives, row_more, sets_out}
use Rattle.sw_outputs.proofs.records.add_rows.Goals as goal

pub loop-cells-init : goal.loop-cells-init
loop-cells-init c =
    let f = row_fields (map (kind_at c.args.schema.now) c.args.attrs.now) in
    let all = records_text (map f c.args.rows.now) in
    subst (λ l. GoesOver c.args.records.now c.args.records.now all (records_text (map f l))) (sym c.left-left.ensures) (sets_out c.args.records.now all)

pub loop-cells-preserved : goal.loop-cells-preserved
loop-cells-preserved c =
    let ks = map (kind_at c.args.schema.now) c.args.attrs.now in
    row_more _ _ c.add_cells.new.records _ _ (records_text (map (row_fields ks) c.next.new.self)) (row_text default_writer (cell_fields ks c.in-Some.cells.now)) c.loop-cells.invariant
    (ap (λ l. records_text (map (row_fields ks) l)) c.in-Some.ensures)
    (λ bytes m. c.in_ok-add_cells.ensures bytes [] m)

pub returns : goal.returns
returns c =
    let ks = map (kind_at c.args.schema.now) c.args.attrs.now in
    arrives _ _ _ _ c.loop-cells.invariant (ap (λ l. records_text (map (row_fields ks) l)) c.in_default.ensures.0)
