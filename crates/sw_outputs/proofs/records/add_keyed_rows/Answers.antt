use Rattle.std.proofs.Common.{◌∷◌, [], ap, decimal, map, subst, sym}
use Rattle.csv.specs.Writing.{default_writer, row_text}
use Rattle.sw_query.specs.Replies.{reply_row}
use Rattle.sw_lang.specs.Replies.{kind_at}
use Rattle.sw_outputs.specs.Fields.{keyed_fields, records_text}
use Rattle.sw_outputs.proofs.Making.{GoesOver, arrives, row_more, sets_out}
use Rattle.sw_outputs.proofs.records.add_keyed_rows.Goals as goal

pub loop-key-init : goal.loop-key-init
loop-key-init c =
    let f = keyed_fields (map (kind_at c.args.schema.now) c.args.attrs.now) in
    let all = records_text (map f c.args.rows.now) in
    subst (λ l. GoesOver c.args.records.now c.args.records.now all (records_text (map f l))) (sym c.left-left.ensures) (sets_out c.args.records.now all)

pub loop-key-preserved : goal.loop-key-preserved
loop-key-preserved c =
    let f = keyed_fields (map (kind_at c.args.schema.now) c.args.attrs.now) in
    row_more _ _ c.add_cells.new.records _ _ (records_text (map f c.next.new.self)) (row_text default_writer (f (reply_row c.in-Some.key c.in-Some.cells.now))) c.loop-key.invariant
    (ap (λ l. records_text (map f l)) c.in-Some.ensures)
    (λ bytes m. c.in_ok-add_cells.ensures bytes (decimal c.in-Some.key ∷ []) (c.in_ok-add_number.ensures bytes [] m))

pub returns : goal.returns
returns c =
    let f = keyed_fields (map (kind_at c.args.schema.now) c.args.attrs.now) in
    arrives _ _ _ _ c.loop-key.invariant (ap (λ l. records_text (map f l)) c.in_default.ensures.0)
