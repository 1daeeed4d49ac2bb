use Rattle.std.proofs.Common.{map}
use Rattle.sw_lang.specs.Replies.{kind_at, row_line}
use Rattle.sw_query.specs.Replies.{reply_row}
use Rattle.sw_lang.proofs.Progress.{step, stops_within}
use Rattle.sw_lang.proofs.Printed.Texts.{ends_first}
use Rattle.sw_lang.proofs.printing.rows.write_row_lines.Goals as goal

pub returns-in_err-write_row_line : goal.returns-in_err-write_row_line
returns-in_err-write_row_line g c =
    let line = row_line (map (kind_at c.args.schema.now) c.args.attrs.now) in
    let parted = rw (ends_first line (reply_row c.in-Some.key c.in-Some.cells.now) c.next.new.self c.loop-key.left c.in-Some.ensures) at c.loop-key.invariant in
    stops_within _ _ c.from_residual.result c.from_residual.ensures.1 parted c.in_err-write_row_line.ensures

pub loop-key-preserved : goal.loop-key-preserved
loop-key-preserved g c =
    let line = row_line (map (kind_at c.args.schema.now) c.args.attrs.now) in
    let parted = rw (ends_first line (reply_row c.in-Some.key c.in-Some.cells.now) c.next.new.self c.loop-key.left c.in-Some.ensures) at c.loop-key.invariant in
    step parted c.in_ok-write_row_line.ensures
