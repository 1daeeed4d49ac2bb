use Rattle.std.proofs.Common.{length, map}
use Rattle.sw_lang.specs.Replies.{kind_at, row_line, with_ends}
use Rattle.sw_lang.proofs.Progress.{Progress}
use Rattle.sw_lang.proofs.printing.rows.write_row_lines.Given as goal

abbrev pub invariant-loop-key : goal.invariant-loop-key
invariant-loop-key g l =
    let s = g.W.Sink in
    Progress (s.taken l.fn.out) (s.taken l.out) (s.failed l.fn.out) (s.failed l.out) (with_ends (map (row_line (map (kind_at l.schema) l.attrs)) l.fn.rows)) (with_ends (map (row_line (map (kind_at l.schema) l.attrs)) l.left))

abbrev pub decreases-loop-key : goal.decreases-loop-key
decreases-loop-key g l = length l.left
