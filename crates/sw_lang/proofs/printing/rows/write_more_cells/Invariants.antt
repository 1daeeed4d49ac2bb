use Rattle.std.proofs.Common.{length, map}
use Rattle.sw_lang.specs.Replies.{kind_at, more_cells}
use Rattle.sw_lang.proofs.Progress.{Progress}
use Rattle.sw_lang.proofs.printing.rows.write_more_cells.Given as goal

abbrev pub invariant-loop-attr : goal.invariant-loop-attr
invariant-loop-attr g l =
    let s = g.W.Sink in
    Progress (s.taken l.fn.out) (s.taken l.out) (s.failed l.fn.out) (s.failed l.out) (more_cells (map (kind_at l.schema) l.fn.attrs) l.fn.cells) (more_cells (map (kind_at l.schema) l.attrs) l.cells)

abbrev pub decreases-loop-attr : goal.decreases-loop-attr
decreases-loop-attr g l = length l.attrs
