use Rattle.std.proofs.Common.{◌≡◌, ◌-◌}
use Rattle.sw_lang.specs.Replies.{kind_at}
use Rattle.sw_arrays.specs.Columns.{first_lacking}
use Rattle.sw_arrays.proofs.columns.found_lacking.Given as goal

abbrev pub invariant-loop-row : goal.invariant-loop-row
invariant-loop-row l =
    first_lacking (kind_at l.schema l.attr) l.column l.row (l.many - l.row) ≡ first_lacking (kind_at l.schema l.attr) l.column 0 l.many
