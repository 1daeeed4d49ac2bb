use Rattle.std.proofs.Common.{◌≡◌, get_or, take, true}
use Rattle.sw_query.specs.Scan.{meets_all}
use Rattle.sw_table.specs.declared.row.Row.{Row}
use Rattle.sw_query.proofs.scanning.sieve.meets_at.Given as goal

-- each condition so far is met
abbrev pub invariant-loop-cond : goal.invariant-loop-cond
invariant-loop-cond g l = (d : Row) → meets_all (take l.cond-index l.conds) (get_or (g.P.Places.rows l.rows) l.place d) ≡ true
