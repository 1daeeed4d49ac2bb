use Rattle.std.proofs.Common.{◌≡◌, take}
use Rattle.sw_query.specs.Scan.{column}
use Rattle.sw_spine.specs.Indexes.{placed}
use Rattle.sw_spine.proofs.index.pairs_of.Given as goal

abbrev pub invariant-loop-place : goal.invariant-loop-place
invariant-loop-place l = l.pairs.items ≡ placed 0 (take l.place (column l.attr l.rows.items))
