use Rattle.std.proofs.Common.{drop, length}
use Rattle.sw_table.specs.Rows.{cell_of}
use Rattle.sw_load.specs.Appended.{Fit, cell_or_key}
use Rattle.sw_load.specs.Gone.{ArePlaces, left_of, without_places}
use Rattle.sw_load.proofs.Appended.{IsAppending}
use Rattle.sw_load.proofs.left.append_left.Given as goal

abbrev pub invariant-loop-place : goal.invariant-loop-place
invariant-loop-place l = record {
  places : ArePlaces l.from (length l.all.items) (drop l.place-index l.gone);
  fit : Fit l.columns.tail (without_places l.from (drop l.place-index l.gone) l.all.items);
  heads : IsAppending (cell_of l.columns.head) l.initial.heads l.heads (without_places l.from (drop l.place-index l.gone) l.all.items) (left_of l.all.items l.gone);
  tails : IsAppending (cell_or_key l.columns.tail) l.initial.tails l.tails (without_places l.from (drop l.place-index l.gone) l.all.items) (left_of l.all.items l.gone);
}
