use Rattle.std.proofs.Common.{◌≡◌, ◌*◌, ℕ, List, length}
use Rattle.sw_table.specs.Exchanged.{with_exchanged}
use Rattle.sw_table.specs.Packed.{rows_in}
use Rattle.sw_table.proofs.ExchangeLaws.{partly}
use Rattle.sw_table.proofs.exchanging.exchange_cells.Given as goal

abbrev pub invariant-loop-place : goal.invariant-loop-place
invariant-loop-place l = record {
  whole : length l.cells ≡ l.many * l.width;
  rows : (keys : List ℕ) → length keys ≡ l.many → rows_in l.width keys l.cells ≡ partly (with_exchanged l.attr l.codes) l.place (rows_in l.width keys l.initial.cells);
}
