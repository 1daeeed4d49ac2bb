-- What a map holds, and what beginning, an entry of the tape and clearing make of it.
use Rattle.std.specs.Prelude.{◌≡◌, ◌<◌, ◌+◌, ◌^◌, ℕ, ℤ, pos, Bool, true, false, cond, Option, None, Some, List, [], length, map, All}
use Rattle.sw_query.specs.declared.bound.Bound.{Bound}
use Rattle.sw_table.specs.declared.row.Row.{Row}
use Rattle.sw_query.specs.Bounds.{same_bound}
use Rattle.sw_query.specs.Scan.{cell_of}
use Rattle.sw_kernel.specs.Partition.{head_of}
use Rattle.sw_kernel.specs.Arrangement.{Arrangement, last, piece, joined}
use Rattle.sw_kernel.specs.Replay.{Step, loaded, inserted, removed, ranged, step, shown_step, pair_of}
use Rattle.sw_kernel.specs.Tapes.{brought_by}
use Rattle.sw_map.specs.declared.tail.Tail.{Tail}
use Rattle.sw_map.specs.declared.tail.Tail.TheVariants.{Key, Cell}

-- what a tail shows of a row
abbrev pub tail_value : Tail → Row → ℤ
tail_value Key r = pos r.key
tail_value (Cell a) r = cell_of a r

-- a row as the pair that a map of this head and tail has of it
abbrev pub pair_in : ℕ → Tail → Row → ℤ × ℤ
pair_in head tail = pair_of (cell_of head) (tail_value tail)

-- A map: whether it is blank; and if it isn't, its head and tail, the cells of its lease, its cursor (how many entries
-- it has replayed), and its pairs in their pieces. One cell is room for one pair.
pub record Held : Type 0 where
  pub is_blank : Bool
  pub head : ℕ
  pub tail : Tail
  pub cells : ℕ
  pub cursor : ℕ
  pub pairs : Arrangement (ℤ × ℤ)

abbrev pub blank : Held
blank = record { is_blank = true; head = 0; tail = Key; cells = 0; cursor = 0; pairs = last [] }

-- a map that has replayed nothing yet
abbrev pub begun : ℕ → Tail → ℕ → Held
begun head tail cells = record {
  is_blank = false;
  head = head;
  tail = tail;
  cells = cells;
  cursor = 0;
  pairs = last [];
}

-- one more entry replayed
abbrev pub after : Step Row → Held → Held
after e m = record m { cursor = m.cursor + 1; pairs = step head_of (shown_step (pair_in m.head m.tail) e) m.pairs }

-- a map whose lease was to grow to so many cells, and whether it did: all but the cells is as it was
abbrev pub grown_if : Bool → ℕ → Held → Held
grown_if true cells m = record m { cells = cells }
grown_if false cells m = m

-- how many pairs it has
abbrev pub pairs_in : Held → ℕ
pairs_in m = length (joined m.pairs)

-- the tails of its pairs, in order
abbrev pub tails_in : Held → List ℤ
tails_in m = map (λ p. p.1) (joined m.pairs)

-- how many items stand before a bound, if it is one of those between the pieces, where i stand before the first piece
abbrev pub place_from : {A : Type 0} → ℕ → Bound → Arrangement A → Option ℕ
place_from i b (last xs) = None
place_from i b (piece xs c rest) = cond (same_bound b c) (Some (i + length xs)) (place_from (i + length xs) b rest)

abbrev pub place_of : {A : Type 0} → Bound → Arrangement A → Option ℕ
place_of b a = place_from 0 b a

-- what a map may replay next: a load at the beginning alone, and no removal of a place that there isn't
abbrev pub MayReplay : Held → Step Row → Type 0
MayReplay m (loaded rows) = m.cursor ≡ 0
MayReplay m (inserted row) = Unit {0}
MayReplay m (removed place) = place < pairs_in m
MayReplay m (ranged lower upper) = Unit {0}

-- the keys that it brings fit a signed cell
abbrev pub KeysFit : Step Row → Type 0
KeysFit e = All (λ (r : Row). r.key < 2 ^ 63) (brought_by e)
