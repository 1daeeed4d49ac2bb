-- Tapes, boxes and queries of the worked examples.
use Rattle.std.specs.Prelude.{◌^◌, ◌-◌, ℕ, pos, neg_ℤ, false, List, [], ◌∷◌, ◌++◌, map, Option, Some, None}
use Rattle.sw_query.specs.declared.bound.Bound.{Bound}
use Rattle.sw_query.specs.declared.bound.Bound.TheVariants.{Before, After}
use Rattle.sw_query.specs.declared.query.Query.{Query}
use Rattle.sw_query.specs.declared.query.Want.TheVariants as want
use Rattle.sw_table.specs.declared.row.Row.{Row}
use Rattle.sw_table.specs.declared.row.Update.{Update}
use Rattle.sw_rows.specs.Examples.{asking, four_rows, on, row_of_one, row_with}
use Rattle.sw_kernel.specs.Arrangement.{Arrangement, joined, last, piece}
use Rattle.sw_kernel.specs.Replay.{Step, loaded, inserted, removed, ranged}
use Rattle.sw_map.specs.declared.tail.Tail.TheVariants.{Key, Cell}
use Rattle.sw_map.specs.Held.{Held, blank, place_of}
use Rattle.sw_map.specs.Lawful.{rows_by}
use Rattle.sw_set.specs.Shelf.{AreaState, key_of}

abbrev pub before : ℕ → Option Bound
before v = Some (Before (pos v))

abbrev pub after : ℕ → Option Bound
after v = Some (After (pos v))

abbrev pub least_bound : Bound
least_bound = Before (neg_ℤ (pos (2 ^ 63)))

abbrev pub greatest_bound : Bound
greatest_bound = After (pos (2 ^ 63 - 1))

-- the keys of a tape's rows in their pieces, by attribute 0
abbrev pub keys_by : List (Step Row) → List ℕ
keys_by tape = map key_of (joined (rows_by 0 tape))

-- four rows, cracked from 10 up to 15
abbrev pub cracked_tape : List (Step Row)
cracked_tape = loaded four_rows ∷ ranged (before 10) (after 15) ∷ []

abbrev pub cracked_pieces : Arrangement Row
cracked_pieces =
    piece (row_with 2 (pos 3) (pos 8) (pos 0) ∷ []) (Before (pos 10))
    (piece (row_with 1 (pos 12) (pos 7) (pos 1) ∷ row_with 3 (pos 12) (pos 5) (pos 1) ∷ []) (After (pos 15))
    (last (row_with 4 (pos 20) (pos 2) (pos 0) ∷ [])))

-- the pieces of tapes by attribute 0, with the places of a lower and of an upper bound
abbrev pub places_by : List (Step Row) → Bound → Bound → Option ℕ × Option ℕ
places_by tape lower upper = (place_of lower (rows_by 0 tape), place_of upper (rows_by 0 tape))

-- then a row comes
abbrev pub longer_tape : List (Step Row)
longer_tape = cracked_tape ++ inserted (row_with 5 (pos 1) (pos 9) (pos 0)) ∷ []

-- or that of key 2 goes
abbrev pub shorter_tape : List (Step Row)
shorter_tape = cracked_tape ++ removed 0 ∷ []

-- or, in its stead, the row at another place
abbrev pub strayed_tape : List (Step Row)
strayed_tape = cracked_tape ++ removed 1 ∷ []

abbrev pub three_rows : List Row
three_rows =
    row_with 1 (pos 12) (pos 7) (pos 1) ∷ row_with 3 (pos 12) (pos 5) (pos 1) ∷ row_with 4 (pos 20) (pos 2) (pos 0) ∷ []

-- or the tape begins anew without it
abbrev pub begun_tape : List (Step Row)
begun_tape = loaded three_rows ∷ ranged (before 10) None ∷ []

-- four rows, cracked at the ends of all values
abbrev pub whole_tape : List (Step Row)
whole_tape = loaded four_rows ∷ ranged (Some least_bound) (Some greatest_bound) ∷ []

-- three rows of one value, cracked at it, and two more
abbrev pub fives_tape : List (Step Row)
fives_tape =
    loaded (row_of_one 1 (pos 5) ∷ row_of_one 2 (pos 5) ∷ row_of_one 3 (pos 5) ∷ []) ∷ ranged (before 5) (after 5) ∷ []

abbrev pub mixed_tape : List (Step Row)
mixed_tape = fives_tape ++ inserted (row_of_one 4 (pos 7)) ∷ inserted (row_of_one 5 (pos 4)) ∷ []

-- the map of the second attribute at the end of the cracked tape
abbrev pub second_map : Held
second_map = record {
  is_blank = false;
  head = 0;
  tail = Cell 1;
  cells = 64;
  cursor = 2;
  pairs =
      piece ((pos 3, pos 8) ∷ []) (Before (pos 10))
      (piece ((pos 12, pos 7) ∷ (pos 12, pos 5) ∷ []) (After (pos 15))
      (last ((pos 20, pos 2) ∷ [])));
}

-- the key map there
abbrev pub key_map : Held
key_map = record {
  is_blank = false;
  head = 0;
  tail = Key;
  cells = 64;
  cursor = 2;
  pairs =
      piece ((pos 3, pos 2) ∷ []) (Before (pos 10))
      (piece ((pos 12, pos 1) ∷ (pos 12, pos 3) ∷ []) (After (pos 15))
      (last ((pos 20, pos 4) ∷ [])));
}

-- the key map before it cracked
abbrev pub lagging_map : Held
lagging_map = record {
  is_blank = false;
  head = 0;
  tail = Key;
  cells = 64;
  cursor = 1;
  pairs = last ((pos 12, pos 1) ∷ (pos 3, pos 2) ∷ (pos 12, pos 3) ∷ (pos 20, pos 4) ∷ []);
}

-- an area of four rows with the first two of these maps
abbrev pub mapped_area : AreaState
mapped_area = record {
  attribute = 0;
  from = None;
  below = None;
  inbox = [];
  spare = 0;
  tape = cracked_tape;
  boxes = key_map ∷ second_map ∷ [];
}

-- the same when its key map was cleared
abbrev pub cleared_area : AreaState
cleared_area = record mapped_area { boxes = blank ∷ second_map ∷ [] }

-- or lags
abbrev pub lagging_area : AreaState
lagging_area = record mapped_area { boxes = lagging_map ∷ second_map ∷ [] }

-- the area that was begun anew without the row of key 2
abbrev pub begun_area : AreaState
begun_area = record mapped_area { tape = loaded three_rows ∷ []; boxes = blank ∷ blank ∷ [] }

-- what is known of refused steps: there was none, or there may have been
abbrev pub none_refused : List (Step Row) → Type 0
none_refused tape = ⊥

abbrev pub some_refused : List (Step Row) → Type 0
some_refused tape = Unit {0}

-- a row that comes
abbrev pub fifth_row : Row
fifth_row = row_with 5 (pos 1) (pos 9) (pos 0)

-- one whose key is not above all that came
abbrev pub old_row : Row
old_row = row_with 2 (pos 1) (pos 1) (pos 1)

-- an area of four rows, one of which waits to go
abbrev pub waiting_area : Update → AreaState
waiting_area u = record {
  attribute = 0;
  from = None;
  below = None;
  inbox = u ∷ [];
  spare = 0;
  tape = cracked_tape;
  boxes = [];
}

-- `select b` with a range of a
abbrev pub select_b : Query
select_b = asking (on 0 (before 10) (after 15) ∷ []) (want.Rows (1 ∷ []))

abbrev pub select_b_and_c : Query
select_b_and_c = asking (on 0 (before 10) (after 15) ∷ []) (want.Rows (1 ∷ 2 ∷ []))

-- `select a` with a range of a and one of b
abbrev pub select_a_by_b : Query
select_a_by_b = asking (on 0 (before 10) None ∷ on 1 None (before 6) ∷ []) (want.Rows (0 ∷ []))

-- `sum b` with a range of c and one of a
abbrev pub sum_b_by_c : Query
sum_b_by_c = asking (on 2 None (before 3) ∷ on 0 (after 1) None ∷ []) (want.Sum 1)

abbrev pub count_all : Query
count_all = asking [] want.Count
