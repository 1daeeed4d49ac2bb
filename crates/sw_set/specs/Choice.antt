-- Columns of maps, the range of places that qualifies, and what truth values choose of it.
use Rattle.std.specs.Prelude.{◌≡◌, ◌≢◌, ◌≤◌, ◌<◌, ◌+◌, ◌-◌, ◌*◌, ◌^◌, ◌≤ℤ◌, ◌&&◌, ℕ, suc, ℤ, pos, neg_ℤ, Bool, true, false, List, [], ◌∷◌, length, map, take, drop, get_or, slice_index_or, slice_range, count_by, unsigned_abs, Option, None, Some, All, Any}
use Rattle.sw_query.specs.declared.query.Cond.{Cond}
use Rattle.sw_query.specs.declared.query.Want.{Want}
use Rattle.sw_query.specs.declared.query.Want.TheVariants as want
use Rattle.sw_query.specs.declared.reply.ReplyRow.{ReplyRow}
use Rattle.sw_table.specs.declared.row.Row.{Row}
use Rattle.sw_query.specs.Bounds.{is_within}
use Rattle.sw_query.specs.Scan.{column, meets}
use Rattle.sw_kernel.specs.Arrangement.{joined}
use Rattle.sw_kernel.specs.Replay.{Step}
use Rattle.sw_table.specs.Kept.{kept}
use Rattle.sw_map.specs.declared.tail.Tail.TheVariants.{Key, Cell}
use Rattle.sw_map.specs.Held.{Held, blank, pairs_in, tails_in}
use Rattle.sw_map.specs.Lawful.{IsLawful, rows_by}
use Rattle.sw_set.specs.Prepared.{IsReady}
use Rattle.sw_set.specs.declared.reply.window.TheConstants.{BLOCK}
use Rattle.sw_set.specs.declared.reply.window.Side.{Side}
use Rattle.sw_set.specs.declared.reply.window.Side.TheVariants.{Head, Tail}
use Rattle.sw_set.specs.declared.reply.window.Column.{Column}

-- ---- the range

-- the items from one place up to below another pass the test, and no other does
pub record IsRun {X : Type 0} (p : X → Bool) (xs : List X) (from upto : ℕ) : Type 0 where
  pub ordered : from ≤ upto
  pub within : upto ≤ length xs
  pub before : All (λ (x : X). p x ≡ false) (take from xs)
  pub inside : All (λ (x : X). p x ≡ true) (slice_range xs from upto)
  pub behind : All (λ (x : X). p x ≡ false) (drop upto xs)

-- whether a row meets the first condition, that on the head
abbrev pub meets_first : List Cond → Row → Bool
meets_first [] r = true
meets_first (c ∷ cs) r = meets r c

-- the conditions after the first
abbrev pub further : List Cond → List Cond
further [] = []
further (c ∷ cs) = cs

-- ---- columns

-- the heads of a map's pairs, in order, or the tails
abbrev pub side_in : Side → Held → List ℤ
side_in Head m = map (λ p. p.0) (joined m.pairs)
side_in Tail m = tails_in m

-- the rows that maps of a head show at a tape's end, in order
abbrev pub shown_rows : ℕ → List (Step Row) → List Row
shown_rows head tape = joined (rows_by head tape)

-- boxes that are lawful, of which one has the keys at the tape's end
pub record AreStocked (head : ℕ) (tape : List (Step Row)) (ms : List Held) : Type 0 where
  pub lawful : All (IsLawful head tape) ms
  pub keys : Any (IsReady Key tape) ms

-- a range of the places that maps of a head show at a tape's end: from one place up to below another
pub record RangeState : Type 0 where
  pub head : ℕ
  pub tape : List (Step Row)
  pub maps : List Held
  pub from : ℕ
  pub upto : ℕ

-- one of a head's tape and maps
abbrev pub range_over : ℕ → List (Step Row) → List Held → ℕ → ℕ → RangeState
range_over head tape maps from upto = record { head = head; tape = tape; maps = maps; from = from; upto = upto }

-- the rows at its places
abbrev pub range_rows : RangeState → List Row
range_rows r = slice_range (shown_rows r.head r.tape) r.from r.upto

-- the maps are lawful, one has the keys at the tape's end, and the range lies within its places
pub record IsLawfulRange (r : RangeState) : Type 0 where
  pub stocked : AreStocked r.head r.tape r.maps
  pub ordered : r.from ≤ r.upto
  pub within : r.upto ≤ length (shown_rows r.head r.tape)

-- its rows are those that meet the first condition
abbrev pub IsRangeOf : List Cond → RangeState → Type 0
IsRangeOf conds r = IsRun (meets_first conds) (shown_rows r.head r.tape) r.from r.upto

-- the cells of an attribute are there: it is the head, or one of the boxes has them at the tape's end
abbrev pub HasCells : ℕ → List (Step Row) → List Held → ℕ → Type 0
HasCells head tape ms b = b ≢ head → Any (IsReady (Cell b) tape) ms

-- a range's maps have the cells of an attribute
abbrev pub RangeHasCells : RangeState → ℕ → Type 0
RangeHasCells r b = HasCells r.head r.tape r.maps b

-- the value of a column at a place
abbrev pub value_in : List Held → Column → ℕ → ℤ
value_in ms c place = get_or (side_in c.side (get_or ms c.at blank)) place (pos 0)

-- the column of a box is these values
pub record IsColumn (ms : List Held) (c : Column) (values : List ℤ) : Type 0 where
  pub inside : c.at < length ms
  pub values_are : side_in c.side (get_or ms c.at blank) ≡ values

-- a column of a box with at least so many places
pub record IsInside (ms : List Held) (many : ℕ) (c : Column) : Type 0 where
  pub box : c.at < length ms
  pub places : many ≤ pairs_in (get_or ms c.at blank)

-- where the columns of attributes stand, by their numbers
abbrev pub first_column : Column
first_column = record { at = 0; side = Head }

abbrev pub column_at : List Column → ℕ → Column
column_at cs a = get_or cs a first_column

-- the column of an attribute has the cells of these rows
abbrev pub HasColumn : List Held → List Column → List Row → ℕ → Type 0
HasColumn ms cs rows a = IsColumn ms (column_at cs a) (column a rows)

-- the column of each of these attributes has a place
abbrev pub HavePlace : List Held → List Column → List ℕ → ℕ → Type 0
HavePlace ms cs names place = All (λ (a : ℕ). IsInside ms (place + 1) (column_at cs a)) names

-- their values at a place
abbrev pub values_shown : List Held → List Column → List ℕ → ℕ → List ℤ
values_shown ms cs names place = map (λ a. value_in ms (column_at cs a) place) names

-- a row put together by its place
abbrev pub row_in : List Held → List Column → List ℕ → ℕ × ℕ → ReplyRow
row_in ms cs names p = record { key = p.0; cells = values_shown ms cs names p.1 }

-- a block of cells, read from one place up to below another
pub record IsBlock (block : List ℤ) (start end : ℕ) (xs : List ℤ) : Type 0 where
  pub short : end ≤ start + BLOCK
  pub within : end ≤ length xs
  pub cells : (k : ℕ) → start ≤ k → k < end → get_or block (k - start) (pos 0) ≡ get_or xs k (pos 0)

-- the values of a column of a map from one place on, so many
abbrev pub values_from : Side → Held → ℕ → ℕ → List ℤ
values_from side m from len = slice_range (side_in side m) from (from + len)

-- ---- what is chosen of the range

-- the items that truth values choose, or all where there are none
abbrev pub chosen : {X : Type 0} → Option (List Bool) → List X → List X
chosen None xs = xs
chosen (Some bs) xs = kept bs xs

-- whether the item at a place is chosen
abbrev pub is_chosen : Option (List Bool) → ℕ → Bool
is_chosen None k = true
is_chosen (Some bs) k = get_or bs k false

-- how many of n items are chosen
abbrev pub count_chosen : Option (List Bool) → ℕ → ℕ
count_chosen None n = n
count_chosen (Some bs) n = count_by (λ b. b) bs

-- there is a truth value for each of n items, if there are any
abbrev pub AreFor : ℕ → Option (List Bool) → Type 0
AreFor n None = Unit {0}
AreFor n (Some bs) = length bs ≡ n

-- the truth values are those of a test, where there are any; else each item passes it
abbrev pub AreOf : {X : Type 0} → (X → Bool) → List X → Option (List Bool) → Type 0
AreOf {X} q xs None = All (λ (x : X). q x ≡ true) xs
AreOf q xs (Some bs) = bs ≡ map q xs

-- of the items chosen before those stay chosen whose value meets a condition
abbrev pub AreRefined : Cond → List ℤ → List Bool → List Bool → Type 0
AreRefined c values old new =
    (k : ℕ) → k < length old
    → slice_index_or new k false
    ≡ (slice_index_or old k false && is_within c.lower c.upper (slice_index_or values k (pos 0)))

-- numbers, each with its place, from i on
abbrev pub placed : ℕ → List ℤ → List (ℕ × ℕ)
placed i [] = []
placed i (k ∷ ks) = (unsigned_abs k, i) ∷ placed (suc i) ks

-- a number that so many cells may sum to
abbrev pub IsSumOf : ℕ → ℤ → Type 0
IsSumOf n z = (neg_ℤ (pos (2 ^ 63 * n)) ≤ℤ z) × (z ≤ℤ pos (2 ^ 63 * n))

-- the columns of what is wanted are there
abbrev pub HasWanted : ℕ → List (Step Row) → List Held → Want → Type 0
HasWanted head tape ms (want.Rows names) = All (HasCells head tape ms) names
HasWanted head tape ms want.Count = Unit {0}
HasWanted head tape ms (want.Sum a) = HasCells head tape ms a
HasWanted head tape ms (want.Min a) = HasCells head tape ms a
HasWanted head tape ms (want.Max a) = HasCells head tape ms a

-- ---- the least and the greatest

-- one of two, or what a choice makes of both
abbrev pub either_or : (ℤ → ℤ → ℤ) → Option ℤ → Option ℤ → Option ℤ
either_or f None b = b
either_or f (Some x) None = Some x
either_or f (Some x) (Some y) = Some (f x y)
