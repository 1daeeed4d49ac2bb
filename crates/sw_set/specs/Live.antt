-- Which of the rows that a tape brought are live.
use Rattle.std.specs.Prelude.{◌≡◌, ◌-◌, ◌++◌, ◌∷◌, [], ℕ, Bool, true, List, fold, length, replicate, take, Option, MatchOption}
use Rattle.sw_table.specs.declared.row.Row.{Row}
use Rattle.sw_table.specs.declared.row.Update.{Update}
use Rattle.sw_table.specs.Updates.{rows_then}
use Rattle.sw_table.specs.Kept.{kept}
use Rattle.sw_table.specs.Rows.{HasNoRow, IsRowAt}
use Rattle.sw_set.specs.Shelf.{Rises, came_then, key_of}

-- The rows that came after a tape's load, and a flag for each row of the load and then
-- for each later one: whether it is live.
pub record Standing : Type 0 where
  pub later : List Row
  pub flags : List Bool

-- all of them by place: those of the load, then the later ones
abbrev pub came_to : List Row → Standing → List Row
came_to load s = load ++ s.later

-- the rows that are live, in the order in which they came
abbrev pub live_among : List Row → Standing → List Row
live_among load s = kept s.flags (came_to load s)

-- there is a flag for each row, and the rows came by rising keys
pub record IsStandingOf (load : List Row) (s : Standing) : Type 0 where
  pub many : length s.flags ≡ length (came_to load s)
  pub rise : Rises key_of (came_to load s)

-- so many rows of a load, all of them live
abbrev pub all_standing : ℕ → Standing
all_standing many = record { later = []; flags = replicate many true }

-- without the row that came last, and its flag
abbrev pub without_last : Standing → Standing
without_last s = record {
  later = take (length s.later - 1) s.later;
  flags = take (length s.flags - 1) s.flags;
}

-- the place of the row of a key is found; or no row has it
abbrev pub FindsKey : ℕ → List Row → Option ℕ → Type 0
FindsKey key rows found = MatchOption found (HasNoRow key rows) (IsRowAt key rows)

-- after one more row, which is live
abbrev pub came_later : Row → Standing → Standing
came_later r s = record { later = s.later ++ r ∷ []; flags = s.flags ++ true ∷ [] }

-- each row has a flag, and the live ones are those of before after some updates
abbrev pub IsStandingAfter : List Row → List Update → Standing → Standing → Type 0
IsStandingAfter load us s t =
    (length t.flags ≡ length (came_to load t)) × (live_among load t ≡ fold rows_then (live_among load s) us)

-- the rows after one update more, and which of them are live
pub record IsNextStanding (load : List Row) (u : Update) (s t : Standing) : Type 0 where
  pub standing : IsStandingOf load t
  pub came : came_to load t ≡ came_then (came_to load s) u
  pub live : live_among load t ≡ rows_then (live_among load s) u
