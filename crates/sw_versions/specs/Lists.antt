-- Lists of batches of updates as they grow, and the rows that they leave.
use Rattle.std.specs.Prelude.{◌≡◌, ◌⊎◌, ◌<◌, ◌≤◌, ◌+◌, ◌++◌, ℕ, Bool, List, MatchBool, drop, fold, length, take}
use mathlib.Core.List.{IsPrefix}
use Rattle.logbook.specs.Pages.{Book}
use Rattle.sw_table.specs.Updates.{rows_then}
use Rattle.sw_table.specs.declared.row.Row.{Row}
use Rattle.sw_table.specs.declared.row.Update.{Update}
use Rattle.sw_versions.specs.Rules.{updates_in}

-- a beginning of a list, and the book that has the list
pub record Listed : Type 0 where
  pub book : Book
  pub batches : List (List Update)

-- the rows that updates leave of the opening rows
abbrev pub rows_after : List Row → List Update → List Row
rows_after opening us = fold rows_then opening us

-- one list of batches begins the other; or else the other, which has fewer updates, begins it
abbrev pub BeginsOr : Bool → List (List Update) → List (List Update) → Type 0
BeginsOr begins one other =
    MatchBool begins (IsPrefix one other) (IsPrefix other one × (length (updates_in other) < length (updates_in one)))

-- one of two lists, which both of them begin
pub record IsLonger {A : Type 0} (one other longer : List A) : Type 0 where
  pub either : (longer ≡ one) ⊎ (longer ≡ other)
  pub begins : IsPrefix one longer
  pub other_begins : IsPrefix other longer

-- the updates that both tables of a draft have, and those that were taken to be made next
pub record Drafted : Type 0 where
  pub made : List Update
  pub next : List Update

-- a draft that lacks more than so many of these updates has the next so many taken; another one is as it was
abbrev pub TakesNext : ℕ → List Update → Drafted → Drafted → Bool → Type 0
TakesNext most us old new more =
    MatchBool more
    ((length old.made + most < length us) × (new ≡ record old { next = take most (drop (length old.made) us) }))
    ((length us ≤ length old.made + most) × (new ≡ old))

-- two tables have these rows, which the first so many of these updates leave of the opening rows, and other updates come next
pub record AreDrafted (opening one other : List Row) (us : List Update) (made : ℕ) (more : List Update) : Type 0 where
  pub first : one ≡ rows_after opening (take made us)
  pub second : other ≡ rows_after opening (take made us)
  pub within : made ≤ length us
  pub next : IsPrefix (take made us ++ more) us
