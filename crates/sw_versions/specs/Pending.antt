-- How the book's updates, those that are published, and those of the writer hang together.
use Rattle.std.specs.Prelude.{◌≡◌, ◌⊎◌, ◌<◌, ◌+◌, ◌-◌, ◌^◌, Bool, List, [], ◌∷◌, ◌++◌, drop, length, min, MatchBool, Option, Some, None, ℕ}
use mathlib.Core.List.{IsPrefix}
use Rattle.sw_rows.specs.Gives.{Raised}
use Rattle.sw_table.specs.declared.row.Update.{Update}
use Rattle.sw_versions.specs.Known.{Shelved, Written}
use Rattle.sw_versions.specs.Rules.{updates_in}
use Rattle.sw_versions.specs.declared.came.Came.{Came}
use Rattle.sw_versions.specs.declared.came.Came.TheVariants as came

-- all updates that the writer has
abbrev pub all_of : Written → List Update
all_of w = updates_in w.published ++ w.pending

-- without copies what is published is a number, that of all updates of the book
abbrev pub shelved : List (List Update) → Option Written → ℕ → Shelved
shelved booked None missed = record { booked = booked; published = booked; viewers = 0; missed = missed }
shelved booked (Some w) missed = record { booked = booked; published = w.published; viewers = w.viewers; missed = missed }

-- what the writer has begins what stands in the book, and so does what is published, batch by batch
abbrev pub IsShelved : List (List Update) → Option Written → Type 0
IsShelved booked None = Unit {0}
IsShelved booked (Some w) = IsPrefix (all_of w) (updates_in booked) × IsPrefix w.published booked

-- the book has what it had; or one batch more, of all updates that it lacked
abbrev pub HasBookedOr : List Update → List (List Update) → List (List Update) → Type 0
HasBookedOr updates old new = (new ≡ old) ⊎ (new ≡ old ++ drop (length (updates_in old)) updates ∷ [])

-- these batches are what was published; or all that stand in the book, which are all updates
abbrev pub AreOldOrAll : List Update → List (List Update) → List (List Update) → List (List Update) → Type 0
AreOldOrAll updates booked old published = (published ≡ old) ⊎ ((published ≡ booked) × (updates_in booked ≡ updates))

-- the same of what a shelf shows
abbrev pub HasShownOr : List Update → Shelved → Shelved → Type 0
HasShownOr updates old new = AreOldOrAll updates new.booked old.published new.published

-- the writer publishes these batches; or what it did, and counts that there was no memory for it
abbrev pub TellsPublished : Bool → List (List Update) → Written → Written → Type 0
TellsPublished told batches old new = MatchBool told
    (new.published ≡ batches)
    ((new.published ≡ old.published) × Raised old.failed new.failed)

-- the writer lacks updates: there was no memory for one of them, or the book lacks some
abbrev pub IsWanting : List Update → Written → Type 0
IsWanting updates w = length (all_of w) < length updates

-- What came of a publishing by the writer. Put off, it has all updates, and nothing changed; missed, it lacks some, or counts that
-- there was no memory to publish them.
abbrev pub CameOf : Came → List (List Update) → List Update → Written → Written → Type 0
CameOf came.Shown booked updates old new = (new.published ≡ booked) × (updates_in booked ≡ updates)
CameOf came.PutOff booked updates old new = (updates_in booked ≡ updates) × (all_of old ≡ updates) × (new ≡ old)
CameOf came.Missed booked updates old new = (new.published ≡ old.published) × (IsWanting updates new ⊎ Raised old.failed new.failed)

-- a count goes up by one, and no further than the greatest number of its type
abbrev pub IsOneMore : ℕ → ℕ → Type 0
IsOneMore old new = new ≡ min (old + 1) (2 ^ 64 - 1)

-- what came of a publishing by the shelf: all is published; or nothing more is, though all updates stand in the book; or nothing
-- more is, which is counted
abbrev pub TellsCame : Came → List Update → Shelved → Shelved → Type 0
TellsCame came.Shown updates old new =
    (new.published ≡ new.booked) × (updates_in new.booked ≡ updates) × (new.missed ≡ old.missed)
TellsCame came.PutOff updates old new =
    (new.published ≡ old.published) × (updates_in new.booked ≡ updates) × (new.missed ≡ old.missed)
TellsCame came.Missed updates old new = (new.published ≡ old.published) × IsOneMore old.missed new.missed
