-- What lies under the lock.
use Rattle.std.specs.Prelude.{ℕ, ◌≡◌, ◌+◌, List, length}
use Rattle.sw_table.specs.declared.row.Row.{Row}
use Rattle.sw_query.specs.declared.query.Call.{Call}
use Rattle.sw_spine.specs.Books.{with_published}
use Rattle.sw_versions.specs.Known.{Shelved}
use Rattle.sw_versions.specs.Rules.{updates_in}
use Rattle.sw_engine.specs.Desk.{DeskState}
use Rattle.sw_engine.specs.Published.{with_committed}

-- what it shows: the desk, and the shelf of what viewers read
pub record LockState : Type 0 where
  pub desk : DeskState
  pub shelf : Shelved

-- the spine has the number of the updates that are published, and nothing else of it changed
abbrev pub IsPublished : List Row → LockState → LockState → Type 0
IsPublished opening old new =
    new.desk.books ≡ with_published (length opening + length (updates_in new.shelf.published)) old.desk.books

-- the session's call is answered at the end of the history, and the spine has the number of the updates that are published
abbrev pub IsCommitted : List Row → ℕ → Call → LockState → LockState → Type 0
IsCommitted opening session call old new =
    new.desk.books ≡ with_committed opening session call new.shelf old.desk.books
