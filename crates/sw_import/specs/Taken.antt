-- A table that takes records in.
use Rattle.std.specs.Prelude.{◌≡◌, ◌+◌, ◌⊎◌, ◌<◌, ◌^◌, ◌∷◌, ◌++◌, if◌then◌else◌, ℕ, true, false, List, [], length, nat_eq, Option}
use Rattle.sw_import.specs.Imports.{AreWritten, has_fault, header_of, left_out_for, rows_by, rows_in, rows_made, told_for}
use Rattle.sw_import.specs.Made.{row_made, row_or, sources_of}
use Rattle.sw_import.specs.Pages.{text_of}
use Rattle.sw_import.specs.declared.importing.How.{How}
use Rattle.sw_import.specs.declared.importing.Values.{Values}
use Rattle.sw_import.specs.declared.planning.Planned.{Planned}
use Rattle.sw_import.specs.declared.writing.Done.{Done}
use Rattle.sw_import.specs.declared.writing.Maker.{Maker}
use Rattle.sw_import.specs.declared.writing.Most.{Most}
use Rattle.sw_import.specs.declared.writing.Table.{Table}

-- so many more are told as left out for the column at a place, where a word can tell so many
abbrev pub TellsMore : ℕ → ℕ → List Done → List Done → Type 0
TellsMore place more old new = told_for place old + more < 2 ^ 64 → told_for place new ≡ told_for place old + more

-- one more is told for the column at a place, and no more for another
abbrev pub TellsOneMore : ℕ → List Done → List Done → Type 0
TellsOneMore place old new =
    (length new ≡ length old)
    × ((i : ℕ) → i < length old → TellsMore i (if nat_eq place i then 1 else 0) old new)

-- what is made of a record: these fields, or no row where it is left out for the column at a place
abbrev pub MakesRow : Maker → List (List ℕ) → Option ℕ → List (List ℕ) → Type 0
MakesRow maker fields left_out made =
    row_made maker.rules.now (sources_of maker.plan.now) fields ≡ row_or left_out made

-- a table of its header alone
pub record IsBegun (plan : List Planned) (table : Table) : Type 0 where
  pub pages : table.pages ≡ text_of (header_of plan ∷ [])
  pub rows : table.rows ≡ 0
  pub wide : length table.done.items ≡ length plan
  pub none : (place : ℕ) → told_for place table.done.items ≡ 0

-- what records do to a table that takes them in, one by one
pub record TakesIn (maker : Maker) (records : List (List (List ℕ))) (old new : Table) : Type 0 where
  pub sound : has_fault maker.rules.now (sources_of maker.plan.now) records ≡ false
  pub pages : new.pages ≡ old.pages ++ text_of (rows_made maker.rules.now (sources_of maker.plan.now) records)
  pub rows : new.rows ≡ old.rows + length (rows_made maker.rules.now (sources_of maker.plan.now) records)
  pub wide : length new.done.items ≡ length old.done.items
  pub left_out : (place : ℕ) → place < length old.done.items → TellsMore place (left_out_for place maker.rules.now (sources_of maker.plan.now) records) old.done.items new.done.items

-- each of these records is taken in while a sample wants a row
abbrev pub AreWanted : Maker → Most → Table → List (List (List ℕ)) → Type 0
AreWanted maker most old taken =
    (n : ℕ) → n < length taken → most.is_sample ≡ true
    → old.rows + rows_by n maker.rules.now (sources_of maker.plan.now) taken < most.rows

-- what is left of records is taken in, or as much as a sample wants
pub record TakesRest (maker : Maker) (most : Most) (records : List (List (List ℕ))) (old new : Table) : Type 0 where
  pub taken : List (List (List ℕ))
  pub left : List (List (List ℕ))
  pub whole : records ≡ taken ++ left
  pub until : (left ≡ []) ⊎ ((most.is_sample ≡ true) × (new.rows ≡ most.rows))
  pub wanted : AreWanted maker most old taken
  pub takes : TakesIn maker taken old new

-- the rows of values
abbrev pub rows_of : Values → List (List (List ℕ))
rows_of values = rows_in values.has_header values.delimiter values.text.now

-- a table has all that these records make, as was chosen
abbrev pub IsTableOf : How → List Planned → List (List (List ℕ)) → Table → Type 0
IsTableOf how plan records table =
    AreWritten how.rules plan how.sample records table.pages table.rows table.done.items

-- the same where a word can tell how many they are
abbrev pub IsTableOfFew : How → List Planned → List (List (List ℕ)) → Table → Type 0
IsTableOfFew how plan records table = length records < 2 ^ 64 → IsTableOf how plan records table
