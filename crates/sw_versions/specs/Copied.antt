-- A copy of the rows that readers take, and what is written to it.
use Rattle.std.specs.Prelude.{◌≡◌, List, [], ◌∷◌, fold, MatchResult, Result}
use Rattle.logbook.specs.Pages.{Book}
use Rattle.sw_table.specs.Updates.{rows_then}
use Rattle.sw_table.specs.declared.row.Row.{Row}
use Rattle.sw_table.specs.declared.row.Update.{Update}
use Rattle.sw_versions.specs.Lists.{Listed, rows_after}
use Rattle.sw_versions.specs.Rules.{updates_in}
use Rattle.sw_versions.specs.declared.op.Op.{Op}
use Rattle.sw_versions.specs.declared.op.Op.TheVariants as op

-- its rows, and the list that it says they are of
pub record Copied : Type 0 where
  pub rows : List Row
  pub list : Listed

-- the copy of a list of a book: the rows that its updates leave of the opening rows
abbrev pub copy_of : Book → List Row → List (List Update) → Copied
copy_of book opening batches = record {
  rows = rows_after opening (updates_in batches);
  list = record { book = book; batches = batches };
}

-- a copy is that of its own list, which is of this book
abbrev pub IsCopy : Book → List Row → Copied → Type 0
IsCopy book opening copy = copy ≡ copy_of book opening copy.list.batches

-- what an operation leaves
abbrev pub written : Copied → Op → Copied
written copy (op.Make update) = record copy { rows = rows_then copy.rows update }
written copy (op.Name list) = record copy { list = list }

-- the updates of operations
abbrev pub updates_of : List Op → List Update
updates_of [] = []
updates_of (op.Make update ∷ ops) = update ∷ updates_of ops
updates_of (op.Name list ∷ ops) = updates_of ops

-- both copies: the one that readers take, and the operations that are not made in it
pub record Paired : Type 0 where
  pub shown : Copied
  pub ops : List Op

-- readers take the copy in which all operations were made; or what they took, and nothing changed
abbrev pub HasPublishedOr : {A E : Type 0} → Paired → Paired → Result A E → Type 0
HasPublishedOr old new told =
    MatchResult told (λ _. (new.shown ≡ fold written old.shown old.ops) × (new.ops ≡ [])) (λ _. new ≡ old)

-- readers take this copy, and no operation is left; or what they took, and the same updates are
abbrev pub HasNamedOr : {A E : Type 0} → Paired → Paired → Copied → Result A E → Type 0
HasNamedOr old new copy told = MatchResult told
    (λ _. (new.shown ≡ copy) × (new.ops ≡ []))
    (λ _. (new.shown ≡ old.shown) × (updates_of new.ops ≡ updates_of old.ops))
