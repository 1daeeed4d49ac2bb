-- The rule of the book, and what its steps tell.
use Rattle.std.specs.Prelude.{ℕ, ◌≡◌, ◌==◌, ◌<◌, ◌≤◌, ◌^◌, true, List, [], ◌∷◌, ◌++◌, length, MatchBool}
use Rattle.std.specs.List.{flat_map}
use Rattle.logbook.specs.Pages.{Book, Cell, Named, Step, View}
use Rattle.sw_table.specs.declared.row.Update.{Update}

-- the updates of batches, one after the other; a batch is the updates that one step added to the book
abbrev pub updates_in : List (List Update) → List Update
updates_in batches = flat_map (λ us. us) batches

-- no batch is empty
abbrev pub AreFilled : List (List Update) → Type 0
AreFilled [] = Unit {0}
AreFilled (us ∷ batches) = (0 < length us) × AreFilled batches

-- there are few enough updates that their numbers can be added
abbrev pub IsShort : List Update → Type 0
IsShort us = length us ≤ 2 ^ 62

-- the first word is the number of updates; a book has two words, of which the second stays 0
pub record IsKept (cells : List Cell) (log : List (List Update)) : Type 0 where
  pub words : cells ≡ (length (updates_in log), true) ∷ (0, true) ∷ []
  pub short : IsShort (updates_in log)
  pub filled : AreFilled log

abbrev pub head_of : Book → Named
head_of b = record { tracked = true; key = 0; book = b }

-- the updates were added, as one batch, to all that had been seen; or there were more, and they were seen
abbrev pub Adds : Step (List Update) → View (List Update) ℕ → ℕ → View (List Update) ℕ → Type 0
Adds s v found w =
    IsShort (updates_in w.0) × AreFilled w.0
    × MatchBool (found == s.old) (w.0 ≡ v.0 ++ s.ask ∷ []) (length (updates_in w.0) ≡ found)
