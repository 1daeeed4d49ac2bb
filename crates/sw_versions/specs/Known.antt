-- What contracts see of a viewer, of the writer, and of what lies under the lock.
use Rattle.std.specs.Prelude.{List, [], ℕ}
use Rattle.sw_table.specs.declared.row.Update.{Update}

-- the list of batches that a viewer saw last, the one that it was told of, and how often it could not come to the copies
pub record Known : Type 0 where
  pub seen : List (List Update)
  pub told : List (List Update)
  pub failed : ℕ

-- a viewer that was just opened over a list
abbrev pub opened_over : List (List Update) → Known
opened_over list = record { seen = list; told = list; failed = 0 }

-- what the writer has: the batches that readers take, the updates that they do not see yet, how many viewers were ever opened,
-- and how often a publishing failed for want of memory
pub record Written : Type 0 where
  pub published : List (List Update)
  pub pending : List Update
  pub viewers : ℕ
  pub failed : ℕ

-- a writer that published these batches and has no more, with no viewer
abbrev pub wrote : List (List Update) → Written
wrote front = record { published = front; pending = []; viewers = 0; failed = 0 }

-- what a shelf shows: the batches that stand in the book, those that are published, how many viewers were ever opened, and
-- how often updates were left unpublished though no viewer stood in the way
pub record Shelved : Type 0 where
  pub booked : List (List Update)
  pub published : List (List Update)
  pub viewers : ℕ
  pub missed : ℕ
