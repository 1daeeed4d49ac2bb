-- What is wrong with a table.
use Rattle.std.specs.Prelude.{ℕ}

-- a field of a record, the header being record 0 and fields counting from 1, or a limit
pub data Fault : Type 0 where
  bad_table : ℕ → ℕ → Fault
  too_many : ℕ → Fault
