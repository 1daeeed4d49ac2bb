-- What went through a console.
use Rattle.std.specs.Prelude.{ℕ, List, Option}

-- the bytes that a reader has left, and those that a sink has taken, where they are known
pub record Traffic : Type 0 where
  pub left : Option (List ℕ)
  pub taken : Option (List ℕ)

abbrev pub traffic : Option (List ℕ) → Option (List ℕ) → Traffic
traffic left taken = record { left = left; taken = taken }
