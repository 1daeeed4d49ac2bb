-- Texts that came lately, with their codes.
use Rattle.std.specs.Prelude.{All, List, ℕ}
use Rattle.sw_rows.specs.Slots.{IsTrueOf}
use Rattle.sw_rows.specs.declared.schema.recent.Recent.{Recent}

-- all slots have one of these texts with its code
abbrev pub AreTrueOf : List (List ℕ) → Recent → Type 0
AreTrueOf texts r = All (IsTrueOf texts) r.slots
