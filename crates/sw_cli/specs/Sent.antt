-- What a sink has taken since a time.
use Rattle.std.specs.Prelude.{ℕ, Bool, true, false, List, [], bytes_eq, drop, length, take, Option, Some, None, Result}
use Rattle.std.specs.Io.KnownBytes.{Keeps, append_known}
use Rattle.sw_query.specs.declared.refusal.Refusal.{Refusal}
use Rattle.sw_lang.specs.Sinks.{Writes}
use Rattle.sw_cli.specs.Sides.{SinkSeen}

-- whether bytes that were taken come after those that were taken before, where these are known
abbrev pub extends : Option (List ℕ) → Option (List ℕ) → Bool
extends None new = true
extends (Some before) None = false
extends (Some before) (Some bytes) = bytes_eq (take (length before) bytes) before

-- the bytes that a sink took, where they are known, and then those of a block that it was not sent
abbrev pub with_waiting : Option (List ℕ) → ℕ → List ℕ → Option (List ℕ)
with_waiting taken sent block = append_known taken (drop sent block)

-- What was written into an empty block, after which the sink is this one, goes out of the block: all of it where all was
-- written and the sink does not fail, or a beginning.
abbrev pub GoesOut :
    Option (List ℕ) → ℕ → List ℕ → SinkSeen → Result (Unit {0}) Refusal → Result (Unit {0}) Refusal → Type 0
GoesOut base sent block w written result =
    (failed : ℕ) (text : List ℕ)
    → Writes (append_known base []) (with_waiting w.taken_before sent block) failed w.failed_before written text
    → Writes base w.taken_after failed w.failed_after result text

-- from one moment to another the bytes stay, where they are known
abbrev pub KeepsBy : {B : Type 0} → B → B → (B → Option (List ℕ)) → Type 0
KeepsBy old new bytes = Keeps (bytes old) (bytes new)
