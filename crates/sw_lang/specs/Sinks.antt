-- What goes out to a sink: the whole of a text, or a beginning of it.
use Rattle.std.specs.Prelude.{◌≡◌, ℕ, List, ◌++◌, Option, Result, OnOk, IfErr}
use Rattle.std.specs.Io.KnownBytes.{Appends}
use Rattle.sw_rows.specs.Gives.{Raised}
use Rattle.sw_query.specs.declared.refusal.Refusal.{Refusal}
use Rattle.sw_query.specs.declared.refusal.Refusal.TheVariants as refusal

-- the bytes taken before, where they are known, and then these
abbrev pub Took : Option (List ℕ) → Option (List ℕ) → List ℕ → Type 0
Took old new bytes = Appends old new bytes

-- the bytes taken before, and then a beginning of these
abbrev pub TookBeginning : Option (List ℕ) → Option (List ℕ) → List ℕ → Type 0
TookBeginning old new bytes = (front rest : List ℕ) × (bytes ≡ front ++ rest) × Took old new front

-- a writer wrote the text: all of it, and the count of failures stands; or it answers Output and nothing else, after a
-- beginning of the text, and the count was raised
pub record Writes (old new : Option (List ℕ)) (failed_old failed_new : ℕ) (result : Result (Unit {0}) Refusal)
    (text : List ℕ) : Type 0 where
  pub whole : OnOk result (Took old new text × (failed_new ≡ failed_old))
  pub part : IfErr result (λ e. (e ≡ refusal.Output) × TookBeginning old new text × Raised failed_old failed_new)

-- the same of a sink, by what it has taken and how often it failed, between two moments
abbrev pub Wrote : {W : Type 0} → (W → Option (List ℕ)) → (W → ℕ) → W → W → Result (Unit {0}) Refusal → List ℕ → Type 0
Wrote taken failed old new result text = Writes (taken old) (taken new) (failed old) (failed new) result text
