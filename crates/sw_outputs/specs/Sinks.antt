-- Texts that are made in memory before they go out.
use Rattle.std.specs.Prelude.{◌≡◌, ◌⊎◌, ℕ, List, Option, Result, Err}
use Rattle.sw_query.specs.declared.refusal.Refusal.{Refusal}
use Rattle.sw_query.specs.declared.refusal.Refusal.TheVariants as refusal
use Rattle.sw_lang.specs.Sinks.{Writes}

-- for want of memory nothing was written; else the text was written as `Writes` says
abbrev pub WritesMade : Option (List ℕ) → Option (List ℕ) → ℕ → ℕ → Result (Unit {0}) Refusal → List ℕ → Type 0
WritesMade old new failed_old failed_new result text =
    ((result ≡ Err refusal.NoMemory) × (new ≡ old) × (failed_new ≡ failed_old))
    ⊎ Writes old new failed_old failed_new result text

-- the same of a sink, by what it has taken and how often it failed, between two moments
abbrev pub WroteMade : {W : Type 0} → (W → Option (List ℕ)) → (W → ℕ) → W → W → Result (Unit {0}) Refusal → List ℕ → Type 0
WroteMade taken failed old new result text = WritesMade (taken old) (taken new) (failed old) (failed new) result text
