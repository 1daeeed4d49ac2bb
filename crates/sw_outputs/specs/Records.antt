-- Records that are written to memory.
use Rattle.std.specs.Prelude.{◌≡◌, ℕ, false, List, [], Some, ◌++◌, ◌∷◌, OnOk, Result}
use Rattle.std.specs.Global.{Vec}
use Rattle.csv.specs.Records.{fields_of, partial_of}
use Rattle.csv.specs.Writing.{default_writer, fields_written, has_written, text_written, writer_setup, row_text}
use Rattle.sw_outputs.specs.declared.records.Records.{Records}

-- these bytes are written, and the record that is being made has these fields
pub record IsMade (r : Records) (bytes : List ℕ) (fields : List (List ℕ)) : Type 0 where
  pub setup : writer_setup r.writer ≡ default_writer
  pub none : fields_written r.writer ≡ 0
  pub fresh : has_written r.writer ≡ false
  pub bytes_are : text_written (λ (w : Vec ℕ). Some w.items) r.writer ≡ Some bytes
  pub fields_are : fields_of r.record ≡ fields
  pub no_part : partial_of r.record ≡ []

-- a field was added to the record that is being made, or that was refused
abbrev pub AddsField : {A E : Type 0} → Result A E → Records → Records → List ℕ → Type 0
AddsField result old new field = (bytes : List ℕ) (fields : List (List ℕ))
    → IsMade old bytes fields → OnOk result (IsMade new bytes (fields ++ field ∷ []))

-- the record was ended, as it was or with further fields
abbrev pub EndsRecord : {A E : Type 0} → Result A E → Records → Records → Type 0
EndsRecord result old new = (bytes : List ℕ) (fields : List (List ℕ))
    → IsMade old bytes fields → OnOk result (IsMade new (bytes ++ row_text default_writer fields) [])

abbrev pub EndsWith : {A E : Type 0} → Result A E → Records → Records → List (List ℕ) → Type 0
EndsWith result old new more = (bytes : List ℕ) (fields : List (List ℕ))
    → IsMade old bytes fields → OnOk result (IsMade new (bytes ++ row_text default_writer (fields ++ more)) [])

-- whole records were added, which are this text
abbrev pub AddsText : {A E : Type 0} → Result A E → Records → Records → List ℕ → Type 0
AddsText result old new text = (bytes : List ℕ) → IsMade old bytes [] → OnOk result (IsMade new (bytes ++ text) [])
