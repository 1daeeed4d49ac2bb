-- Comma-separated values that are being written.
use Rattle.std.specs.Prelude.{◌≡◌, ◌++◌, ℕ, false, List}
use Rattle.std.specs.Global.{Vec}
use Rattle.std.specs.List.{flat_map}
use Rattle.csv.specs.declared.writer.Writer.{Writer}
use Rattle.csv.specs.Writing.{default_writer, fields_written, has_written, row_text, writer_pending, writer_setup, writer_under}

-- what a writer over memory has written
abbrev pub text_in : Writer (Vec ℕ) → List ℕ
text_in w = (writer_under w).items ++ writer_pending w

-- a writer with csv's defaults that stands between two records
pub record IsBetween (w : Writer (Vec ℕ)) : Type 0 where
  pub plain : writer_setup w ≡ default_writer
  pub none : fields_written w ≡ 0
  pub blank : has_written w ≡ false

-- a record as csv writes it
abbrev pub record_text : List (List ℕ) → List ℕ
record_text fields = row_text default_writer fields

-- records, one after the other
abbrev pub text_of : List (List (List ℕ)) → List ℕ
text_of records = flat_map record_text records
