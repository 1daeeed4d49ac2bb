-- Records that are being made, field after field and row after row.
use Rattle.std.proofs.Common.{◌≡◌, ◌∙◌, ap, sym, refl, subst, ◌≢◌, ℕ, List, [], ◌∷◌, ◌++◌, length, map, ℤ, Option, Some, None, OnOk, Result, Ok, Err, append_assoc, append-nil, arith}
use Rattle.std.specs.Global.{Vec}
use Rattle.std.specs.declared.alloc.AllocError.{AllocError}
use Rattle.std.specs.Io.KnownBytes.{Appends, Keeps}
use Rattle.csv.specs.Writing.{default_writer, row_text, text_written, writer_setup}
use Rattle.csv.specs.declared.writer.QuoteStyle.TheVariants as style
use Rattle.csv.specs.declared.writer.Writer.{Writer}
use Rattle.csv.specs.declared.writer.WriterBuilder.{WriterBuilder}
use Rattle.sw_rows.specs.Domains.{Domain}
use Rattle.sw_outputs.specs.Fields.{cell_field, cell_fields}
use Rattle.sw_outputs.specs.Records.{IsMade}
use Rattle.sw_outputs.specs.declared.records.Records.{Records}

-- the fields of a record
abbrev pub Fields : Type 0
Fields = List (List ℕ)

-- what a writer over memory holds
abbrev pub Held : Vec ℕ → Option (List ℕ)
Held w = Some w.items

appended : (a b : Option (List ℕ)) (xs bs : List ℕ) → a ≡ Some xs → Appends a b bs → b ≡ Some (xs ++ bs)
appended a None xs bs e h = absurd (rw e at h)
appended a (Some ys) xs bs e h = ap Some (rw e at h)

-- bytes that are kept are those that were known
pub kept : (a : Option (List ℕ)) (xs ys : List ℕ) → a ≡ Some xs → Keeps a (Some ys) → ys ≡ xs
kept a xs ys e h = rw e at h

-- the default writer is not one that quotes all fields but numbers
pub not_numeric : (s : WriterBuilder) → s ≡ default_writer → s.style ≢ style.NonNumeric
not_numeric s e k = differ (sym (ap (λ (b : WriterBuilder). b.style) e) ∙ k)
  where
    differ : style.Necessary ≡ style.NonNumeric → ⊥
    differ k = cc

-- one record was written
pub written_row : (w v : Writer (Vec ℕ)) (bytes : List ℕ) (fields row : Fields) → writer_setup w ≡ default_writer → text_written Held w ≡ Some bytes → row ≡ fields
    → Appends (text_written Held w) (text_written Held v) (row_text (writer_setup w) row) → text_written Held v ≡ Some (bytes ++ row_text default_writer fields)
written_row w v bytes fields row setup held same h =
    appended (text_written Held w) (text_written Held v) bytes (row_text (writer_setup w) row) held h
    ∙ ap (λ (s : WriterBuilder). Some (bytes ++ row_text s row)) setup ∙ ap (λ fs. Some (bytes ++ row_text default_writer fs)) same

-- the fields so far, and those that are left, are the fields at the start and all that are to come
pub record Stands (now : Records) (bytes : List ℕ) (fields all left : Fields) : Type 0 where
  pub done : Fields
  pub made : IsMade now bytes done
  pub whole : done ++ left ≡ fields ++ all

-- whatever was written before: of all these fields, since the start, those are left
abbrev pub GoesOn : Records → Records → Fields → Fields → Type 0
GoesOn start now all left = (bytes : List ℕ) (fields : Fields) → IsMade start bytes fields → Stands now bytes fields all left

-- at the start all of them are left
pub begins : (r : Records) (all : Fields) → GoesOn r r all all
begins r all bytes fields m = record { done = fields; made = m; whole = refl }

-- one field more
pub more : (start now next : Records) (all left later : Fields) (field : List ℕ) → GoesOn start now all left → left ≡ field ∷ later
    → ((bytes : List ℕ) (fields : Fields) → IsMade now bytes fields → IsMade next bytes (fields ++ field ∷ [])) → GoesOn start next all later
more start now next all left later field g is add bytes fields m =
    let s = g bytes fields m in
    record {
      done = s.done ++ field ∷ [];
      made = add bytes s.done s.made;
      whole = append_assoc s.done (field ∷ []) later ∙ ap (λ l. s.done ++ l) (sym is) ∙ s.whole;
    }

-- no field is left, and the record ends
pub ends : (start now next : Records) (all left : Fields) → GoesOn start now all left → left ≡ []
    → ((bytes : List ℕ) (fields : Fields) → IsMade now bytes fields → IsMade next (bytes ++ row_text default_writer fields) [])
    → (bytes : List ℕ) (fields : Fields) → IsMade start bytes fields → IsMade next (bytes ++ row_text default_writer (fields ++ all)) []
ends start now next all left g none end bytes fields m =
    let s = g bytes fields m in
    let whole : s.done ≡ fields ++ all = sym (append-nil s.done) ∙ ap (λ l. s.done ++ l) (sym none) ∙ s.whole in
    subst (λ fs. IsMade next (bytes ++ row_text default_writer fs) []) whole (end bytes s.done s.made)

-- the same of a call that may be refused
pub ends_in : (start now next : Records) (all left : Fields) (r : Result (Unit {0}) AllocError) → GoesOn start now all left → left ≡ []
    → ((bytes : List ℕ) (fields : Fields) → IsMade now bytes fields → OnOk r (IsMade next (bytes ++ row_text default_writer fields) []))
    → (bytes : List ℕ) (fields : Fields) → IsMade start bytes fields → OnOk r (IsMade next (bytes ++ row_text default_writer (fields ++ all)) [])
ends_in start now next all left (Ok u) g none end = ends start now next all left g none end
ends_in start now next all left (Err e) g none end = λ bytes fields m. tt

-- the same of whole records
pub record Covers (now : Records) (bytes all left : List ℕ) : Type 0 where
  pub done : List ℕ
  pub made : IsMade now done []
  pub whole : done ++ left ≡ bytes ++ all

-- whatever was written before: of all these bytes of whole records, since the start, those are left
abbrev pub GoesOver : Records → Records → List ℕ → List ℕ → Type 0
GoesOver start now all left = (bytes : List ℕ) → IsMade start bytes [] → Covers now bytes all left

-- at the start all of them are left
pub sets_out : (r : Records) (all : List ℕ) → GoesOver r r all all
sets_out r all bytes m = record { done = bytes; made = m; whole = refl }

-- one record more
pub row_more : (start now next : Records) (all left later row : List ℕ) → GoesOver start now all left → left ≡ row ++ later
    → ((bytes : List ℕ) → IsMade now bytes [] → IsMade next (bytes ++ row) []) → GoesOver start next all later
row_more start now next all left later row g is add bytes m =
    let s = g bytes m in
    record {
      done = s.done ++ row;
      made = add s.done s.made;
      whole = append_assoc s.done row later ∙ ap (λ l. s.done ++ l) (sym is) ∙ s.whole;
    }

-- no byte is left: all of them are written
pub arrives : (start now : Records) (all left : List ℕ) → GoesOver start now all left → left ≡ []
    → (bytes : List ℕ) → IsMade start bytes [] → IsMade now (bytes ++ all) []
arrives start now all left g none bytes m =
    let s = g bytes m in
    subst (λ b. IsMade now b []) (sym (append-nil s.done) ∙ ap (λ l. s.done ++ l) (sym none) ∙ s.whole) s.made

-- a list of no items is empty
pub none_left : {A : Type 0} (xs : List A) → length xs ≡ 0 → xs ≡ []
none_left [] h = refl
none_left (x ∷ xs) h = absurd (omega (arith, h))

-- ---- cells of rows

-- the first field of a row is that of its first cell, and the others are those of the others
pub cells_first : (f : ℕ → Domain) (a : ℕ) (later all : List ℕ) (z : ℤ) (after cells : List ℤ) → all ≡ a ∷ later → cells ≡ z ∷ after
    → cell_fields (map f all) cells ≡ cell_field (f a) z ∷ cell_fields (map f later) after
cells_first f a later all z after cells e h = rw (e, h) refl

-- without attributes to show there is no field
pub no_attrs : (f : ℕ → Domain) (attrs : List ℕ) (cells : List ℤ) → attrs ≡ [] → cell_fields (map f attrs) cells ≡ []
no_attrs f attrs cells e = rw e refl

-- without cells there is no field
pub no_cells : (f : ℕ → Domain) (attrs : List ℕ) (cells : List ℤ) → cells ≡ [] → cell_fields (map f attrs) cells ≡ []
no_cells f attrs cells e = rw e (none attrs)
  where
    none : (as_shown : List ℕ) → cell_fields (map f as_shown) [] ≡ []
    none [] = refl
    none (a ∷ later) = refl
