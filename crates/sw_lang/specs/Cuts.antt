-- Which texts cut heads at which values, apart from the reading from left to right.
use Rattle.std.specs.Prelude.{◌≡◌, ◌<◌, ◌≤◌, ◌==◌, ◌&&◌, ℕ, ℤ, Bool, true, List, [], ◌∷◌, ◌++◌, length, codes, int_lt, slice_get, slice_index_or, Some, All, if◌then◌else◌}
use Rattle.std.specs.List.{list_all}
use Rattle.sw_rows.specs.Header.{Column, names_of}
use Rattle.sw_lang.specs.declared.reading.cuts.TheConstants.{MOST_CUTS}
use Rattle.sw_lang.specs.Fits.{IsOfKind}
use Rattle.sw_lang.specs.Reading.{word_value}
use Rattle.sw_lang.specs.Replies.{kind_at}

-- for each attribute the values at which its head is cut
abbrev pub CutLists : Type 0
CutLists = List (List ℤ)

abbrev pub cuts_on : CutLists → ℕ → List ℤ
cuts_on cuts a = slice_index_or cuts a []

-- an attribute, and a value at which its head is cut
abbrev pub Cut : Type 0
Cut = ℕ × ℤ

-- the name of an attribute that is not of texts, '=', and a cell of its kind
pub record IsEntry (schema : List Column) (text : List ℕ) (cut : Cut) : Type 0 where
  pub name : List ℕ
  pub value : List ℕ
  pub text_is : text ≡ name ++ (codes "=" ++ value)
  pub named : slice_get (names_of schema) cut.0 ≡ Some name
  pub valued : word_value (kind_at schema cut.0) value ≡ Some cut.1

-- nothing, or one entry or more with ';' between
abbrev pub AreEntries : List Column → List ℕ → List Cut → Type 0
AreEntries schema text [] = text ≡ []
AreEntries schema text (c ∷ []) = IsEntry schema text c
AreEntries schema text (c ∷ d ∷ ds) =
    (entry rest : List ℕ) × (text ≡ entry ++ (codes ";" ++ rest))
    × IsEntry schema entry c × AreEntries schema rest (d ∷ ds)

-- the values of an attribute, in the order of the cuts
abbrev pub values_on : List Cut → ℕ → List ℤ
values_on [] a = []
values_on (c ∷ cs) a = if c.0 == a then c.1 ∷ values_on cs a else values_on cs a

-- each value stands below all that come after it
abbrev pub rises : List ℤ → Bool
rises [] = true
rises (z ∷ zs) = list_all (λ y. int_lt z y) zs && rises zs

-- at most 15 values, which rise
pub record AreCuts (values : List ℤ) : Type 0 where
  pub rise : rises values ≡ true
  pub few : length values ≤ MOST_CUTS

-- the cuts that a text of entries gives: for each attribute of the table the values that the entries write for it
pub record IsCuts (schema : List Column) (text : List ℕ) (cuts : CutLists) : Type 0 where
  pub entries : List Cut
  pub text_is : AreEntries schema text entries
  pub lists : length cuts ≡ length schema
  pub values : (a : ℕ) → a < length schema → cuts_on cuts a ≡ values_on entries a
  pub lawful : (a : ℕ) → a < length schema → AreCuts (cuts_on cuts a)

-- what holds of the cuts of each text: a list for each attribute, of cells of its kind, which rise, at most 15
pub record FitCuts (schema : List Column) (cuts : CutLists) : Type 0 where
  pub lists : length cuts ≡ length schema
  pub lawful : (a : ℕ) → a < length schema → AreCuts (cuts_on cuts a)
  pub kinds : (a : ℕ) → a < length schema → All (IsOfKind (kind_at schema a)) (cuts_on cuts a)
