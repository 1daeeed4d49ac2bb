-- The kinds of attributes, those of texts with the texts for which their cells stand.
use Rattle.std.specs.Prelude.{◌≡◌, ◌≤◌, ℕ, Bool, true, false, List, [], map}
use Rattle.sw_rows.specs.Texts.{AreTexts}
use Rattle.sw_rows.specs.declared.kind.Kind.{Kind}
use Rattle.sw_rows.specs.declared.kind.Kind.TheVariants as word

-- whole numbers, numbers with so many decimals, flags, or texts, of which a cell is the code
pub data Domain : Type 0 where
  Int : Domain
  Fix : ℕ → Domain
  Flag : Domain
  Text : List (List ℕ) → Domain

-- the domain of a kind, over some texts
abbrev pub domain : List (List ℕ) → Kind → Domain
domain texts word.Int = Int
domain texts (word.Fix places) = Fix places
domain texts word.Flag = Flag
domain texts word.Text = Text texts

-- the kind of a domain, without texts
abbrev pub kind_in : Domain → Kind
kind_in Int = word.Int
kind_in (Fix places) = word.Fix places
kind_in Flag = word.Flag
kind_in (Text texts) = word.Text

-- a domain over these texts in place of its own
abbrev pub over : List (List ℕ) → Domain → Domain
over texts d = domain texts (kind_in d)

-- the same of each domain
abbrev pub under : List (List ℕ) → List Domain → List Domain
under texts ds = map (over texts) ds

abbrev pub is_of_texts : Domain → Bool
is_of_texts Int = false
is_of_texts (Fix places) = false
is_of_texts Flag = false
is_of_texts (Text texts) = true

-- decimals are one to six, and texts are texts of cells, few of them, which differ
abbrev pub IsDomain : Domain → Type 0
IsDomain Int = Unit {0}
IsDomain (Fix places) = (1 ≤ places) × (places ≤ 6)
IsDomain Flag = Unit {0}
IsDomain (Text texts) = AreTexts texts

-- a domain that knows no text yet
abbrev pub IsFresh : Domain → Type 0
IsFresh Int = Unit {0}
IsFresh (Fix places) = (1 ≤ places) × (places ≤ 6)
IsFresh Flag = Unit {0}
IsFresh (Text texts) = texts ≡ []

-- a domain whose texts, if it has any, are these
abbrev pub IsOver : List (List ℕ) → Domain → Type 0
IsOver texts Int = Unit {0}
IsOver texts (Fix places) = Unit {0}
IsOver texts Flag = Unit {0}
IsOver texts (Text own) = own ≡ texts
