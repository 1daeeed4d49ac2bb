-- The records of the beginning of a text, against those of the whole.
use Rattle.std.specs.Prelude.{◌≡◌, ◌++◌, ◌∷◌, ℕ, List, [], IfSome, Option}
use Rattle.sw_rows.specs.Gives.{Fails}
use Rattle.sw_rows.specs.Header.{Column}
use Rattle.sw_rows.specs.Tables.{table_seeing}
use Rattle.sw_query.specs.declared.refusal.Refusal.{Refusal}

abbrev Fields : Type 0
Fields = List (List ℕ)

abbrev Records : Type 0
Records = List Fields

-- a record, and one that goes on in its last field and perhaps with further ones
abbrev pub GoesOn : Fields → Fields → Type 0
GoesOn r t = (fs : Fields) × (f : List ℕ) × (g : List ℕ) × (gs : Fields) × (r ≡ fs ++ f ∷ []) × (t ≡ fs ++ g ∷ gs)

-- the records of a beginning, of which the last may go on
abbrev pub Begins : Records → Records → Type 0
Begins [] ts = Unit {0}
Begins (r ∷ []) [] = ⊥
Begins (r ∷ s ∷ rs) [] = ⊥
Begins (r ∷ []) (t ∷ ts) = GoesOn r t
Begins (r ∷ s ∷ rs) (t ∷ ts) = (r ≡ t) × Begins (s ∷ rs) ts

-- a refusal, if there is one, is that of each table of these attributes whose records begin so
abbrev pub RefusesAll : List Column → Records → Option Refusal → Type 0
RefusesAll columns front refused =
    (all : Records) → Begins front all → IfSome refused (λ e. Fails ⊥ e (table_seeing columns all))
