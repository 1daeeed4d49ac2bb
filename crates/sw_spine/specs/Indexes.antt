-- Places of rows by their cells.
use Rattle.std.specs.Prelude.{◌≡◌, ◌≤◌, ◌<◌, ◌≤ℤ◌, ◌+◌, ◌++◌, ℕ, ℤ, List, [], ◌∷◌, Option, None, IfSome, IsPermutation, if◌then◌else◌, length, slice_index_or}
use Rattle.std.specs.List.{AllByRecursion}
use Rattle.sw_query.specs.Bounds.{is_within}
use Rattle.sw_query.specs.Scan.{column, matching}
use Rattle.sw_query.specs.declared.bound.Bound.{Bound}
use Rattle.sw_query.specs.declared.query.Cond.{Cond}
use Rattle.sw_table.specs.Kept.{kept}
use Rattle.sw_table.specs.Live.{Living, live_rows}
use Rattle.sw_table.specs.declared.row.Row.{Row}
use Rattle.sw_spine.specs.Listed.{flags_at, listed, rows_at}

-- cells with the places n, n + 1, n + 2 and so on
abbrev pub placed : ℕ → List ℤ → List (ℤ × ℕ)
placed n [] = []
placed n (z ∷ zs) = (z, n) ∷ placed (n + 1) zs

-- the places, from n on, of the cells that are within two bounds
abbrev pub places_within : Option Bound → Option Bound → ℕ → List ℤ → List ℕ
places_within lower upper n [] = []
places_within lower upper n (z ∷ zs) =
    if is_within lower upper z then n ∷ places_within lower upper (n + 1) zs else places_within lower upper (n + 1) zs

-- no cell comes after a greater one
abbrev pub CellsRise : List (ℤ × ℕ) → Type 0
CellsRise ps =
    (i j : ℕ) (d : ℤ × ℕ) → i ≤ j → j < length ps → (slice_index_or ps i d).0 ≤ℤ (slice_index_or ps j d).0

-- the pairs are cells with their places, in some order
abbrev pub IsIndexOf : List ℤ → List (ℤ × ℕ) → Type 0
IsIndexOf zs ps = IsPermutation (placed 0 zs) ps

-- whatever cells the pairs are of, these are the places of those within two bounds
abbrev pub PlacesOf : List (ℤ × ℕ) → Option Bound → Option Bound → List ℕ → Type 0
PlacesOf ps lower upper found = (zs : List ℤ) → IsIndexOf zs ps → found ≡ places_within lower upper 0 zs

-- the pairs are the first cells of an attribute of rows
pub record IsIndexOfFirst (attr : ℕ) (rows : List Row) (ps : List (ℤ × ℕ)) : Type 0 where
  pub cells : List ℤ
  pub rest : List ℤ
  pub first : column attr rows ≡ cells ++ rest
  pub all : IsIndexOf cells ps

-- what there is of each attribute is an index of its first cells
abbrev pub AreIndexes : List Row → List (Option (List (ℤ × ℕ))) → Type 0
AreIndexes rows ixs = (a : ℕ) → a < length ixs → IfSome (slice_index_or ixs a None) (IsIndexOfFirst a rows)

-- listed places are those of n rows
pub record IsInside (n : ℕ) (some : List ℕ) (from : ℕ) : Type 0 where
  pub short : from ≤ n
  pub inside : AllByRecursion (λ p. p < n) (listed some from n)

-- a pass over listed places meets each live row that meets all of some conditions
pub record MeetsMatching (conds : List Cond) (t : Living) (some : List ℕ) (from : ℕ) : Type 0 where
  pub inside : IsInside (length t.came) some from
  pub met : (ps : List ℕ) → ps ≡ listed some from (length t.came)
      → matching conds (kept (flags_at ps t.live) (rows_at ps t.came)) ≡ matching conds (live_rows t)
