-- A table of rows that come at its end, by rising keys, and go by their keys.
use Rattle.std.specs.Prelude.{◌≡◌, ◌≤◌, ◌<◌, ◌++◌, ℕ, Bool, true, List, [], ◌∷◌, filter, length, not, replicate}
use Rattle.std.specs.List.{AllByRecursion}
use Rattle.sw_table.specs.Kept.{kept}
use Rattle.sw_table.specs.declared.row.Row.{Row}

abbrev pub key_of : Row → ℕ
key_of r = r.key

-- strictly rising by a number
abbrev pub Rises : {X : Type 0} → (X → ℕ) → List X → Type 0
Rises k [] = Unit {0}
Rises k (x ∷ xs) = AllByRecursion (λ y. k x < k y) xs × Rises k xs

-- The rows that came to a table and are still held, whether each is live, and a key that no row was ever above.
pub record Living : Type 0 where
  pub top : ℕ
  pub came : List Row
  pub live : List Bool

-- the rows of a table
abbrev pub live_rows : Living → List Row
live_rows t = kept t.live t.came

-- there is a flag for each row that came, and so many of them are false
pub record IsStanding (top : ℕ) (came : List Row) (live : List Bool) (dead : ℕ) : Type 0 where
  pub many : length live ≡ length came
  pub rise : Rises key_of came
  pub below : AllByRecursion (λ (r : Row). r.key ≤ top) came
  pub gone : dead ≡ length (filter not live)

-- the keys rise, from above n
abbrev pub RisesFrom : ℕ → List Row → Type 0
RisesFrom n [] = Unit {0}
RisesFrom n (r ∷ rs) = (n < r.key) × RisesFrom r.key rs

-- the key of the last row, n for none
abbrev pub last_key : ℕ → List Row → ℕ
last_key n [] = n
last_key n (r ∷ rs) = last_key r.key rs

-- the table of these rows, all of them live
abbrev pub all_live : List Row → Living
all_live rows = record { top = last_key 0 rows; came = rows; live = replicate (length rows) true }

-- the table after one more row, which is live
abbrev pub came_with : Row → Living → Living
came_with r t = record { top = r.key; came = t.came ++ r ∷ []; live = t.live ++ true ∷ [] }
