-- A head that gives out the keys of its rows: what is kept of them, and what its calls leave.
use Rattle.std.specs.Prelude.{◌≡◌, ◌<◌, ◌⊎◌, ◌∷◌, [], ℕ, ℤ, Bool, false, List, cond, get_or, length, take, All}
use Rattle.sw_query.specs.declared.refusal.Refusal.{Refusal}
use Rattle.sw_query.specs.declared.refusal.Refusal.TheVariants.{Input, NoMemory}
use Rattle.sw_rows.specs.declared.table.TheConstants.{MOST_ROWS}
use Rattle.sw_table.specs.declared.row.Row.{Row}
use Rattle.sw_table.specs.declared.row.Update.{Update}
use Rattle.sw_table.specs.declared.row.Update.TheVariants.{Insert, Remove}
use Rattle.sw_table.specs.Updates.{has_key, rows_of}
use Rattle.sw_chunks.specs.Heads.{HasReceived, HeadState, opened}
use Rattle.sw_chunks.specs.Routing.{given_by}
use Rattle.test_areas.specs.Opening.{numbered, row_of}

-- Each key that came is below how many stand here, and beside each stands whether its row is live.
pub record AreLive (us : List Update) (live : List Bool) : Type 0 where
  pub came : All (λ (r : Row). r.key < length live) (given_by us)
  pub beside : (key : ℕ) → has_key key (rows_of us) ≡ get_or live key false

-- a head over the rows of these cells, of the first MOST_ROWS alone
abbrev pub opened_over : ℕ → List ℤ → List (List ℤ) → HeadState
opened_over a cuts cells = opened a cuts (numbered (take MOST_ROWS cells))

-- a row has come by a key
abbrev pub HasCome : ℕ → List ℤ → HeadState → HeadState → Type 0
HasCome key cells g h = HasReceived (Insert (row_of (key, cells)) ∷ []) g h

-- the row of a key has gone, where there was one
abbrev pub HasGone : ℕ → Bool → HeadState → HeadState → Type 0
HasGone key gone g h = (gone ≡ has_key key (rows_of g.updates)) × cond gone (HasReceived (Remove key ∷ []) g h) (h ≡ g)

abbrev pub IsMemoryOrInput : Refusal → Type 0
IsMemoryOrInput e = (e ≡ NoMemory) ⊎ (e ≡ Input)
