-- What a `Book` and a `Share` hold.
-- A book is a chain of cells that starts at its name. Each cell names one row and the next cell, for good.
-- The book has the chain, with one half of each row, and a share the other half of its row.
-- A row at a value is given back when both halves are at the empty content, and the share's half is gone.
use Rattle.std.specs.Prelude.{ℕ, zero, suc, Bool, true, false, List, [], ◌∷◌}
use base.Stored.{Gv, gnil, gnum, gcons}
use base.Fml.{Fml, fsep, fex, fobs, fauth, fres}

-- a cell's row and next cell
unfoldable pub pair : ℕ × ℕ → Gv
pair p = gcons (gnum p.0) (gnum p.1)

-- the cell γ names the row c .0, which is at x, and the cell c .1, at which the rest begins
abbrev pub cell : ℕ → Gv → (ℕ → Fml) → ℕ × ℕ → Fml
cell γ x rest c = fsep (fauth γ (pair c)) (fsep (fres γ (pair c)) (fsep (fauth c.0 x) (rest c.1)))

-- the chain from γ has these rows, and its last cell is still open
abbrev pub chain : List Gv → ℕ → Fml
chain [] γ = fsep (fobs γ gnil) (fauth γ gnil)
chain (x ∷ xs) γ = fex (ℕ × ℕ) (cell γ x (chain xs))

-- what the cell γ names is known, and F holds of it
abbrev pub past : ℕ → (ℕ × ℕ → Fml) → ℕ × ℕ → Fml
past γ F c = fsep (fres γ (pair c)) (F c)

-- the holder's half of row i of the chain from γ, at x
abbrev pub row : ℕ → Gv → ℕ → Fml
row zero x γ = fex (ℕ × ℕ) (past γ (λ c. fobs c.0 x))
row (suc i) x γ = fex (ℕ × ℕ) (past γ (λ c. row i x c.1))

-- what a row is at: its value, or nothing once it is given back
abbrev pub content_at : Gv → Bool → Gv
content_at v false = gcons gnil v
content_at v true = gnil

module _ {A : Type 0} (c : A → Gv) where
  abbrev pub content : A × Bool → Gv
  content r = content_at (c r.0) r.1

  abbrev pub contents : List (A × Bool) → List Gv
  contents [] = []
  contents (r ∷ rs) = content r ∷ contents rs

  unfoldable pub book_owns : ℕ → List (A × Bool) → Fml
  book_owns name rows = chain (contents rows) name

  unfoldable pub share_owns : ℕ → ℕ → A → Fml
  share_owns name number value = row number (content (value, false)) name
