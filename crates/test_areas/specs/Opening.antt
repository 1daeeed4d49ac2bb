-- Rows by their numbers, and the area that is opened over rows.
use Rattle.std.specs.Prelude.{◌≡◌, ◌+◌, ◌++◌, ◌&&◌, ℕ, ℤ, Bool, cond, true, nat_lt, List, [], ◌∷◌, map, min, replicate, MatchOption, MatchResult, Option, Result}
use Rattle.std.specs.List.{enumerate_from, list_all}
use Rattle.sw_table.specs.declared.row.Row.{Row}
use Rattle.sw_query.specs.declared.refusal.Refusal.{Refusal}
use Rattle.sw_query.specs.declared.refusal.Refusal.TheVariants.{Input, NoMemory}
use Rattle.sw_query.specs.Outcomes.{IsRefused}
use Rattle.sw_kernel.specs.Replay.{loaded}
use Rattle.sw_map.specs.Held.{blank}
use Rattle.sw_set.specs.Shelf.{AreaState, lies_within}

-- the row of a number and cells
abbrev pub row_of : ℕ × List ℤ → Row
row_of p = record { key = p.0; cells = p.1 }

-- rows of these cells by the keys 1, 2, 3 and so on
abbrev pub numbered : List (List ℤ) → List Row
numbered cells = map row_of (enumerate_from 1 cells)

-- whether an area of an attribute and an interval may have these rows
abbrev pub may_open : ℕ → Option ℤ → Option ℤ → List Row → Bool
may_open attribute from below rows = nat_lt attribute 8 && list_all (lies_within attribute from below) rows

-- The area of an attribute and an interval over rows: its tape is one load of them, no update waits, and of so many blank
-- boxes it has as many as it takes.
abbrev pub opened : ℕ → Option ℤ → Option ℤ → ℕ → List Row → ℕ → AreaState
opened attribute from below most rows many = record {
  attribute = attribute;
  from = from;
  below = below;
  inbox = [];
  spare = 0;
  tape = loaded rows ∷ [];
  boxes = replicate (min most many) blank;
}

-- an area was opened as its shape and rows have it, with so many boxes at hand
abbrev pub IsOpened : ℕ → Option ℤ → Option ℤ → ℕ → List Row → ℕ → AreaState → Type 0
IsOpened attribute from below most rows many area = (may_open attribute from below rows ≡ true) × (area ≡ opened attribute from below most rows many)

-- rows that may not stand in an area of the shape are refused `Input`, and others for want of memory
abbrev pub IsRefusedFor : ℕ → Option ℤ → Option ℤ → List Row → Refusal → Type 0
IsRefusedFor attribute from below rows e = e ≡ cond (may_open attribute from below rows) NoMemory Input

-- an area was opened as its shape and rows have it, or refused for them or for want of memory
abbrev pub IsOpenedOr : Result AreaState Refusal → ℕ → Option ℤ → Option ℤ → ℕ → List Row → ℕ → Type 0
IsOpenedOr r attribute from below most rows many =
    MatchResult r (IsOpened attribute from below most rows many) (IsRefusedFor attribute from below rows)

-- one item came behind the others; or there was no memory, and they are as they were
abbrev pub IsPushedOr : {A X : Type 0} → Result A Refusal → X → List X → List X → Type 0
IsPushedOr r it old new = MatchResult r (λ _. new ≡ old ++ it ∷ []) (IsRefused old new)

-- of so many one was taken, where there was one
abbrev pub TakesOneOf : {X : Type 0} → Option X → ℕ → ℕ → Type 0
TakesOneOf taken old new = MatchOption taken ((old ≡ 0) × (new ≡ 0)) (λ _. new + 1 ≡ old)
