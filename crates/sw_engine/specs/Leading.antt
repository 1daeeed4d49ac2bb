-- A query with another attribute as its head.
use Rattle.std.specs.Prelude.{ℕ, ◌∷◌, None}
use Rattle.sw_query.specs.declared.query.Query.{Query}

-- one condition more, put first, which every row meets
abbrev pub led_by : ℕ → Query → Query
led_by a q = record q { conds = record { attr = a; lower = None; upper = None } ∷ q.conds }
