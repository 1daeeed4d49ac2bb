-- What stands when a log was read.
use Rattle.std.specs.Prelude.{◌≡◌, ◌++◌, ℕ, List}
use Rattle.sw_rows.specs.Header.{Column}
use Rattle.sw_lang.specs.Learning.{knowing}
use Rattle.sw_logs.specs.declared.logged.Logged.{Logged}

-- the attributes know the texts that they knew, and perhaps more; their names and kinds are the same
abbrev pub KnowsMore : List Column → List Column → Type 0
KnowsMore old new = (more : List (List ℕ)) × (new ≡ knowing more old)

-- the calls are those of before, and perhaps more behind them
abbrev pub HasMore : List Logged → List Logged → Type 0
HasMore old new = (more : List Logged) × (new ≡ old ++ more)
