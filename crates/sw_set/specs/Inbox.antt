-- An inbox: the updates that wait to be merged, and the room for more.
use Rattle.std.specs.Prelude.{◌≡◌, ◌≤◌, ◌+◌, ℕ, List, [], ◌++◌, drop, length, Result, MatchResult}
use Rattle.sw_table.specs.declared.row.Update.{Update}
use Rattle.sw_query.specs.declared.refusal.Refusal.{Refusal}
use Rattle.sw_query.specs.Outcomes.{IsRefused}

-- the updates that wait, in the order in which they came, and how many more may come before they take memory
pub record Waiting : Type 0 where
  pub updates : List Update
  pub spare : ℕ

-- none, and no room
abbrev pub none_waiting : Waiting
none_waiting = record { updates = []; spare = 0 }

-- all but the first of them, which leave their room
abbrev pub without_first : ℕ → Waiting → Waiting
without_first many w = record { updates = drop many w.updates; spare = w.spare + many }

-- none are left, and they leave their room
abbrev pub emptied : Waiting → Waiting
emptied w = record { updates = []; spare = w.spare + length w.updates }

-- more came behind them, and no more room is gone than these take
abbrev pub HaveCome : List Update → Waiting → Waiting → Type 0
HaveCome us w v = (v.updates ≡ w.updates ++ us) × (w.spare ≤ v.spare + length us)

-- they did; or there was no memory, and nothing has changed
abbrev pub HaveComeOr : {A : Type 0} → Result A Refusal → List Update → Waiting → Waiting → Type 0
HaveComeOr r us w v = MatchResult r (λ _. HaveCome us w v) (IsRefused w v)
