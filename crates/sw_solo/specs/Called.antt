-- What an engine for one visitor shows, and what a call makes of it.
use Rattle.std.specs.Prelude.{ℕ, ◌≡◌, ◌<◌, ◌++◌, List, [], ◌∷◌, None, length}
use Rattle.sw_rows.specs.Header.{Column}
use Rattle.sw_table.specs.declared.row.Row.{Row}
use Rattle.sw_query.specs.declared.query.Call.{Call}
use Rattle.sw_query.specs.declared.reply.Reply.{Reply}
use Rattle.sw_query.specs.declared.refusal.Refusal.{Refusal}
use Rattle.sw_query.specs.declared.refusal.Refusal.TheVariants as refusal
use Rattle.sw_spine.specs.Table.{reply_to}
use Rattle.sw_spine.specs.History.{History, entry, updates_of}
use Rattle.sw_spine.specs.Books.{Books, history_of, waits_for}
use Rattle.sw_spine.specs.declared.history.State.TheVariants as state
use Rattle.sw_spine.specs.declared.spine.TheConstants.{MOST_ENTRIES, MOST_SESSIONS}

-- the history so far, and how many sessions were opened, which have the numbers 1, 2, 3 and so on
pub record SoloState : Type 0 where
  pub history : History
  pub sessions : ℕ

abbrev pub solo_of : Books → SoloState
solo_of b = record { history = history_of b; sessions = b.sessions }

abbrev pub new_solo : List Column → List Row → ℕ → SoloState
new_solo columns rows limit = record { history = record { columns = columns; rows = rows; limit = limit; entries = [] }; sessions = 0 }

-- its attributes know other texts
abbrev pub with_columns : List Column → SoloState → SoloState
with_columns columns s = record s { history = record s.history { columns = columns } }

-- what the plain table replies at the history's end
abbrev pub reply_in : SoloState → Call → Reply
reply_in s c = reply_to s.history.limit (updates_of s.history) c

-- no session waits for an answer
abbrev pub AllRest : Books → Type 0
AllRest b = (k : ℕ) → waits_for k b ≡ None

-- the history with a call of a session at its end, answered with what one thread over a plain list of rows replies there
abbrev pub with_call : ℕ → Call → SoloState → SoloState
with_call session c s = record s {
  history = record s.history {
    entries = s.history.entries
        ++ entry session c (state.Answered (reply_in s c)) ∷ [];
  };
}

-- a call was answered: the reply is that of the plain table, and the history has just that call more
abbrev pub HasCalled : ℕ → Call → SoloState → SoloState → Reply → Type 0
HasCalled session c old new r =
    (r ≡ reply_in old c) × (new ≡ with_call session c old)

-- why a call is refused: no memory, or the history has its greatest length
abbrev pub RefusesCall : SoloState → Refusal → Type 0
RefusesCall s refusal.NoMemory = Unit {0}
RefusesCall s (refusal.HistoryFull entries) = (entries ≡ MOST_ENTRIES) × (length s.history.entries ≡ MOST_ENTRIES)
RefusesCall s other = ⊥

-- why a session is not opened: 1,024 were opened, or no memory with fewer
abbrev pub RefusesSession : SoloState → Refusal → Type 0
RefusesSession s refusal.NoMemory = s.sessions < MOST_SESSIONS
RefusesSession s (refusal.TooMany limit) = (limit ≡ MOST_SESSIONS) × (s.sessions ≡ MOST_SESSIONS)
RefusesSession s other = ⊥
