-- A session's own entries, and what a visit makes of them. The entries of others come and go between its visits.
use Rattle.std.specs.Prelude.{ℕ, ◌≡◌, ◌⊎◌, ◌+◌, ◌++◌, ◌==◌, if◌then◌else◌, true, List, [], ◌∷◌, drop, map, slice_get, Option, None, Some, MatchResult, Result}
use Rattle.sw_query.specs.declared.query.Query.{Query}
use Rattle.sw_query.specs.declared.query.Call.{Call}
use Rattle.sw_query.specs.declared.query.Call.TheVariants as call
use Rattle.sw_query.specs.declared.reply.Reply.{Reply}
use Rattle.sw_spine.specs.History.{is_absent, is_open}
use Rattle.sw_spine.specs.declared.history.Entry.{Entry}
use Rattle.sw_spine.specs.declared.history.State.{State}
use Rattle.sw_spine.specs.declared.history.State.TheVariants as state
use Rattle.sw_versions.specs.Rules.{updates_in}
use Rattle.sw_engine.specs.Later.{Begin}
use Rattle.sw_engine.specs.Published.{Shown}

-- the entries of a session, each its call and its state, in the history's order
abbrev pub own : ℕ → List Entry → List (Call × State)
own s [] = []
own s (e ∷ es) = if e.session == s then (e.call, e.state) ∷ own s es else own s es

-- the same, the first open one being in another state
abbrev pub own_settled : State → List (Call × State) → List (Call × State)
own_settled st [] = []
own_settled st (e ∷ es) = if is_open e.1 then (e.0, st) ∷ es else e ∷ own_settled st es

-- the place of a session's last entry, where it has any
abbrev pub IsLastOwn : ℕ → List Entry → Option ℕ → Type 0
IsLastOwn s es None = is_absent s es ≡ true
IsLastOwn s es (Some p) =
    (e : Entry) × (slice_get es p ≡ Some e) × (e.session ≡ s) × (is_absent s (drop (p + 1) es) ≡ true)

-- ---- what a call leaves of itself

abbrev pub own_of : Shown → List (Call × State)
own_of s = own s.0 s.2.entries

-- a select that is answered leaves its answered entry alone; refused, at most one entry, of just that query, which is void
abbrev pub LeavesSelect : {E : Type 0} → Query → Result Reply E → Shown → Shown → Type 0
LeavesSelect q told old new =
    MatchResult told
    (λ r. own_of new ≡ own_of old ++ (call.Select q, state.Answered r) ∷ [])
    (λ _. (own_of new ≡ own_of old) ⊎ (own_of new ≡ own_of old ++ (call.Select q, state.Void) ∷ []))

-- another call that is answered leaves its answered entry alone; refused, none
abbrev pub LeavesCommit : {E : Type 0} → Call → Result Reply E → Shown → Shown → Type 0
LeavesCommit c told old new =
    MatchResult told (λ r. own_of new ≡ own_of old ++ (c, state.Answered r) ∷ []) (λ _. own_of new ≡ own_of old)

abbrev pub LeavesCall : {E : Type 0} → Call → Result Reply E → Shown → Shown → Type 0
LeavesCall (call.Select q) told old new = LeavesSelect q told old new
LeavesCall (call.Insert cells) told old new = LeavesCommit (call.Insert cells) told old new
LeavesCall (call.Delete key) told old new = LeavesCommit (call.Delete key) told old new
LeavesCall (call.DeleteWhere conds) told old new = LeavesCommit (call.DeleteWhere conds) told old new

-- calls that are answered leave an answered entry each
abbrev pub LeavesAnswered : List (Call × Reply) → Shown → Shown → Type 0
LeavesAnswered made old new = own_of new ≡ own_of old ++ map (λ m. (m.0, state.Answered m.1)) made

-- ---- where a session begins and ends

-- a session that was just made: its number is that of all sessions by then, it has no entries, and it has the receipt of
-- what was published then
pub record IsNew (s : Shown) : Type 0 where
  pub number : s.0 ≡ s.2.sessions
  pub none : s.1 ≡ []
  pub own : own_of s ≡ []
  pub receipt : updates_in s.2.given ≡ s.2.published

-- What entries have of a session whose ticket shows this: they go on where it stopped to look, and none is its own but
-- those that it showed.
pub record IsEnded (es : List Entry) (s : Shown) : Type 0 where
  pub own : own s.0 es ≡ own_of s
  pub begun : Begin s.2.entries es
