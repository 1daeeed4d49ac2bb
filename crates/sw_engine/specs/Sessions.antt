-- A session's state, and what a visit does to it: a call is answered, or given up, or nothing of the session's changes.
use Rattle.std.specs.Prelude.{ℕ, ◌≡◌, ◌⊎◌, ◌+◌, ◌++◌, List, [], ◌∷◌, map, Option, Some, None, IfSome, Vec}
use mathlib.Core.List.{IsPrefix}
use Rattle.sw_table.specs.declared.row.Row.{Row}
use Rattle.sw_table.specs.declared.row.Update.{Update}
use Rattle.sw_query.specs.declared.query.Query.{Query}
use Rattle.sw_query.specs.declared.query.Call.{Call}
use Rattle.sw_query.specs.declared.query.Call.TheVariants as call
use Rattle.sw_query.specs.declared.reply.Reply.{Reply}
use Rattle.sw_query.specs.declared.refusal.Refusal.{Refusal}
use Rattle.sw_spine.specs.Books.{Books, as_calls, waits_for, with_all_answered, with_answered}
use Rattle.sw_spine.specs.History.{with_answer}
use Rattle.sw_spine.specs.declared.history.Entry.{Entry}
use Rattle.sw_spine.specs.declared.history.State.{State}
use Rattle.sw_spine.specs.declared.history.State.TheVariants as state
use Rattle.sw_tie.specs.declared.Share.{Share}
use Rattle.sw_versions.specs.Rules.{updates_in}
use Rattle.sw_engine.specs.Desk.{RefusesCall, TellsFull}
use Rattle.sw_engine.specs.Later.{Begin}
use Rattle.sw_engine.specs.Own.{LeavesAnswered, own_of, own_settled}
use Rattle.sw_engine.specs.Published.{IsOneMore, IsWhole, Shown, published_of, session_shown}

-- ---- a session's state

-- what the session shows, and the select that it waits for, with the updates before that one's place
pub record Standing : Type 0 where
  pub shown : Shown
  pub waits : Option (Call × List Update)

abbrev pub standing : List Row → ℕ → Books → List (List Update) → ℕ → Standing
standing opening session b receipt missed = record {
  shown = session_shown opening session b receipt missed;
  waits = waits_for session b;
}

-- the share is one of the sessions' book, that of the session with this number; what the session has the receipt of begins
-- what the share shows as published, and that has of each entry all updates or none
abbrev pub IsHeld : ℕ → ℕ → List Row → ℕ → Share Books → List (List Update) → Type 0
IsHeld name limit opening session share receipt =
    (share.name ≡ name) × (session ≡ share.number + 1)
    × IsPrefix (updates_in receipt) (published_of opening share.value) × IsWhole limit opening share.value

-- the session shows these books
abbrev pub Sees : List Row → Books → Shown → Shown → Type 0
Sees opening b old new = new ≡ session_shown opening old.0 b old.2.given old.2.missed

-- ---- what a visit does to it

-- whatever others did since: the number, the receipt and the count of misses stay, and so do all entries and all that is
-- published
pub record Visited (old new : Shown) : Type 0 where
  pub number : new.0 ≡ old.0
  pub given : new.2.given ≡ old.2.given
  pub missed : new.2.missed ≡ old.2.missed
  pub entries : Begin old.2.entries new.2.entries
  pub published : IsPrefix old.2.published new.2.published

-- nothing of the session's changes
pub record Stays (old new : Shown) : Type 0 where
  pub visited : Visited old new
  pub calls : new.1 ≡ old.1
  pub own : own_of new ≡ own_of old

-- the call is answered: it is the last of the session's answered calls, and its entry the last of the session's own
pub record Answers (c : Call) (r : Reply) (old new : Shown) : Type 0 where
  pub visited : Visited old new
  pub calls : new.1 ≡ old.1 ++ (c, r) ∷ []
  pub own : own_of new ≡ own_of old ++ (c, state.Answered r) ∷ []

-- the query is answered, where there is a reply; else nothing that the session shows changes
abbrev pub AnswersIfSome : Query → Shown → Shown → Option Reply → Type 0
AnswersIfSome q old new None = new ≡ old
AnswersIfSome q old new (Some r) = Answers (call.Select q) r old new

-- and it stands answered at the end of the history, where there is a reply; else the history is as it was
abbrev pub StandsIfSome : ℕ → Query → Books → Books → Option Reply → Type 0
StandsIfSome session q old new None = new ≡ old
StandsIfSome session q old new (Some r) = new ≡ with_answered session (call.Select q) old

-- calls are answered, one after another: they are the last of the session's answered calls, and their entries the last of
-- its own
pub record AnswersAll (made : List (Call × Reply)) (old new : Shown) : Type 0 where
  pub visited : Visited old new
  pub calls : new.1 ≡ old.1 ++ made
  pub own : LeavesAnswered made old new

-- queries are answered with these replies, where there are any; else nothing that the session shows changes
abbrev pub AnswersAllIfSome : {A : Type 0} → List (Query × Reply) → Shown → Shown → Option (Vec Reply A) → Type 0
AnswersAllIfSome told old new None = new ≡ old
AnswersAllIfSome told old new (Some replies) = (replies.items ≡ map (λ t. t.1) told) × AnswersAll (as_calls told) old new

-- and they stand answered at the end of the history; else that is as it was
abbrev pub AllStandIfSome : {A : Type 0} → ℕ → List (Query × Reply) → Books → Books → Option (Vec Reply A) → Type 0
AllStandIfSome session told old new None = new ≡ old
AllStandIfSome session told old new (Some _) = new ≡ with_all_answered session told old

-- the select is void: its entry is the last of the session's own, and the answered calls stay
pub record Voids (q : Query) (old new : Shown) : Type 0 where
  pub visited : Visited old new
  pub calls : new.1 ≡ old.1
  pub own : own_of new ≡ own_of old ++ (call.Select q, state.Void) ∷ []

-- the select is given up: it is void, or nothing of the session's changes
abbrev pub GivesUp : Query → Shown → Shown → Type 0
GivesUp q old new = Stays old new ⊎ Voids q old new

-- why a call is refused; that the history is full, only where the session shows that it is
abbrev pub Refuses : List Entry → Refusal → Type 0
Refuses es e = RefusesCall e × TellsFull es e

-- the call is refused, for this reason, and nothing of the session's changes
abbrev pub IsRefused : Shown → Shown → Refusal → Type 0
IsRefused old new e = Stays old new × Refuses new.2.entries e

-- ---- what the visits of a select do to it

-- the select begins, and waits for its reply after these updates; whatever becomes of it, its entry is the one that the
-- session has more
pub record Begins (q : Query) (us : List Update) (old new : Standing) : Type 0 where
  pub visited : Visited old.shown new.shown
  pub calls : new.shown.1 ≡ old.shown.1
  pub own : (st : State) → own_settled st (own_of new.shown) ≡ own_of old.shown ++ (call.Select q, st) ∷ []
  pub waits : new.waits ≡ Some (call.Select q, us)

-- the select that the session waits for is in this state, and it waits for none
pub record Settles (st : State) (old new : Standing) : Type 0 where
  pub visited : Visited old.shown new.shown
  pub calls : IfSome old.waits (λ w. new.shown.1 ≡ old.shown.1 ++ with_answer w.0 st [])
  pub own : own_of new.shown ≡ own_settled st (own_of old.shown)
  pub rest : new.waits ≡ None

-- ---- receipts

-- the session has the receipt of this list, which begins with the one before; nothing else of it changes
abbrev pub Receives : List (List Update) → Shown → Shown → Type 0
Receives list old new = (new ≡ (old.0, old.1, record old.2 { given = list })) × IsPrefix old.2.given list

-- there was no memory for a publishing, which is counted; nothing else of the session changes
abbrev pub HasMissed : Shown → Shown → Type 0
HasMissed old new = (new ≡ (old.0, old.1, record old.2 { missed = new.2.missed })) × IsOneMore old.2.missed new.2.missed
