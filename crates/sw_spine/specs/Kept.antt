-- Entries in memory of their own.
use Rattle.sw_query.specs.declared.reply.Reply.{Reply}
use Rattle.sw_spine.specs.History.{entry}
use Rattle.sw_spine.specs.declared.history.Entry.{Entry}
use Rattle.sw_spine.specs.declared.history.Kept.{Kept}
use Rattle.sw_spine.specs.declared.history.Kept.TheVariants as kept
use Rattle.sw_spine.specs.declared.history.Outcome.{Outcome}
use Rattle.sw_spine.specs.declared.history.Outcome.TheVariants as outcome
use Rattle.sw_spine.specs.declared.history.State.{State}
use Rattle.sw_spine.specs.declared.history.State.TheVariants as state
use Rattle.sw_spine.specs.declared.history.StateRef.{StateRef}
use Rattle.sw_spine.specs.declared.history.StateRef.TheVariants as state_ref

-- what has become of a call, by an outcome and a reply
abbrev pub state_by : Outcome → Reply → State
state_by outcome.Answered r = state.Answered r
state_by outcome.Open r = state.Open
state_by outcome.Void r = state.Void

-- the entry that is kept
abbrev pub kept_entry : Kept → Entry
kept_entry (kept.Short e) = entry e.value.session e.value.call (state_by e.value.outcome e.value.reply)
kept_entry (kept.Long e) = e.value

-- the state that is read where it stands
abbrev pub state_of : StateRef → State
state_of (state_ref.Answered r) = state.Answered r.now
state_of (state_ref.Lines ls) = state.Lines ls.now
state_of state_ref.Open = state.Open
state_of state_ref.Void = state.Void
