-- What the shelf under the lock has of the history's updates, and what the sessions' shares show of it.
use Rattle.std.specs.Prelude.{ℕ, ◌≡◌, ◌≤◌, ◌+◌, ◌++◌, List, [], Bool, true, None, Some, MatchBool, MatchResult, Result, drop, length, slice_get, take}
use mathlib.Core.List.{IsPrefix}
use Rattle.sw_table.specs.declared.row.Row.{Row}
use Rattle.sw_table.specs.declared.row.Update.{Update}
use Rattle.sw_query.specs.declared.query.Query.{Query}
use Rattle.sw_query.specs.declared.query.Call.{Call}
use Rattle.sw_query.specs.declared.query.Call.TheVariants as call
use Rattle.sw_query.specs.declared.reply.Reply.{Reply}
use Rattle.sw_query.specs.declared.refusal.Refusal.{Refusal}
use Rattle.sw_query.specs.declared.refusal.Refusal.TheVariants as refusal
use Rattle.sw_spine.specs.History.{is_absent, mine, updates_after}
use Rattle.sw_spine.specs.Books.{Books, updates, waits_for, with_answered, with_published}
use Rattle.sw_spine.specs.Table.{opened, reply_to}
use Rattle.sw_spine.specs.declared.history.Entry.{Entry}
use Rattle.sw_tie.specs.declared.Share.{Share}
use Rattle.sw_versions.specs.Known.{Known, Shelved, opened_over}
pub use Rattle.sw_versions.specs.Pending.{IsOneMore}
use Rattle.sw_versions.specs.Rules.{updates_in}
use Rattle.sw_versions.specs.declared.viewer.TheConstants.{MOST_VIEWERS}
use Rattle.sw_engine.specs.Later.{Begin}

-- the updates after the opening rows
abbrev pub later : List Row → Books → List Update
later opening b = drop (length opening) (updates b)

-- those of them that are published
abbrev pub published_of : List Row → Books → List Update
published_of opening b = drop (length opening) (take b.published (updates b))

-- what a share shows grows: what is published begins what is published afterwards, and the entries begin those afterwards
abbrev pub Grows : List Row → Books → Books → Type 0
Grows opening old new = IsPrefix (published_of opening old) (published_of opening new) × Begin old.entries new.entries

-- the updates of the first so many of some entries, the opening rows first
abbrev pub updates_first : ℕ → List Row → List Entry → ℕ → List Update
updates_first limit opening es n = updates_after limit (opened opening) (take n es)

-- what the plain table replies after these entries
abbrev pub reply_after : ℕ → List Row → List Entry → Call → Reply
reply_after limit opening es c = reply_to limit (updates_after limit (opened opening) es) c

-- a number of updates, the opening rows counted, at which an entry ends: that of all updates of the first so many
-- entries
abbrev pub EndsEntry : ℕ → List Row → List Entry → ℕ → Type 0
EndsEntry limit opening es count = (n : ℕ) × (n ≤ length es) × (count ≡ length (updates_first limit opening es n))

-- updates that, after the opening rows, are all those of the first so many entries, and no other: of each entry all
-- updates are among them, or none
abbrev pub IsOfFirst : ℕ → List Row → List Entry → List Update → Type 0
IsOfFirst limit opening es list =
    (n : ℕ) × (n ≤ length es) × (opened opening ++ list ≡ updates_first limit opening es n)

-- batches, of which each ends where an entry ends: of each entry all updates are in one of them, or in none
abbrev pub EndWithEntries : ℕ → List Row → List Entry → List (List Update) → Type 0
EndWithEntries limit opening es batches = (k : ℕ) → IsOfFirst limit opening es (updates_in (take k batches))

-- batches that have all updates of the entries, after the opening rows
abbrev pub HaveAll : ℕ → List Row → List Entry → List (List Update) → Type 0
HaveAll limit opening es batches = opened opening ++ updates_in batches ≡ updates_after limit (opened opening) es

-- whether they have
abbrev pub TellsAll : ℕ → List Row → List Entry → List (List Update) → Bool → Type 0
TellsAll limit opening es batches all =
    MatchBool all (HaveAll limit opening es batches) (HaveAll limit opening es batches → ⊥)

-- what is published of books is all updates of the first so many entries
abbrev pub IsWhole : ℕ → List Row → Books → Type 0
IsWhole limit opening b = IsOfFirst limit opening b.entries (published_of opening b)

-- what each row of the sessions' book shows as published begins what is published, and has of each entry all updates or
-- none
abbrev pub AreBehind : ℕ → List Row → Books → List (Books × Bool) → Type 0
AreBehind limit opening s rows =
    (k : ℕ) (r : Books × Bool) → slice_get rows k ≡ Some r
    → IsPrefix (published_of opening r.0) (published_of opening s) × IsWhole limit opening r.0

-- what stands in the book of updates begins the updates after the opening rows, and each batch of it ends where an entry
-- ends; what is published is some of its first batches; and the spine has the number of the updates that are published
pub record IsShelfOf (limit : ℕ) (opening : List Row) (b : Books) (s : Shelved) : Type 0 where
  pub booked : IsPrefix (updates_in s.booked) (later opening b)
  pub ends : EndWithEntries limit opening b.entries s.booked
  pub published : IsPrefix s.published s.booked
  pub counted : b.published ≡ length opening + length (updates_in s.published)

-- nothing stands in the book, nothing is published, and no viewer was opened
abbrev pub no_versions : Shelved
no_versions = record { booked = []; published = []; viewers = 0; missed = 0 }

-- a call is answered at the end of the history, and the spine has the number of the updates that are published
abbrev pub with_committed : List Row → ℕ → Call → Shelved → Books → Books
with_committed opening session c s b =
    with_published (length opening + length (updates_in s.published)) (with_answered session c b)

-- a new viewer has seen, and was told, what is published
abbrev pub new_viewer : Shelved → Known
new_viewer s = opened_over s.published

-- what the plain table answers a query after the opening rows and a list of updates
abbrev pub answer_after : ℕ → List Row → List Update → Query → Reply
answer_after limit opening list q = reply_to limit (opened opening ++ list) (call.Select q)

-- one viewer more was opened
abbrev pub with_viewer : Shelved → Shelved
with_viewer s = record s { viewers = s.viewers + 1 }

-- why no viewer is opened
abbrev pub RefusesViewing : Refusal → Type 0
RefusesViewing refusal.NoMemory = Unit {0}
RefusesViewing (refusal.TooMany limit) = limit ≡ MOST_VIEWERS
RefusesViewing other = ⊥

-- ---- receipts

-- what a session shows of them: the batches that it has the receipt of; how often it could not publish for want of memory; and
-- what its share shows, which is, as of its last visit, the updates that are published, the entries of the history and how many
-- sessions were made
pub record Receipted : Type 0 where
  pub given : List (List Update)
  pub missed : ℕ
  pub published : List Update
  pub entries : List Entry
  pub sessions : ℕ

-- what a session shows, and its ticket: its number, the calls that were answered to it, and that
abbrev pub Shown : Type 0
Shown = ℕ × List (Call × Reply) × Receipted

abbrev pub session_shown : List Row → ℕ → Books → List (List Update) → ℕ → Shown
session_shown opening session b receipt missed = (
  session,
  mine session b.entries,
  record {
    given = receipt;
    missed = missed;
    published = published_of opening b;
    entries = b.entries;
    sessions = b.sessions;
  },
)

-- of them, the number and the calls that were answered
abbrev pub answered_to : Shown → ℕ × List (Call × Reply)
answered_to s = (s.0, s.1)

-- a call that is no select, a publish, or a meeting, where it is answered, gives the receipt of what is published then,
-- which begins with the one before; refused, the receipt stays
abbrev pub GivesReceipt : {A E : Type 0} → Result A E → Receipted → Receipted → Type 0
GivesReceipt told old new =
    MatchResult told
    (λ _. (updates_in new.given ≡ new.published) × IsPrefix old.given new.given)
    (λ _. new.given ≡ old.given)

-- a publish is refused only where there was no memory for it, which is counted
abbrev pub CountsMisses : {A : Type 0} → Result A Refusal → Receipted → Receipted → Type 0
CountsMisses told old new =
    MatchResult told (λ _. new.missed ≡ old.missed) (λ e. (e ≡ refusal.NoMemory) × IsOneMore old.missed new.missed)

-- a select leaves it
abbrev pub CallGives : {A E : Type 0} → Call → Result A E → Receipted → Receipted → Type 0
CallGives (call.Select q) told old new = new.given ≡ old.given
CallGives (call.Insert cells) told old new = GivesReceipt told old new
CallGives (call.Delete key) told old new = GivesReceipt told old new
CallGives (call.DeleteWhere conds) told old new = GivesReceipt told old new

-- the share of a session that was just opened, which has no entries
abbrev pub IsNewShare : ℕ → Books → ℕ → Share Books → Type 0
IsNewShare name b session share =
    (session ≡ b.sessions) × (share.name ≡ name) × (session ≡ share.number + 1) × (share.value ≡ b)
    × (waits_for session b ≡ None) × (is_absent session b.entries ≡ true)
