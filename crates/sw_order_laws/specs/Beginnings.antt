-- Beginnings of orders: some of the logs' calls, in an order in which a plain list gives each its reply. A call goes by
-- its number among the calls, and a beginning is the list of the numbers of the calls that it places.
use Rattle.std.specs.Prelude.{◌≡◌, ◌≢◌, ◌↔◌, ◌<◌, ◌≤◌, ◌+◌, ◌++◌, ℕ, true, List, [], ◌∷◌, Option, Some, None, IfSome, codes, slice_get}
use Rattle.sw_lang.specs.Replies.{removed_line, reply_lines}
use Rattle.sw_rows.specs.Header.{Column}
use Rattle.sw_query.specs.declared.query.Call.{Call}
use Rattle.sw_query.specs.declared.query.Call.TheVariants as call
use Rattle.sw_spine.specs.History.{History, IsLegal}
use Rattle.sw_spine.specs.Table.{inserts, opened, reply_to, update_by, updates_then}
use Rattle.sw_table.specs.Updates.{rows_of}
use Rattle.sw_table.specs.declared.row.Update.{Update}
use Rattle.sw_logs.specs.Orders.{AreNumbersOf, HasKnown, IsRecordOf, KeepsBy, KeepsSessions, StandOnce, is_known}
use Rattle.sw_logs.specs.declared.logged.Logged.{Logged}
use Rattle.sw_logs.specs.declared.opening.Opening.{Opening}
use Rattle.sw_logs.specs.declared.order.By.{By}
use Rattle.sw_logs.specs.declared.order.By.TheVariants as by

-- a legal history of the table, whose entries are those of the calls of these numbers; they are numbers of calls, each
-- once, and stand as they have to
pub record IsBeginning (keeping : By) (opening : Opening) (calls : List Logged) (places : List ℕ) : Type 0 where
  pub history : History
  pub record_of : IsRecordOf opening calls places history
  pub legal : IsLegal history
  pub numbers : AreNumbersOf calls places
  pub once : StandOnce places
  pub sessions : KeepsSessions calls places
  pub times : KeepsBy keeping calls places

-- a beginning that has all calls of known outcome
pub record IsWhole (keeping : By) (opening : Opening) (calls : List Logged) (places : List ℕ) : Type 0 where
  pub beginning : IsBeginning keeping opening calls places
  pub known : HasKnown calls places

-- some order of all begins with these calls
abbrev pub CanEnd : By → Opening → List Logged → List ℕ → Type 0
CanEnd keeping opening calls placed = (rest : List ℕ) × IsWhole keeping opening calls (placed ++ rest)

-- ---- the list that calls leave

-- the updates after the call of a number, if it is one's
abbrev pub with_call : ℕ → List Update → Option Logged → List Update
with_call limit us None = us
with_call limit us (Some c) = updates_then limit us c.call

-- the updates after the calls of these numbers
abbrev pub after_calls : ℕ → List Logged → List Update → List ℕ → List Update
after_calls limit calls us [] = us
after_calls limit calls us (i ∷ is) = after_calls limit calls (with_call limit us (slice_get calls i)) is

-- the updates after a beginning, the opening rows first
abbrev pub updates_by : Opening → List Logged → List ℕ → List Update
updates_by opening calls placed = after_calls opening.limit calls (opened opening.rows.items) placed

-- the same rows live, and as many were ever inserted
pub record AreAlike (us vs : List Update) : Type 0 where
  pub rows : rows_of us ≡ rows_of vs
  pub given : inserts us ≡ inserts vs

-- ---- which call may come next

-- a call stands at some place
abbrev pub IsIn : List ℕ → ℕ → Type 0
IsIn placed i = (p : ℕ) × (slice_get placed p ≡ Some i)

-- the same calls, in whatever order
abbrev pub HaveSameCalls : List ℕ → List ℕ → Type 0
HaveSameCalls one other = (i : ℕ) → IsIn one i ↔ IsIn other i

-- by times, a call did not begin more than the slack after the end of another
abbrev pub IsInTime : By → Logged → Logged → Type 0
IsInTime (by.Times slack) c d = c.start ≤ d.end + slack
IsInTime by.Sessions c d = Unit {0}

-- a call may stand before another, whose outcome is known
pub record MayPrecede (keeping : By) (i : ℕ) (c : Logged) (j : ℕ) (d : Logged) : Type 0 where
  pub earlier : c.session ≡ d.session → i < j
  pub time : IsInTime keeping c d

-- a call may stand before all others that are not placed and have to be
abbrev pub PrecedesAll : By → List Logged → List ℕ → ℕ → Logged → Type 0
PrecedesAll keeping calls placed i c =
    (j : ℕ) (d : Logged) → slice_get calls j ≡ Some d → is_known d ≡ true → ¬ IsIn placed j → j ≢ i
    → MayPrecede keeping i c j d

-- a call that is not placed may come next
pub record MayComeNext (keeping : By) (calls : List Logged) (placed : List ℕ) (i : ℕ) (c : Logged) : Type 0 where
  pub there : slice_get calls i ≡ Some c
  pub fresh : ¬ IsIn placed i
  pub first : PrecedesAll keeping calls placed i c

-- the list gives a call the reply that its log has
abbrev pub IsReplied : List Column → ℕ → List Update → Logged → Type 0
IsReplied columns limit us c = IfSome c.reply (λ lines. lines ≡ reply_lines columns c.call (reply_to limit us c.call))

-- lines that a call is replied only where it changes nothing
abbrev pub TellsOfNone : Call → List (List ℕ) → Type 0
TellsOfNone (call.Select q) lines = Unit {0}
TellsOfNone (call.Insert cells) lines = lines ≡ codes "full" ∷ []
TellsOfNone (call.Delete key) lines = lines ≡ codes "no such key" ∷ []
TellsOfNone (call.DeleteWhere conds) lines = lines ≡ removed_line 0 ∷ []

-- a call of known outcome that may come next, is given its reply, and changes nothing
pub record IsIdleNext (keeping : By) (opening : Opening) (calls : List Logged) (placed : List ℕ) (i : ℕ) : Type 0 where
  pub call : Logged
  pub next : MayComeNext keeping calls placed i call
  pub known : is_known call ≡ true
  pub replied : IsReplied opening.schema opening.limit (updates_by opening calls placed) call
  pub idle : update_by opening.limit (updates_by opening calls placed) call.call ≡ []
