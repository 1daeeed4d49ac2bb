-- Orders of the calls of logs. A call goes by its number among the calls, from 0, and an order is the list of the
-- numbers of the calls that it places.
use Rattle.std.specs.Prelude.{◌≡◌, ◌<◌, ◌≤◌, ◌+◌, ℕ, Bool, true, false, List, [], ◌∷◌, length, is_some, slice_get, slice_index, EachIndex, Option, Some, None}
use Rattle.std.specs.List.{AllZip}
use Rattle.sw_spine.specs.History.{CallsBelow, History, IsLegal}
use Rattle.sw_spine.specs.declared.history.Entry.{Entry}
use Rattle.sw_spine.specs.declared.history.State.{State}
use Rattle.sw_spine.specs.declared.history.State.TheVariants as state
use Rattle.sw_logs.specs.declared.opening.Opening.{Opening}
use Rattle.sw_logs.specs.declared.order.Order.{Order}
use Rattle.sw_logs.specs.declared.logged.Logged.{Logged}
use Rattle.sw_logs.specs.declared.order.By.{By}
use Rattle.sw_logs.specs.declared.order.By.TheVariants as by

-- a call's outcome is known
abbrev pub is_known : Logged → Bool
is_known c = is_some c.reply

-- calls name attributes of the first n alone
abbrev pub AllFit : ℕ → List Logged → Type 0
AllFit n [] = Unit {0}
AllFit n (c ∷ cs) = CallsBelow n c.call × AllFit n cs

-- these are numbers of calls
abbrev pub AreNumbersOf : List Logged → List ℕ → Type 0
AreNumbersOf calls places = EachIndex places (λ k. slice_index places k < length calls)

-- ---- entries

-- a call was answered, whatever the reply
abbrev pub is_answered : State → Bool
is_answered (state.Answered r) = true
is_answered (state.Lines lines) = false
is_answered state.Open = false
is_answered state.Void = false

-- what has become of a call is what its log says; of unknown outcome it was answered
abbrev pub IsStateFor : Option (List (List ℕ)) → State → Type 0
IsStateFor (Some lines) st = st ≡ state.Lines lines
IsStateFor None st = is_answered st ≡ true

-- an entry has a call's session, the call, and the reply of the log
pub record IsEntryOf (c : Logged) (e : Entry) : Type 0 where
  pub session : e.session ≡ c.session
  pub call : e.call ≡ c.call
  pub state : IsStateFor c.reply e.state

-- an entry is that of the call of a number
abbrev pub IsEntryAt : List Logged → ℕ → Entry → Type 0
IsEntryAt calls i e = (c : Logged) × (slice_get calls i ≡ Some c) × IsEntryOf c e

-- the entries are those of the calls of these numbers, in their order
abbrev pub AreEntriesOf : List Logged → List ℕ → List Entry → Type 0
AreEntriesOf calls places entries = AllZip (IsEntryAt calls) places entries

-- ---- each call once

-- no call stands at two places
abbrev pub StandOnce : List ℕ → Type 0
StandOnce places = (p q i : ℕ) → slice_get places p ≡ Some i → slice_get places q ≡ Some i → p ≡ q

-- each call of known outcome stands at some place
abbrev pub HasKnown : List Logged → List ℕ → Type 0
HasKnown calls places =
    (i : ℕ) (c : Logged) → slice_get calls i ≡ Some c → is_known c ≡ true → (p : ℕ) × (slice_get places p ≡ Some i)

-- ---- what an order keeps

-- a call stands at a place
abbrev pub StandsAt : List Logged → List ℕ → ℕ → ℕ → Logged → Type 0
StandsAt calls places p i c = (slice_get places p ≡ Some i) × (slice_get calls i ≡ Some c)

-- a call of known outcome stands before the later ones of its session
abbrev pub KeepsSessions : List Logged → List ℕ → Type 0
KeepsSessions calls places =
    (p q i j : ℕ) (c d : Logged) → p < q → StandsAt calls places p i c → StandsAt calls places q j d
    → c.session ≡ d.session → is_known d ≡ true → i < j

-- a call of known outcome stands before those that began more than the slack after its end
abbrev pub KeepsTimes : ℕ → List Logged → List ℕ → Type 0
KeepsTimes slack calls places =
    (p q i j : ℕ) (c d : Logged) → p < q → StandsAt calls places p i c → StandsAt calls places q j d
    → is_known d ≡ true → c.start ≤ d.end + slack

-- by times alone
abbrev pub KeepsBy : By → List Logged → List ℕ → Type 0
KeepsBy (by.Times slack) calls places = KeepsTimes slack calls places
KeepsBy by.Sessions calls places = Unit {0}

-- these are numbers of calls, each once, all those of known outcome, and stand as they have to
pub record IsOrderOf (keeping : By) (calls : List Logged) (places : List ℕ) : Type 0 where
  pub numbers : AreNumbersOf calls places
  pub once : StandOnce places
  pub known : HasKnown calls places
  pub sessions : KeepsSessions calls places
  pub times : KeepsBy keeping calls places

-- a history of the table, whose entries are those of the calls of these numbers
pub record IsRecordOf (opening : Opening) (calls : List Logged) (places : List ℕ) (h : History) : Type 0 where
  pub columns_are : h.columns ≡ opening.schema
  pub rows_are : h.rows ≡ opening.rows.items
  pub limit_is : h.limit ≡ opening.limit
  pub entries : AreEntriesOf calls places h.entries

-- a legal history of the table, whose entries are those of the calls in such an order
pub record IsOrderFound (keeping : By) (opening : Opening) (calls : List Logged) (o : Order) : Type 0 where
  pub record_of : IsRecordOf opening calls o.places.items o.history
  pub legal : IsLegal o.history
  pub order : IsOrderOf keeping calls o.places.items
