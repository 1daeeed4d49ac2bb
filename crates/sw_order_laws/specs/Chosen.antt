-- Calls of which one has to be placed next, and what a search has tried.
use Rattle.std.specs.Prelude.{◌≡◌, ◌≢◌, ◌<◌, ◌++◌, ◌&&◌, ℕ, true, false, List, [], ◌∷◌, IfSome, Some, slice_get}
use Rattle.sw_query.specs.declared.query.Call.{Call}
use Rattle.sw_query.specs.declared.query.Call.TheVariants as call
use Rattle.sw_spine.specs.Table.{inserts, row}
use Rattle.sw_table.specs.declared.row.Update.{Update}
use Rattle.sw_logs.specs.Orders.{is_known}
use Rattle.sw_logs.specs.declared.logged.Logged.{Logged}
use Rattle.sw_logs.specs.declared.opening.Opening.{Opening}
use Rattle.sw_logs.specs.declared.order.By.{By}
use Rattle.sw_order_laws.specs.Apart.{AsksForNone, asks, is_insert, rows_changed}
use Rattle.sw_order_laws.specs.Beginnings.{AreAlike, HaveSameCalls, IsBeginning, IsIdleNext, IsIn, IsWhole, MayComeNext, MayPrecede, updates_by}

-- a call asks for no row that another brings, under whatever key above those given
abbrev pub IsUnseen : ℕ → Call → Call → Type 0
IsUnseen given (call.Select q) c = Unit {0}
IsUnseen given (call.Insert cells) c = (key : ℕ) → given < key → asks c (row key cells) ≡ false
IsUnseen given (call.Delete key) c = Unit {0}
IsUnseen given (call.DeleteWhere conds) c = Unit {0}

-- a call brings or takes out no row that another asks for here, wherever it comes before it
pub record LeavesRows (limit : ℕ) (us : List Update) (d c : Call) : Type 0 where
  pub brings : IsUnseen (inserts us) d c
  pub takes : AsksForNone c (rows_changed limit us d)
  pub one_inserts : (is_insert d && is_insert c) ≡ false

-- nor does it ask for one that the other changes here: it does not bear on it
pub record LeavesAlone (limit : ℕ) (us : List Update) (d c : Call) : Type 0 where
  pub rows : LeavesRows limit us d c
  pub asks : AsksForNone d (rows_changed limit us c)

-- none of the calls of these numbers does
abbrev pub AllLeaveAlone : ℕ → List Logged → List Update → Call → List ℕ → Type 0
AllLeaveAlone limit calls us c [] = Unit {0}
AllLeaveAlone limit calls us c (i ∷ is) =
    IfSome (slice_get calls i) (λ d. LeavesAlone limit us d.call c) × AllLeaveAlone limit calls us c is

-- none of these is one of those chosen
abbrev pub AreOthers : List ℕ → List ℕ → Type 0
AreOthers chosen between = (i : ℕ) → IsIn between i → ¬ IsIn chosen i

-- a call of known outcome that is chosen and is not placed
pub record IsDue (calls : List Logged) (placed chosen : List ℕ) (i : ℕ) : Type 0 where
  pub is_chosen : IsIn chosen i
  pub fresh : ¬ IsIn placed i
  pub call : Logged
  pub there : slice_get calls i ≡ Some call
  pub known : is_known call ≡ true

-- one of those chosen comes first behind the calls placed, with others between, in some order of all
pub record ComesFirst (keeping : By) (opening : Opening) (calls : List Logged) (placed chosen between : List ℕ) (i : ℕ) : Type 0 where
  pub others : AreOthers chosen between
  pub is_chosen : IsIn chosen i
  pub behind : List ℕ
  pub whole : IsWhole keeping opening calls (placed ++ (between ++ i ∷ behind))

-- a call may come next, and none of those between bears on it
pub record IsFree (keeping : By) (opening : Opening) (calls : List Logged) (placed between : List ℕ) (i : ℕ) (c : Logged) : Type 0 where
  pub next : MayComeNext keeping calls placed i c
  pub alone : AllLeaveAlone opening.limit calls (updates_by opening calls placed) c.call between

-- whichever of those chosen comes first is free
abbrev pub FirstIsFree : By → Opening → List Logged → List ℕ → List ℕ → Type 0
FirstIsFree keeping opening calls placed chosen =
    (between : List ℕ) (i : ℕ) (c : Logged) → slice_get calls i ≡ Some c
    → ComesFirst keeping opening calls placed chosen between i → IsFree keeping opening calls placed between i c

-- one of those chosen has to be placed, and whichever of them comes first may come next at once
pub record AreEnough (keeping : By) (opening : Opening) (calls : List Logged) (placed chosen : List ℕ) : Type 0 where
  pub due : ℕ
  pub is_due : IsDue calls placed chosen due
  pub first : FirstIsFree keeping opening calls placed chosen

-- ---- a set that is closed

-- a call that is not chosen may come before all of those chosen that have to be placed
pub record MayComeBefore (keeping : By) (calls : List Logged) (placed chosen : List ℕ) (i : ℕ) (c : Logged) : Type 0 where
  pub there : slice_get calls i ≡ Some c
  pub fresh : ¬ IsIn placed i
  pub other : ¬ IsIn chosen i
  pub first : (j : ℕ) → (due : IsDue calls placed chosen j) → MayPrecede keeping i c j due.call

-- one of those chosen that has to be placed must stand before a call
pub record Waits (keeping : By) (calls : List Logged) (placed chosen : List ℕ) (i : ℕ) (c : Logged) : Type 0 where
  pub before : ℕ
  pub is_due : IsDue calls placed chosen before
  pub another : before ≢ i
  pub must : ¬ MayPrecede keeping i c before is_due.call

-- a call is in no order where none of those chosen stands between
abbrev pub Lacks : By → Opening → List Logged → List ℕ → List ℕ → ℕ → Type 0
Lacks keeping opening calls placed chosen i =
    (between behind : List ℕ) → AreOthers chosen between
    → ¬ IsWhole keeping opening calls (placed ++ (between ++ i ∷ behind))

-- none of the others that may come before those chosen bears on a call
abbrev pub OthersLeaveAlone : By → Opening → List Logged → List ℕ → List ℕ → Call → Type 0
OthersLeaveAlone keeping opening calls placed chosen c =
    (o : ℕ) (d : Logged) → MayComeBefore keeping calls placed chosen o d
    → LeavesAlone opening.limit (updates_by opening calls placed) d.call c

-- a call may come next, and none of the others bears on it
pub record StandsFree (keeping : By) (opening : Opening) (calls : List Logged) (placed chosen : List ℕ) (i : ℕ) (c : Logged) : Type 0 where
  pub next : MayComeNext keeping calls placed i c
  pub alone : OthersLeaveAlone keeping opening calls placed chosen c.call

-- a call that is chosen waits for another of them; or it is in no order where none of them stands between; or it stands
-- free
pub data IsSettled (keeping : By) (opening : Opening) (calls : List Logged) (placed chosen : List ℕ) (i : ℕ) (c : Logged) : Type 0 where
  waits : Waits keeping calls placed chosen i c → IsSettled keeping opening calls placed chosen i c
  lacks : Lacks keeping opening calls placed chosen i → IsSettled keeping opening calls placed chosen i c
  free : StandsFree keeping opening calls placed chosen i c → IsSettled keeping opening calls placed chosen i c

-- a set of calls that asks for no more: one has to be placed, and each of them is settled
pub record AreClosed (keeping : By) (opening : Opening) (calls : List Logged) (placed chosen : List ℕ) : Type 0 where
  pub due : ℕ
  pub is_due : IsDue calls placed chosen due
  pub each : (i : ℕ) (c : Logged) → IsIn chosen i → slice_get calls i ≡ Some c → IsSettled keeping opening calls placed chosen i c

-- the same calls in another order that leaves the same
pub record IsSameState (opening : Opening) (calls : List Logged) (one other : List ℕ) : Type 0 where
  pub calls_are : HaveSameCalls one other
  pub alike : AreAlike (updates_by opening calls one) (updates_by opening calls other)

-- a search has tried all that might stand behind the calls placed: a call that changes nothing was placed at once; each
-- of calls that are enough was placed; the calls placed are no beginning; or a beginning of the same state was met before
pub data IsExhausted (keeping : By) (opening : Opening) (calls : List Logged) : List ℕ → Type 0 where
  at_once :
      (placed : List ℕ) (i : ℕ) → IsIdleNext keeping opening calls placed i
      → IsExhausted keeping opening calls (placed ++ i ∷ []) → IsExhausted keeping opening calls placed
  each_tried :
      (placed chosen : List ℕ) → AreEnough keeping opening calls placed chosen
      → ((i : ℕ) → IsIn chosen i → IsExhausted keeping opening calls (placed ++ i ∷ []))
      → IsExhausted keeping opening calls placed
  refused : (placed : List ℕ) → ¬ IsBeginning keeping opening calls placed → IsExhausted keeping opening calls placed
  met_before :
      (one other : List ℕ) → IsBeginning keeping opening calls one → IsSameState opening calls one other
      → IsExhausted keeping opening calls one → IsExhausted keeping opening calls other
