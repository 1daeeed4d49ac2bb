-- What a search for an order may rest on.
use Rattle.std.specs.Prelude.{◌≡◌, ◌++◌, ℕ, true, false, List, [], ◌∷◌, Some, slice_get}
use Rattle.sw_spine.specs.History.{History}
use Rattle.sw_spine.specs.Table.{update_by}
use Rattle.sw_query.specs.declared.query.Call.{Call}
use Rattle.sw_table.specs.declared.row.Row.{Row}
use Rattle.sw_logs.specs.Openings.{IsOpening}
use Rattle.sw_logs.specs.Orders.{IsOrderFound, is_known}
use Rattle.sw_logs.specs.declared.logged.Logged.{Logged}
use Rattle.sw_logs.specs.declared.opening.Opening.{Opening}
use Rattle.sw_logs.specs.declared.order.By.{By}
use Rattle.sw_logs.specs.declared.order.Order.{Order}
use Rattle.sw_order_laws.specs.Apart.{AreAllApart, AreApart}
use Rattle.sw_order_laws.specs.Chosen.{AllLeaveAlone, AreClosed, AreEnough, IsExhausted, IsSameState, Lacks, LeavesRows, MayComeBefore}
use Rattle.sw_order_laws.specs.Wanting.{IsPart, OthersBringNone, OthersTakeNone, Suits, rows_met}
use Rattle.sw_order_laws.specs.Beginnings.{AreAlike, CanEnd, IsBeginning, IsIdleNext, IsIn, IsReplied, IsWhole, MayComeNext, MayPrecede, TellsOfNone, updates_by}

-- an order that is found is a whole beginning
abbrev pub OrdersAreWhole : Type 0
OrdersAreWhole =
    (keeping : By) (opening : Opening) (calls : List Logged) (o : Order)
    → IsOrderFound keeping opening calls o → IsWhole keeping opening calls o.places.items

-- of a whole beginning there is a history with which it is an order that was found
abbrev pub WholeAreOrders : Type 0
WholeAreOrders =
    (keeping : By) (opening : Opening) (calls : List Logged) (places : List ℕ) → IsWhole keeping opening calls places
    → (h : History)
    × ((o : Order) → o.history ≡ h → o.places.items ≡ places → IsOrderFound keeping opening calls o)

-- from wherever an order has such a call, it can be moved to where it may come next
abbrev pub IdleCallsMove : Type 0
IdleCallsMove =
    (keeping : By) (opening : Opening) (calls : List Logged) (placed between rest : List ℕ) (i : ℕ)
    → IsOpening opening → IsIdleNext keeping opening calls placed i
    → IsWhole keeping opening calls (placed ++ (between ++ i ∷ rest))
    → IsWhole keeping opening calls (placed ++ i ∷ (between ++ rest))

-- where an order begins with some calls, one begins with them and such a call
abbrev pub IdleCallsComeNext : Type 0
IdleCallsComeNext =
    (keeping : By) (opening : Opening) (calls : List Logged) (placed : List ℕ) (i : ℕ)
    → IsOpening opening → IsIdleNext keeping opening calls placed i
    → CanEnd keeping opening calls placed → CanEnd keeping opening calls (placed ++ i ∷ [])

-- a call that has the list's reply changes nothing where the reply tells so
abbrev pub RepliesTellOfNone : Type 0
RepliesTellOfNone =
    (opening : Opening) (calls : List Logged) (placed : List ℕ) (c : Logged) (lines : List (List ℕ)) → IsOpening opening
    → c.reply ≡ Some lines → IsReplied opening.schema opening.limit (updates_by opening calls placed) c
    → TellsOfNone c.call lines → update_by opening.limit (updates_by opening calls placed) c.call ≡ []

-- a call of unknown outcome that changes nothing where it stands may be left out
abbrev pub UnknownMayBeLeftOut : Type 0
UnknownMayBeLeftOut =
    (keeping : By) (opening : Opening) (calls : List Logged) (placed rest : List ℕ) (i : ℕ) (c : Logged)
    → slice_get calls i ≡ Some c → is_known c ≡ false
    → update_by opening.limit (updates_by opening calls placed) c.call ≡ []
    → IsWhole keeping opening calls (placed ++ i ∷ rest) → IsWhole keeping opening calls (placed ++ rest)

-- two calls next to each other that do not bear on one another change places, where the second may precede the first
abbrev pub CallsApartChangePlaces : Type 0
CallsApartChangePlaces =
    (keeping : By) (opening : Opening) (calls : List Logged) (placed rest : List ℕ) (i j : ℕ) (c d : Logged)
    → IsOpening opening → slice_get calls i ≡ Some c → slice_get calls j ≡ Some d
    → (is_known c ≡ true → MayPrecede keeping j d i c)
    → AreApart opening.limit (updates_by opening calls placed) c.call d.call
    → IsWhole keeping opening calls (placed ++ i ∷ j ∷ rest)
    → IsWhole keeping opening calls (placed ++ j ∷ i ∷ rest)

-- in either order they leave the same rows and have given as many keys
abbrev pub CallsApartLeaveTheSame : Type 0
CallsApartLeaveTheSame =
    (opening : Opening) (calls : List Logged) (placed : List ℕ) (i j : ℕ) (c d : Logged)
    → IsOpening opening → slice_get calls i ≡ Some c → slice_get calls j ≡ Some d
    → AreApart opening.limit (updates_by opening calls placed) c.call d.call
    → AreAlike (updates_by opening calls (placed ++ i ∷ j ∷ [])) (updates_by opening calls (placed ++ j ∷ i ∷ []))

-- a call on which none of those between bears can be moved to where it may come next
abbrev pub CallsApartMove : Type 0
CallsApartMove =
    (keeping : By) (opening : Opening) (calls : List Logged) (placed between rest : List ℕ) (i : ℕ) (c : Logged)
    → IsOpening opening → MayComeNext keeping calls placed i c
    → AreAllApart opening.limit calls (updates_by opening calls placed) c.call between
    → IsWhole keeping opening calls (placed ++ (between ++ i ∷ rest))
    → IsWhole keeping opening calls (placed ++ i ∷ (between ++ rest))

-- what ends one beginning ends another of the same state
abbrev pub AlikeHaveOneFuture : Type 0
AlikeHaveOneFuture =
    (keeping : By) (opening : Opening) (calls : List Logged) (one other rest : List ℕ)
    → IsBeginning keeping opening calls other → IsSameState opening calls one other
    → IsWhole keeping opening calls (one ++ rest) → IsWhole keeping opening calls (other ++ rest)

-- calls that do not bear on another where it may be placed do not when they come, one after another
abbrev pub LeftAloneStaysApart : Type 0
LeftAloneStaysApart =
    (opening : Opening) (calls : List Logged) (placed between : List ℕ) (c : Call) → IsOpening opening
    → AllLeaveAlone opening.limit calls (updates_by opening calls placed) c between
    → AreAllApart opening.limit calls (updates_by opening calls placed) c between

-- where an order begins with some calls, one begins with them and one of those that are enough
abbrev pub OneOfEnoughComesNext : Type 0
OneOfEnoughComesNext =
    (keeping : By) (opening : Opening) (calls : List Logged) (placed chosen : List ℕ) → IsOpening opening
    → AreEnough keeping opening calls placed chosen → CanEnd keeping opening calls placed
    → (i : ℕ) × IsIn chosen i × CanEnd keeping opening calls (placed ++ i ∷ [])

-- a set of calls that asks for no more is enough
abbrev pub ClosedAreEnough : Type 0
ClosedAreEnough =
    (keeping : By) (opening : Opening) (calls : List Logged) (placed chosen : List ℕ)
    → AreClosed keeping opening calls placed chosen → AreEnough keeping opening calls placed chosen

-- a call that does not have its reply here has it in no order where nothing that brings or takes out rows that it asks
-- for stands between
abbrev pub UntouchedLack : Type 0
UntouchedLack =
    (keeping : By) (opening : Opening) (calls : List Logged) (placed chosen : List ℕ) (i : ℕ) (c : Logged)
    → IsOpening opening → IsIn chosen i → slice_get calls i ≡ Some c → is_known c ≡ true
    → ¬ IsReplied opening.schema opening.limit (updates_by opening calls placed) c
    → ((o : ℕ) (d : Logged) → MayComeBefore keeping calls placed chosen o d
    → LeavesRows opening.limit (updates_by opening calls placed) d.call c.call)
    → Lacks keeping opening calls placed chosen i

-- where nothing comes that it asks for, a call meets some of the rows that it would meet here: where none of these suit, it
-- is in no such order
abbrev pub WantingMoreLack : Type 0
WantingMoreLack =
    (keeping : By) (opening : Opening) (calls : List Logged) (placed chosen : List ℕ) (i : ℕ) (c : Logged)
    → IsOpening opening → IsIn chosen i → slice_get calls i ≡ Some c
    → ((met : List Row) → IsPart met (rows_met (updates_by opening calls placed) c.call) → ¬ Suits opening.schema c met)
    → OthersBringNone keeping opening calls placed chosen c.call → Lacks keeping opening calls placed chosen i

-- where none of them goes, it meets them all, with others perhaps: where no such rows suit, it is in no such order
abbrev pub WantingFewerLack : Type 0
WantingFewerLack =
    (keeping : By) (opening : Opening) (calls : List Logged) (placed chosen : List ℕ) (i : ℕ) (c : Logged)
    → IsOpening opening → IsIn chosen i → slice_get calls i ≡ Some c
    → ((met : List Row) → IsPart (rows_met (updates_by opening calls placed) c.call) met → ¬ Suits opening.schema c met)
    → OthersTakeNone keeping opening calls placed chosen c.call → Lacks keeping opening calls placed chosen i

-- where all was tried no order begins with these calls
abbrev pub ExhaustedHasNoEnd : Type 0
ExhaustedHasNoEnd =
    (keeping : By) (opening : Opening) (calls : List Logged) (placed : List ℕ) → IsOpening opening
    → IsExhausted keeping opening calls placed → ¬ CanEnd keeping opening calls placed

-- where all was tried from the start there is no order
abbrev pub ExhaustedHasNoOrder : Type 0
ExhaustedHasNoOrder =
    (keeping : By) (opening : Opening) (calls : List Logged) → IsOpening opening
    → IsExhausted keeping opening calls [] → (o : Order) → ¬ IsOrderFound keeping opening calls o
