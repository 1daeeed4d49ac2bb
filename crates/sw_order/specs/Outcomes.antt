-- What looking for an order may come to.
use Rattle.std.specs.Prelude.{Bool, true, false, List}
use Rattle.sw_logs.specs.declared.opening.Opening.{Opening}
use Rattle.sw_logs.specs.declared.logged.Logged.{Logged}
use Rattle.sw_logs.specs.declared.order.By.{By}
use Rattle.sw_logs.specs.declared.order.Order.{Order}
use Rattle.sw_logs.specs.Orders.{IsOrderFound}
use Rattle.sw_keys.specs.Renamings.{IsRenamedOrder}
use Rattle.sw_order.specs.declared.building.Rules.{Rules}
use Rattle.sw_order.specs.declared.finding.Outcome.{Outcome}
use Rattle.sw_order.specs.declared.finding.Outcome.TheVariants as outcome

-- an order of the calls, with the keys of the plain list or with whatever the store gave, renamed
abbrev pub IsFound : Bool → By → Opening → List Logged → Order → Type 0
IsFound false keeping opening calls o = IsOrderFound keeping opening calls o
IsFound true keeping opening calls o = IsRenamedOrder keeping opening calls o

-- what is said to be an order of the calls is one; where none is told, nothing is said of the calls
abbrev pub IsOutcome : Rules → Opening → List Logged → Outcome → Type 0
IsOutcome rules opening calls (outcome.Found o) = IsFound rules.any_keys rules.by opening calls o
IsOutcome rules opening calls (outcome.NoOrder r) = Unit {0}
IsOutcome rules opening calls (outcome.GivenUp r) = Unit {0}
