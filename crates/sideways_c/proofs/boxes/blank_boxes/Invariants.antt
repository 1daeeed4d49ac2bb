use Rattle.std.proofs.Common.{◌≡◌, All, length}
use Rattle.sw_map.specs.Held.{blank}
use Rattle.sw_budget.specs.Account.{empty}
use Rattle.sw_map.specs.States.{held_by, seat_of}
use Rattle.sideways_c.proofs.boxes.blank_boxes.Given as goal

abbrev pub invariant-loop : goal.invariant-loop
invariant-loop l = record {
  many : length l.maps.items ≡ l.counter;
  purse : l.purse ≡ empty l.purse.budget l.cells;
  budget : All (λ m. seat_of m.home ≡ empty l.purse.budget l.cells) l.maps.items;
  blank : All (λ m. held_by m.home ≡ blank) l.maps.items;
}
