use Rattle.std.proofs.Common.{◌≡◌}
use mathlib.Core.List.{IsPrefix}
use Rattle.sw_versions.specs.Pending.{all_of}
use Rattle.sw_versions.specs.Rules.{updates_in}
use Rattle.sw_versions.proofs.shelf.hand_all.Given as goal

abbrev pub invariant-loop : goal.invariant-loop
invariant-loop g l = record {
  all : IsPrefix (all_of l.copies) (updates_in l.booked);
  published : l.copies.published ≡ l.initial.copies.published;
  viewers : l.copies.viewers ≡ l.initial.copies.viewers;
}
