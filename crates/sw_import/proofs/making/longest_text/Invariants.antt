use Rattle.std.proofs.Common.{◌≡◌, ◌-◌}
use Rattle.sw_import.specs.Made.{longest_text, longest_within}
use Rattle.sw_import.proofs.making.longest_text.Given as goal

abbrev pub invariant-loop-cut : goal.invariant-loop-cut
invariant-loop-cut l = longest_within (l.most - l.cut) l.cell ≡ longest_text l.cell
