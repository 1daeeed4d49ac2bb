use Rattle.std.proofs.Common.{length, ◌-◌}
use Rattle.sw_set.proofs.prepare.at_once.+step_lacking.Given as goal

abbrev pub decreases-step_lacking : goal.decreases-step_lacking
decreases-step_lacking g l = length l.boxes.now - l.from
