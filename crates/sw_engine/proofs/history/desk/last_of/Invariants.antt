use Rattle.std.proofs.Common.{◌≡◌, ◌-◌, true, drop, length}
use Rattle.sw_spine.specs.History.{is_absent}
use Rattle.sw_engine.proofs.history.desk.last_of.Given as goal

abbrev pub invariant-loop-behind : goal.invariant-loop-behind
invariant-loop-behind l = is_absent l.session (drop (length l.entries - l.behind) l.entries) ≡ true
