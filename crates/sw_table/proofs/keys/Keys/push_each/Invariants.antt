use Rattle.std.proofs.Common.{◌≡◌, ◌++◌, drop, take}
use Rattle.sw_table.proofs.keys.Keys.push_each.Given as goal

abbrev pub invariant-loop-done : goal.invariant-loop-done
invariant-loop-done l = l.self ≡ l.initial.self ++ take l.done (drop l.start l.keys)
