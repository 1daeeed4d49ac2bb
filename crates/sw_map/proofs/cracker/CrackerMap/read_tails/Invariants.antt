use Rattle.std.proofs.Common.{◌≡◌, length, take, drop}
use Rattle.sw_map.specs.Held.{tails_in}
use Rattle.sw_map.proofs.cracker.CrackerMap.read_tails.Given as goal

-- the tails so far are read
abbrev pub invariant-loop-at : goal.invariant-loop-at
invariant-loop-at g l = (length l.tails ≡ length l.fn.tails) × (take l.at l.tails ≡ take l.at (drop l.place (tails_in (g.Self.CrackerMap.held l.self))))
