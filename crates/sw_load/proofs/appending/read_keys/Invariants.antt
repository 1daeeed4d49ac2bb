use Rattle.std.proofs.Common.{◌≡◌, length, map, take, drop}
use Rattle.sw_load.specs.Appended.{key_cell}
use Rattle.sw_load.proofs.appending.read_keys.Given as goal

-- the keys so far are read
abbrev pub invariant-loop-k : goal.invariant-loop-k
invariant-loop-k l = (length l.block ≡ length l.fn.block) × (take l.k l.block ≡ map key_cell (take l.k (drop l.start l.rows.items)))
