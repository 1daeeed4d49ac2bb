use Rattle.sw_keys.specs.Renamings.{KeepsFirst}
use Rattle.sw_keys.proofs.renaming.keep_first.Given as goal

abbrev pub invariant-loop-place : goal.invariant-loop-place
invariant-loop-place l = KeepsFirst l.place l.names
