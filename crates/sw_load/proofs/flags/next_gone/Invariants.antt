use Rattle.sw_load.specs.Flags.{AreLive}
use Rattle.sw_load.proofs.flags.next_gone.Given as goal

abbrev pub invariant-loop-place : goal.invariant-loop-place
invariant-loop-place l = AreLive l.live l.from l.place
