use Rattle.std.proofs.Common.{take}
use Rattle.std.specs.List.{AllZip}
use Rattle.sw_keys.specs.Renamings.{IsRenamed}
use Rattle.sw_keys.proofs.renaming.renamed_calls.Given as goal

abbrev pub invariant-loop-place : goal.invariant-loop-place
invariant-loop-place l = AllZip (IsRenamed l.names.keys.now) (take l.place l.calls) l.new.items
