use Rattle.std.proofs.Common.{map, take}
use Rattle.std.specs.Prelude.{string_bytes}
use Rattle.std.specs.List.{AllZip}
use Rattle.sw_keys.specs.Renamings.{IsRenamedKey}
use Rattle.sw_keys.proofs.renaming.renamed_keys.Given as goal

abbrev pub invariant-loop-place : goal.invariant-loop-place
invariant-loop-place l = AllZip (IsRenamedKey l.names.keys.now) (take l.place (map (λ t. string_bytes t) l.lines)) (map (λ t. string_bytes t) l.new.items)
