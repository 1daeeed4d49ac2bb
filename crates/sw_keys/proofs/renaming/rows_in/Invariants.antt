use Rattle.std.proofs.Common.{map, take}
use Rattle.std.specs.Prelude.{string_bytes}
use Rattle.std.specs.List.{AllZip}
use Rattle.sw_keys.specs.Renamings.{IsRowAt}
use Rattle.sw_keys.proofs.renaming.rows_in.Given as goal

abbrev pub invariant-loop-place : goal.invariant-loop-place
invariant-loop-place l = AllZip (IsRowAt l.names.keys.now (map (λ t. string_bytes t) l.rows)) (take l.place-index l.order) (map (λ t. string_bytes t) l.new.items)
