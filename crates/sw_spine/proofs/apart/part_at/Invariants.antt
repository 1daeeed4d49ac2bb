use Rattle.std.proofs.Common.{◌≡◌, map, take, string_bytes}
use Rattle.sw_spine.proofs.apart.part_at.Given as goal

abbrev pub invariant-loop-place : goal.invariant-loop-place
invariant-loop-place l = take l.place (map (λ t. string_bytes t) l.given) ≡ take l.place (map (λ t. string_bytes t) l.listed)
