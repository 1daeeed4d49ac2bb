use Rattle.std.proofs.Common.{◌≡◌, map, take}
use Rattle.std.specs.Prelude.{string_bytes}
use Rattle.sw_histories.proofs.reading.entries.copies.Given as goal

abbrev pub invariant-loop-text : goal.invariant-loop-text
invariant-loop-text l = map (λ t. string_bytes t) l.found.items ≡ map (λ t. t.now) (take l.text-index l.texts)
