use Rattle.std.proofs.Common.{◌≡◌, map, take}
use Rattle.std.specs.Prelude.{string_bytes}
use Rattle.sw_logs.proofs.copying.copied_texts.Given as goal

abbrev pub invariant-loop-text : goal.invariant-loop-text
invariant-loop-text l = map (λ t. string_bytes t) l.copy.items ≡ map (λ t. string_bytes t) (take l.text-index l.texts)
