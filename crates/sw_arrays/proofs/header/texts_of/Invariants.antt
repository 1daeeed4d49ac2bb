use Rattle.std.proofs.Common.{◌≡◌, map, take, string_bytes}
use Rattle.sw_arrays.proofs.header.texts_of.Given as goal

abbrev pub invariant-loop-field : goal.invariant-loop-field
invariant-loop-field l = map (λ t. t.now) l.texts.items ≡ map (λ f. string_bytes f) (take l.field-index l.fields)
