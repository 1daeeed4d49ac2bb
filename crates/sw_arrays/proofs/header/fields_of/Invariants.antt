use Rattle.std.proofs.Common.{◌≡◌, map, take, string_bytes}
use Rattle.sw_arrays.specs.Columns.{field_of}
use Rattle.sw_arrays.proofs.header.fields_of.Given as goal

abbrev pub invariant-loop-attribute : goal.invariant-loop-attribute
invariant-loop-attribute l = map (λ f. string_bytes f) l.fields.items ≡ map field_of (take l.attribute-index l.attributes)
