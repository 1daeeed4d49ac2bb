-- The hasher that a key of texts makes.
use Rattle.std.specs.Prelude.{Option, Some, None}
use Rattle.std.specs.Hash.DefaultHasher as sip
use Rattle.std.specs.RandomState.{initial_hasher}
use Rattle.std.specs.declared.hash.DefaultHasher.{DefaultHasher}
use Rattle.std.specs.declared.hash.RandomState.{RandomState}
use Rattle.sw_rows.specs.declared.schema.text_key.TextKey.{TextKey}

abbrev pub hasher_from : Option RandomState → DefaultHasher
hasher_from None = sip.initial
hasher_from (Some state) = initial_hasher state

-- by the key's own random words, or by none
abbrev pub hasher_under : TextKey → DefaultHasher
hasher_under key = hasher_from key.state
