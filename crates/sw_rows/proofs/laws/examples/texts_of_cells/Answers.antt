use Rattle.std.proofs.Common.{refl}
use Rattle.std.specs.Char.{encode_utf8}
use Rattle.std.specs.Str.{chars, is_utf8}
use Rattle.sw_rows.proofs.laws.examples.texts_of_cells.Goals as goal

pub returns-clause-plain : goal.returns-clause-plain
unfolding chars is_utf8 encode_utf8
returns-clause-plain c = refl

pub returns-clause-empty : goal.returns-clause-empty
unfolding chars is_utf8 encode_utf8
returns-clause-empty c = refl

pub returns-clause-two_bytes : goal.returns-clause-two_bytes
unfolding chars is_utf8 encode_utf8
returns-clause-two_bytes c = refl

pub returns-clause-half_a_character : goal.returns-clause-half_a_character
unfolding chars is_utf8 encode_utf8
returns-clause-half_a_character c = refl

pub returns-clause-longest : goal.returns-clause-longest
unfolding chars is_utf8 encode_utf8
returns-clause-longest c = refl
