-- Pieces of the worked examples, computed.
use Rattle.std.proofs.Common.{◌≡◌, ◌∷◌, [], pos, Some, refl, inr, arith}
use Rattle.sw_query.specs.declared.bound.Bound.TheVariants.{Before, After}
use Rattle.sw_kernel.specs.Partition.{left_part, right_part}
use Rattle.sw_map.specs.Lawful.{IsLawful, rows_by}
use Rattle.sw_set.specs.Shelf.{logged_rows}
use Rattle.test_areas.specs.Examples.{begun_tape, cracked_pieces, cracked_tape, fives_tape, greatest_bound, keys_by, least_bound, longer_tape, mixed_tape, places_by, second_map, shorter_tape, three_rows, whole_tape}

-- the pieces after one range
pub cracked : rows_by 0 cracked_tape ≡ cracked_pieces
unfolding left_part right_part
cracked = refl

-- the map that replayed it is lawful
pub mapped : IsLawful 0 cracked_tape second_map
unfolding IsLawful left_part right_part
mapped = inr (record { begun = refl; same_head = refl; within = omega arith; pairs_are = refl })

-- the keys with a row more
pub lengthened : keys_by longer_tape ≡ 2 ∷ 5 ∷ 3 ∷ 1 ∷ 4 ∷ []
unfolding left_part right_part
lengthened = refl

-- where its bounds stand then
pub lengthened_places : places_by longer_tape (Before (pos 10)) (After (pos 15)) ≡ (Some 2, Some 4)
unfolding left_part right_part
lengthened_places = refl

-- the keys with a row less
pub shortened : keys_by shorter_tape ≡ 3 ∷ 1 ∷ 4 ∷ []
unfolding left_part right_part
shortened = refl

-- where its bounds stand then
pub shortened_places : places_by shorter_tape (Before (pos 10)) (After (pos 15)) ≡ (Some 0, Some 2)
unfolding left_part right_part
shortened_places = refl

-- the rows that are left
pub shortened_rows : logged_rows 0 shorter_tape ≡ three_rows
unfolding left_part right_part
shortened_rows = refl

-- the keys of a restart without that row
pub begun_anew : keys_by begun_tape ≡ 1 ∷ 3 ∷ 4 ∷ []
unfolding left_part right_part
begun_anew = refl

-- the keys under a range that has all
pub wholly : keys_by whole_tape ≡ 1 ∷ 2 ∷ 3 ∷ 4 ∷ []
unfolding left_part right_part
wholly = refl

-- where its bounds stand
pub wholly_places : places_by whole_tape least_bound greatest_bound ≡ (Some 0, Some 4)
unfolding left_part right_part
wholly_places = refl

-- the keys of rows that are all the same
pub fived : keys_by fives_tape ≡ 1 ∷ 2 ∷ 3 ∷ []
unfolding left_part right_part
fived = refl

-- where the bounds of that cell stand
pub fived_places : places_by fives_tape (Before (pos 5)) (After (pos 5)) ≡ (Some 0, Some 3)
unfolding left_part right_part
fived_places = refl

-- the keys with a greater and a lesser row more
pub mixed : keys_by mixed_tape ≡ 5 ∷ 2 ∷ 3 ∷ 1 ∷ 4 ∷ []
unfolding left_part right_part
mixed = refl

-- where the bounds stand then
pub mixed_places : places_by mixed_tape (Before (pos 5)) (After (pos 5)) ≡ (Some 1, Some 4)
unfolding left_part right_part
mixed_places = refl
