use Rattle.std.proofs.Common.{refl}
use Rattle.sw_lang.specs.CutsReading.{cut_name, cut_split, cut_value, cuts_at, with_cut, with_room}
use Rattle.sw_lang.proofs.laws.examples_of_cuts.Goals as goal

pub returns-clause-whole_numbers : goal.returns-clause-whole_numbers
unfolding cut_name cut_split cut_value cuts_at with_cut with_room
returns-clause-whole_numbers c = refl

pub returns-clause-kinds : goal.returns-clause-kinds
unfolding cut_name cut_split cut_value cuts_at with_cut with_room
returns-clause-kinds c = refl
