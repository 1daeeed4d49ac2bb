-- The numbers that go over the border.
use Rattle.std.specs.Prelude.{ℕ}
use Rattle.sw_query.specs.declared.refusal.Refusal.{Refusal}
use Rattle.sw_query.specs.declared.refusal.Refusal.TheVariants as refusal
use Rattle.sw_arrays.specs.declared.range.Fault.{Fault}
use Rattle.sw_arrays.specs.declared.range.Fault.TheVariants as fault
use Rattle.sideways_c.specs.declared.codes.TheConstants.{BAD_CELL, BAD_CONDITION, NOT_LEGAL, NO_ATTRIBUTE}

-- the number of a refusal, as everywhere
abbrev pub code_of : Refusal → ℕ
code_of refusal.NoMemory = 1
code_of (refusal.BadTable rec field) = 2
code_of (refusal.BadLine line why) = 3
code_of (refusal.UnknownAttribute name) = 4
code_of (refusal.TooMany limit) = 5
code_of (refusal.NoBlank boxes needed) = 6
code_of (refusal.Short used want capacity) = 7
code_of (refusal.Contended seen found) = 8
code_of (refusal.SharesOut made given) = 9
code_of (refusal.HistoryFull entries) = 10
code_of (refusal.NotLegal index) = NOT_LEGAL
code_of refusal.Input = 12
code_of refusal.Output = 13
code_of (refusal.Ahead seen told) = 14

-- the number of what is wrong with numbers that were given
abbrev pub fault_code : Fault → ℕ
fault_code fault.NoMemory = 1
fault_code fault.NoAttribute = NO_ATTRIBUTE
fault_code fault.BadCondition = BAD_CONDITION
fault_code fault.BadCell = BAD_CELL
