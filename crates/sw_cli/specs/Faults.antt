-- The line that tells of a refusal, and the status that a program ends with.
use Rattle.std.specs.Prelude.{ℕ, List, ◌++◌, codes, decimal}
use Rattle.sw_query.specs.Refusals.{why_name}
use Rattle.sw_query.specs.declared.refusal.Refusal.{Refusal}
use Rattle.sw_query.specs.declared.refusal.Why.{Why}
use Rattle.sw_query.specs.declared.refusal.Refusal.TheVariants as refusal

-- a number after its label
abbrev pub labelled : List ℕ → ℕ → List ℕ
labelled label n = label ++ decimal n

-- the fields of a line that was refused, each by its name and its value
abbrev pub line_text : ℕ → Why → List ℕ
line_text line why = labelled (codes "3 line ") line ++ (codes " why " ++ why_name why)

-- those of a budget that is short
abbrev pub short_text : ℕ → ℕ → ℕ → List ℕ
short_text used want capacity =
    labelled (codes "7 used ") used ++ (labelled (codes " want ") want ++ labelled (codes " capacity ") capacity)

-- the number of a refusal and its fields, each by its name and its value
abbrev pub refusal_text : Refusal → List ℕ
refusal_text refusal.NoMemory = codes "1"
refusal_text (refusal.BadTable rec field) = labelled (codes "2 record ") rec ++ labelled (codes " field ") field
refusal_text (refusal.BadLine line w) = line_text line w
refusal_text (refusal.UnknownAttribute name) = codes "4 name " ++ name
refusal_text (refusal.TooMany limit) = labelled (codes "5 limit ") limit
refusal_text (refusal.NoBlank boxes needed) = labelled (codes "6 boxes ") boxes ++ labelled (codes " needed ") needed
refusal_text (refusal.Short used want capacity) = short_text used want capacity
refusal_text (refusal.Contended seen found) = labelled (codes "8 seen ") seen ++ labelled (codes " found ") found
refusal_text (refusal.SharesOut made given) = labelled (codes "9 made ") made ++ labelled (codes " given ") given
refusal_text (refusal.HistoryFull entries) = labelled (codes "10 entries ") entries
refusal_text (refusal.NotLegal index) = labelled (codes "11 index ") index
refusal_text refusal.Input = codes "12"
refusal_text refusal.Output = codes "13"
refusal_text (refusal.Ahead seen told) = labelled (codes "14 seen ") seen ++ labelled (codes " told ") told

-- the line on standard error
abbrev pub fault_line : Refusal → List ℕ
fault_line r = codes "sideways: refused " ++ (refusal_text r ++ codes "\n")

-- 2 where the fault lies in what the program was given to read, else 3
abbrev pub status_of : Refusal → ℕ
status_of refusal.NoMemory = 3
status_of (refusal.BadTable rec field) = 2
status_of (refusal.BadLine line w) = 2
status_of (refusal.UnknownAttribute name) = 2
status_of (refusal.TooMany limit) = 2
status_of (refusal.NoBlank boxes needed) = 3
status_of (refusal.Short used want capacity) = 3
status_of (refusal.Contended seen found) = 3
status_of (refusal.SharesOut made given) = 3
status_of (refusal.HistoryFull entries) = 3
status_of (refusal.NotLegal index) = 3
status_of refusal.Input = 2
status_of refusal.Output = 3
status_of (refusal.Ahead seen told) = 3
