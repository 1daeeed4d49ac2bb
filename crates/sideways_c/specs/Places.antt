-- Where a table that is given is none.
use Rattle.std.specs.Prelude.{ℕ, ◌≡◌, Result, Ok, Err}
use Rattle.sw_rows.specs.Faults.{Fault}
use Rattle.sw_rows.specs.Gives.{Fails}
use Rattle.sw_rows.specs.Tables.{Table}
use Rattle.sw_query.specs.declared.refusal.Refusal.{Refusal}
use Rattle.sw_query.specs.declared.refusal.Refusal.TheVariants as refusal
use Rattle.sw_arrays.specs.declared.columns.Place.{Place}
use Rattle.sideways_c.specs.Codes.{code_of}
use Rattle.sideways_c.specs.declared.codes.TheConstants.{OK}

-- what was read is a table, or this is why it is none, or there was no memory
abbrev pub ReadsTable : Result Table Fault → Result (Unit {0}) Refusal → Type 0
ReadsTable read (Ok done) = (t : Table) × (read ≡ Ok t)
ReadsTable read (Err e) = Fails ⊥ e read

abbrev pub nowhere : Place
nowhere = record { row = 0; column = 0 }

-- the row and the column of a fault, the header being row 0
abbrev pub place_of : Refusal → Place
place_of (refusal.BadTable row column) = record { row = row; column = column }
place_of e = nowhere

abbrev pub IsPlaceTold : Result (Unit {0}) Refusal → ℕ → Place → Type 0
IsPlaceTold (Ok done) code place = (code ≡ OK) × (place ≡ nowhere)
IsPlaceTold (Err e) code place = (code ≡ code_of e) × (place ≡ place_of e)

abbrev pub TellsPlace : Result Table Fault → ℕ → Place → Type 0
TellsPlace read code place = (r : Result (Unit {0}) Refusal) × ReadsTable read r × IsPlaceTold r code place
