-- Why no table is made.
use Rattle.std.specs.Prelude.{Bool, true, false}
use Rattle.sw_query.specs.declared.refusal.Refusal.TheVariants as refusal
use Rattle.sw_import.specs.declared.faults.Fault.{Fault}
use Rattle.sw_import.specs.declared.faults.Fault.TheVariants as fault

-- whether memory was wanting
abbrev pub is_memory : Fault → Bool
is_memory fault.NoMemory = true
is_memory (fault.Table refusal.NoMemory) = true
is_memory f = false
