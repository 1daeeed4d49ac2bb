use denote.RattleType.{RattleType}
use denote.Param.Send.{IsSync, struct_sync, sendable}
use denote.Struct.Owning.{shape, to}
use Rattle.sw_tie.specs.contracts.Book.{the_row, the_type}

-- a reference to a book may go to another thread, whatever its rows show
pub sync : (T : RattleType) → IsSync (the_row T)
sync T = let O = the_type T in record { shared = λ d b o κ. ((struct_sync (shape O) (search sendable, tt)).shared (to O d) b o κ, tt) }
