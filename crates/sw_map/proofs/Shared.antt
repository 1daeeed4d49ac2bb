-- Who has a `&` to a map has nothing of its seat.
use denote.Param.Send.{IsSync, sendable}
use denote.Struct.Declared.{shape}
use denote.Struct.Struct.{Struct}
use Rattle.std.proofs.alloc.Global.TheSendSync.{the_sync as global_sync}
use Rattle.std.proofs.vec.Vec.TheSendSync.{the_sync as vec_sync}
use Rattle.sw_budget.proofs.Shared.{purse_sync, lease_sync}
use Rattle.sw_kernel.specs.contracts.mark.Mark as Mark
use Rattle.sw_map.specs.contracts.lists.Lists as Lists
use Rattle.sw_map.specs.contracts.pairs.Pairs as Pairs
use Rattle.sw_map.specs.contracts.pairs.Pairs.TheInside as PairsInside
use Rattle.sw_map.specs.contracts.active.Active as Active
use Rattle.sw_map.specs.contracts.home.Idle as Idle
use Rattle.sw_map.specs.contracts.pair_map.PairMap.{the_row}

mark_sync : IsSync Mark.the_row
mark_sync = search (sendable) depth 30

lists_sync : IsSync Lists.the_row
lists_sync = search (sendable, vec_sync, global_sync) depth 30

pairs_inside_sync : IsSync PairsInside.the_row
pairs_inside_sync = search (sendable, vec_sync, mark_sync, global_sync) depth 30

pairs_sync : IsSync Pairs.the_row
pairs_sync = search (sendable, pairs_inside_sync) depth 30

active_sync : IsSync (Struct (shape Active.the_type))
active_sync = search (sendable, lease_sync, pairs_sync) depth 30

idle_sync : IsSync (Struct (shape Idle.the_type))
idle_sync = search (sendable, purse_sync, lists_sync) depth 30

-- for whoever hands a map of this type to a function over maps of any type: it answers the bound
pub maps_sync : IsSync the_row
maps_sync = search (sendable, active_sync, idle_sync) depth 30
