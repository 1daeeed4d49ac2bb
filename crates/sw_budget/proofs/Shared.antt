-- Who has a `&` to a purse or a hold has nothing of its seat, so these may be behind one in many threads.
use denote.RattleType.{RattleType}
use denote.Param.Send.{IsSend, IsSync, sendable, whole-keyless}
use Rattle.std.proofs.alloc.Global.TheSendSync.{the_send as global_send, the_sync as global_sync}
use Rattle.std.below.std_heap.proofs.GlobalAllocator.TheSendSync.{the_frees as global_frees}
use Rattle.std.proofs.sync.Arc.TheSendSync.{the_sync as arc_sync}
use Rattle.atomic_table.proofs.shared.Seat.TheSendSync.{the_send as seat_send}
use Rattle.atomic_table.proofs.owned.Table.TheSendSync.{the_sync as table_sync, the_send as table_send}
use Rattle.atomic_table.specs.contracts.shared.Seat as Seat
use Rattle.sw_budget.specs.contracts.seat.Purse as Purse
use Rattle.sw_budget.specs.contracts.seat.Purse.TheInside as PurseInside
use Rattle.sw_budget.specs.contracts.seat.Hold as Hold
use Rattle.sw_budget.specs.contracts.seat.Hold.TheInside as HoldInside
use Rattle.sw_budget.specs.contracts.Lease as Lease
use Rattle.sw_budget.specs.contracts.Lease.TheInside as LeaseInside

-- a seat is shared by a fractured borrow of the whole of it
seat_sync : (S V : RattleType) → IsSend S → IsSync (Seat.the_row S V)
seat_sync S V s = record { shared = λ d b o κ q. whole-keyless _ _ (λ z vs. (seat_send S V s).owned z vs) q d b o }

purse_inside_sync : IsSync PurseInside.the_row
purse_inside_sync = search (sendable, seat_sync, arc_sync, table_sync, table_send, global_send, global_sync, global_frees) depth 30

-- for the types of maps, which have one while they are blank
pub purse_sync : IsSync Purse.the_row
purse_sync = search (sendable, purse_inside_sync) depth 30

hold_inside_sync : IsSync HoldInside.the_row
hold_inside_sync = search (sendable, seat_sync, arc_sync, table_sync, table_send, global_send, global_sync, global_frees) depth 30

hold_sync : IsSync Hold.the_row
hold_sync = search (sendable, hold_inside_sync) depth 30

lease_inside_sync : IsSync LeaseInside.the_row
lease_inside_sync = search (sendable, hold_sync) depth 30

-- for the types of maps, which have one while they are in use
pub lease_sync : IsSync Lease.the_row
lease_sync = search (sendable, lease_inside_sync) depth 30
