use denote.Param.Send.{IsSend, IsSync, param_sync, arg_sync, sendable}
use Rattle.std.proofs.alloc.Global.TheSendSync.{the_send as global_send, the_sync as global_sync}
use Rattle.std.below.std_heap.proofs.GlobalAllocator.TheSendSync.{the_frees as global_frees}
use Rattle.std.proofs.sync.Arc.TheSendSync.{the_sync as arc_sync}
use Rattle.std.below.core.proofs.Crossing.{crosses}
use Rattle.sw_map.proofs.Shared.{maps_sync}
use Rattle.test_maps.specs.contracts.gated.Gate as Gate
use Rattle.test_maps.specs.contracts.counting.Counts as Counts
use Rattle.test_engine.proofs.runs.shared.Goals as goal

counts_send : IsSend Counts.the_row
counts_send = search (sendable, crosses) depth 30

counts_sync : IsSync Counts.the_row
counts_sync = search (sendable, crosses) depth 30

gate_sync : IsSync Gate.the_row
gate_sync = search (sendable, crosses, arc_sync, global_send, global_sync, global_frees) depth 30

-- the maps of the trial may be behind a `&` in many threads
pub run_shared-requires-sync-M : goal.run_shared-requires-sync-M
run_shared-requires-sync-M g c κs within = search (sendable, crosses, param_sync, arg_sync, maps_sync, arc_sync, counts_send, counts_sync, gate_sync, global_send, global_sync, global_frees) depth 30
