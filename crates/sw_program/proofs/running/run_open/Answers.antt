use denote.Param.Send.{param_sync, arg_sync}
use Rattle.sw_map.proofs.Shared.{maps_sync}
use Rattle.sw_program.proofs.running.run_open.Goals as goal

-- the program's maps may be behind a `&` in many threads
pub run_shared-requires-sync-M : goal.run_shared-requires-sync-M
run_shared-requires-sync-M g c κs within = search (param_sync, arg_sync, maps_sync)
