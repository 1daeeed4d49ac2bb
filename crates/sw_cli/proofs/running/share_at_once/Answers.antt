use Rattle.sw_cli.specs.Sides.{sink_seen}
use Rattle.sw_cli.proofs.Going.{goes}
use Rattle.sw_cli.proofs.running.share_at_once.Goals as goal

pub returns-in-Ok : goal.returns-in-Ok
returns-in-Ok g c =
    let e = c.in-Ok.outgoing.ended in
    let w = c.args.workload in
    goes w.0 w.1 e.blocks.items e.told.items e.history (sink_seen _ _ _ _) c.replace_with.result c.in-Ok.ensures.blocks e.all c.in-Ok.ensures.why c.in-Ok.ensures.record_is c.replace_with.ensures.0 c.replace_with.ensures.1
