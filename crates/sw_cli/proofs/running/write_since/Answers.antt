use Rattle.sw_cli.specs.Outcomes.{blocks_told, text_of}
use Rattle.sw_cli.specs.Sides.{sink_seen}
use Rattle.sw_cli.proofs.Going.{goes_out, served_err, served_ok}
use Rattle.sw_cli.proofs.running.write_since.Goals as goal

pub returns-in-Ok : goal.returns-in-Ok
returns-in-Ok g c =
    let s = g.W.Sink in
    let b = c.write_ended-written.new.out in
    let e = c.args.outgoing.ended in
    let out = goes_out g.B.Base.base (s.taken c.args.sink) _ (s.failed c.args.sink) _ b.sent b.block.items (sink_seen _ _ _ _) c.write_ended-written.result c.end-sink.result.1 (text_of e.history.columns (blocks_told e.blocks.items e.told.items)) c.end-sink.ensures c.requires c.new-buffered.ensures.taken c.new-buffered.ensures.failed c.write_ended-written.ensures in
    (served_ok c.into_history.result _ _ _ _ _ _ (rw c.in-Ok.is at out), c.into_history.ensures)

pub returns-in-Err : goal.returns-in-Err
returns-in-Err g c =
    let s = g.W.Sink in
    let b = c.write_ended-written.new.out in
    let e = c.args.outgoing.ended in
    let out = goes_out g.B.Base.base (s.taken c.args.sink) _ (s.failed c.args.sink) _ b.sent b.block.items (sink_seen _ _ _ _) c.write_ended-written.result c.end-sink.result.1 (text_of e.history.columns (blocks_told e.blocks.items e.told.items)) c.end-sink.ensures c.requires c.new-buffered.ensures.taken c.new-buffered.ensures.failed c.write_ended-written.ensures in
    (served_err c.in-Err.e _ _ _ _ _ (rw c.in-Err.is at out), tt)
