use Rattle.std.proofs.Common.{subst, ℕ, Ok, Err}
use Rattle.sw_cli.specs.Run.{Start}
use Rattle.sw_cli.specs.Sides.{sink_by}
use Rattle.sw_cli.specs.Starts.{Goes}
use Rattle.sw_cli.proofs.running.run_read.Goals as goal

pub returns-in-Ok : goal.returns-in-Ok
returns-in-Ok g c =
    let w = sink_by g.W.Sink c.args.out.now c.make_and_write.new.out in
    subst (λ (s : ℕ × Start). Goes s.0 s.1 w (Ok c.in-Ok.history)) c.of-workload.ensures (rw c.in-Ok.is at c.make_and_write.ensures)

pub returns-in-Err : goal.returns-in-Err
returns-in-Err g c =
    let w = sink_by g.W.Sink c.args.out.now c.make_and_write.new.out in
    subst (λ (s : ℕ × Start). Goes s.0 s.1 w (Err c.in-Err.e)) c.of-workload.ensures (rw c.in-Err.is at c.make_and_write.ensures)
