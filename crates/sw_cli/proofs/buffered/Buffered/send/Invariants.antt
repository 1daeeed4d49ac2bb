use Rattle.std.proofs.Common.{◌≡◌, ◌-◌, drop, vec_len}
use Rattle.std.specs.Io.KnownBytes.{Keeps, append_known}
use Rattle.sw_cli.proofs.buffered.Buffered.send.Given as goal

abbrev pub invariant-loop-self : goal.invariant-loop-self
invariant-loop-self g l =
    let s = g.W.Sink in
    record {
      kept : Keeps (append_known (s.taken l.fn.self.sink) (drop l.fn.self.sent l.fn.self.block.items)) (append_known (s.taken l.self.sink) (drop l.self.sent l.self.block.items));
      steady : s.failed l.self.sink ≡ s.failed l.fn.self.sink;
    }

abbrev pub decreases-loop-self : goal.decreases-loop-self
decreases-loop-self g l = vec_len l.self.block - l.self.sent
