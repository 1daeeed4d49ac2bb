use Rattle.std.proofs.Common.{rules}
use Rattle.sw_cli.proofs.Waiting.{extends_self}
use Rattle.sw_cli.proofs.buffered.Buffered.new.Goals as goal

pub invariant_of-result : goal.invariant_of-result
invariant_of-result g c = record {
  room = search rules;
  filled = search rules;
  waiting = search rules;
  after = rw c.requires.base (extends_self (g.W.Sink.taken c.args.sink));
}
