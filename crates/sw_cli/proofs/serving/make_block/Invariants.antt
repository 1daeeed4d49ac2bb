use Rattle.std.proofs.Common.{◌≤◌, length}
use Rattle.sw_cli.specs.Served.{IsSameJob}
use Rattle.sw_cli.proofs.serving.make_block.Given as goal

abbrev pub invariant-loop-turn : goal.invariant-loop-turn
invariant-loop-turn g l = record {
  same : IsSameJob l.fn.job l.job;
  more : l._turn ≤ length l.job.told;
}
