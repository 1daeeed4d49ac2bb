use Rattle.std.proofs.Common.{◌≤◌, ◌+◌, ◌-◌, length, vec_capacity, vec_len}
use Rattle.sw_cli.proofs.serving.tell_heads.Given as goal

abbrev pub invariant-loop-head : goal.invariant-loop-head
invariant-loop-head g l = vec_len l.stats + (length g.J.Naming.columns - l.head) ≤ vec_capacity l.stats
