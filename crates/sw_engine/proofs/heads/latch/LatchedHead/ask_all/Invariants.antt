use Rattle.std.proofs.Common.{◌≡◌, ◌≤◌, All, length, map, take, vec_capacity}
use Rattle.sw_query.specs.Scan.{answer}
use Rattle.sw_query.specs.declared.query.Call.TheVariants.{Select}
use Rattle.sw_table.specs.Updates.{rows_of}
use Rattle.sw_engine.proofs.heads.latch.LatchedHead.ask_all.Given as goal

abbrev pub invariant-loop-call : goal.invariant-loop-call
invariant-loop-call g l = record {
  each : length l.kept.items ≡ l.call-index;
  room : length l.firsts ≤ vec_capacity l.kept;
  also : length l.firsts ≤ vec_capacity l.replies;
  same : l.replies.items ≡ map (λ t. t.1) l.kept.items;
  plain : All (λ t. t.1 ≡ answer (rows_of l.head.updates) t.0) l.kept.items;
  asked : map (λ t. Select t.0) l.kept.items ≡ take (length l.kept.items) l.calls;
}
