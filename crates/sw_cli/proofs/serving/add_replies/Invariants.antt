use Rattle.std.proofs.Common.{◌≡◌, ◌++◌, map, vec_capacity, Ok}
use Rattle.sw_cli.proofs.serving.add_replies.Given as goal

abbrev pub invariant-loop-reply : goal.invariant-loop-reply
invariant-loop-reply g l = record {
  added : l.told.items ≡ l.fn.told.items ++ map (λ r. Ok r) l.yielded;
  all : l.yielded ++ l.reply-iterator.rest.items ≡ l.fn.replies.items;
  room : vec_capacity l.told ≡ vec_capacity l.fn.told;
}
