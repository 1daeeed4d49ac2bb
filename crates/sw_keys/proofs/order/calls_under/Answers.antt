use Rattle.sw_keys.proofs.order.calls_under.Goals as goal

pub returns : goal.returns
returns c = record {
  once = c.are_once-once.ensures c.if-not-once.false;
  first = c.keep_first-kept.ensures c.if-not-kept.false;
  calls_are = rw c.in-Some.is at c.in_ok-made.ensures;
}
