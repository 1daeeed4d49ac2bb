use Rattle.sw_logs.proofs.order.checked.Goals as goal

pub record_of-requires : goal.record_of-requires
record_of-requires c = record {
  table = c.requires.table;
  fit = c.requires.fit;
  numbers = (c.in_ok-good.ensures c.if-not-good.false).numbers;
}

pub returns-in-Ok : goal.returns-in-Ok
returns-in-Ok c = record {
  record_of = rw c.in-Some.is at c.in_ok-made.ensures;
  legal = c.in-Ok.ensures;
  order = c.in_ok-good.ensures c.if-not-good.false;
}
