use Rattle.sw_logs.proofs.order.is_order_of.Goals as goal

pub returns : goal.returns
returns c = λ told.
    let once = c.in_ok-once.ensures c.if-not-once.false in
    record {
      numbers = c.are_numbers-numbers.ensures c.if-not-numbers.false;
      once = once.0;
      known = once.1;
      sessions = c.in_ok-kept.ensures c.if-not-kept.false;
      times = c.keeps_by.ensures told;
    }
