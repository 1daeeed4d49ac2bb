use Rattle.std.proofs.Common.{◌<◌, ◌+◌, ◌-◌, ◌/◌, ℕ, arith}
use Rattle.sw_load.proofs.Rising.{rises-le}
use Rattle.sw_load.proofs.load_rows.LoadRows.first_not_below.Goals as goal

pub loop-low-preserved-then-key : goal.loop-low-preserved-then-key
loop-low-preserved-then-key c =
    let low = c.loop-low.low in let high = c.loop-low.high in let xs = c.args.self.now.items in
    let mid : ℕ = low + (high - low) / 2 in
    let under : mid < high = omega (arith, c.loop-low-test.true) in
    record {
      order = omega (arith, under);
      within = c.loop-low.invariant.within;
      below = λ i d lt.
          let h = rises-le xs c.requires i mid d (omega (arith, lt)) (omega (arith, under, c.loop-low.invariant.within)) in
          omega (arith, h, c.key.ensures d, c.if-key.true);
      above = c.loop-low.invariant.above;
    }

pub loop-low-preserved : goal.loop-low-preserved
loop-low-preserved c =
    let low = c.loop-low.low in let high = c.loop-low.high in let xs = c.args.self.now.items in
    let mid : ℕ = low + (high - low) / 2 in
    let under : mid < high = omega (arith, c.loop-low-test.true) in
    record {
      order = omega arith;
      within = omega (arith, under, c.loop-low.invariant.within);
      below = c.loop-low.invariant.below;
      above = λ i d le lt.
          let h = rises-le xs c.requires mid i d le lt in
          omega (arith, h, c.key.ensures d, c.if-key.false);
    }
