use Rattle.std.proofs.Common.{arith}
use Rattle.sw_load.proofs.Rising.{key-absent}
use Rattle.sw_load.proofs.load_rows.LoadRows.find.Goals as goal
use Rattle.sw_load.proofs.load_rows.LoadRows.find.Goals.{else-place-len-via-then-place-len+else-key, else-place-len-via-else-place-len}

pub returns-else-place-len : goal.returns-else-place-len
returns-else-place-len c =
    key-absent c.args.key c.args.self.now.items c.first_not_below-place.result c.requires c.first_not_below-place.ensures.below c.first_not_below-place.ensures.above
    (elim c.else-place-len.branch [
      | else-place-len-via-then-place-len+else-key w ↦ λ d lt e. absurd (omega (arith, w.if-key.false, w.key.ensures d, e))
      | else-place-len-via-else-place-len w ↦ λ d lt e. absurd (omega (arith, w.if-place-len.false, c.len.ensures.many, lt))
    ])
