use Rattle.std.proofs.Common.{pos, arith}
use Rattle.sw_query.specs.declared.bound.Bound.TheVariants.{Before}
use Rattle.sw_kernel.specs.declared.mark.Mark.{Mark}
use Rattle.sw_kernel.proofs.Removals.{same-at}
use Rattle.sw_kernel.proofs.removal.pull.Goals as goal

pub overflow_sub-marks : goal.overflow_sub-marks
overflow_sub-marks c =
    let none : Mark = record { bound = Before (pos 0); at = 0 } in
    let same = same-at c.loop-k.marks c.args.marks.now c.loop-k.k none c.loop-k.invariant.left in
    let r = c.requires.reach c.loop-k.k none (omega arith) (omega arith) in
    rw same r
