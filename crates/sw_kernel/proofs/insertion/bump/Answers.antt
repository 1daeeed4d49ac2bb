use Rattle.std.proofs.Common.{◌^◌, pos, arith}
use Rattle.sw_query.specs.declared.bound.Bound.TheVariants.{Before}
use Rattle.sw_kernel.specs.declared.mark.Mark.{Mark}
use Rattle.sw_kernel.proofs.Ripples.{kept-at}
use Rattle.sw_kernel.proofs.insertion.bump.Goals as goal

pub overflow_add-marks : goal.overflow_add-marks
overflow_add-marks c =
    let none : Mark = record { bound = Before (pos 0); at = 0 } in
    let small = kept-at c.loop-k.marks c.args.marks.now c.loop-k.k (2 ^ 63) none c.loop-k.invariant.left (omega arith) c.requires.range in
    record { fits = omega arith }
