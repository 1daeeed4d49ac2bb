use Rattle.std.proofs.Common.{◌-◌, ◌<◌, length, pos, arith, sym}
use Rattle.sw_query.specs.declared.bound.Bound.TheVariants.{Before}
use Rattle.sw_kernel.specs.declared.mark.Mark.{Mark}
use Rattle.sw_map.proofs.Finding.{new-at, not-before, mark-there, mark-new}
use Rattle.sw_map.proofs.places.find_mark.Goals as goal

pub returns-then-is_marked : goal.returns-then-is_marked
returns-then-is_marked c =
    let none : Mark = record { bound = Before (pos 0); at = 0 } in
    let h = c.is_marked.ensures.0 c.if-is_marked.true in
    let k = c.marks_below-k.result in
    let lt : k - 1 < length c.args.marks.now = omega (arith, h.0, c.marks_below-k.ensures.within) in
    sym (mark-there c.args.bound c.args.marks.now (k - 1) none c.requires lt (h.1 none))

pub returns-else-is_marked : goal.returns-else-is_marked
returns-else-is_marked c =
    let none : Mark = record { bound = Before (pos 0); at = 0 } in
    sym (mark-new c.args.bound c.args.marks.now (new-at c.args.bound c.args.marks.now c.marks_below-k.result none (sym c.marks_below-k.ensures.below) c.requires (not-before c.marks_below-k.result c.args.bound c.args.marks.now none c.is_marked.result c.marks_below-k.ensures.within c.is_marked.ensures c.if-is_marked.false)))
