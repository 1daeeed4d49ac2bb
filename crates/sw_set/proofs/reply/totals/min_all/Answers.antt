use Rattle.std.proofs.Common.{rules, arith, ℤ, List, Option, ◌∙◌, ◌+◌, ◌≤◌, ap, ap₂, sym, length, slice_range, take}
use Rattle.std.specs.Int.{int_min}
use Rattle.sw_query.specs.Scan.{least}
use Rattle.sw_set.specs.Choice.{either_or}
use Rattle.sw_set.proofs.Replying.Blocks.{block-read, one-block}
use Rattle.sw_set.proofs.Replying.Least.{least-both}
use Rattle.sw_set.proofs.reply.totals.min_all.Goals as goal

pub loop-place-preserved : goal.loop-place-preserved
loop-place-preserved g c =
    let xs : List ℤ = c.args.window.now in
    let p = c.loop-place.place in
    let m = c.min-many.result in
    let within = c.loop-place.invariant.0 in
    let few : m ≤ 256 = search rules in
    let many : p + m ≤ length xs = omega (arith, within, c.min-many.ensures, c.len-in-loop-place.ensures) in
    let read = block-read xs c.loop-place.block c.read.new.part p m (omega (arith, few, c.min-many.array_long)) many c.read.ensures in
    let here = c.least_of.ensures ∙ ap least read in
    (many, c.lesser-found.ensures ∙ ap₂ (λ (u v : Option ℤ). either_or int_min u v) c.loop-place.invariant.1 here ∙ least-both (take p xs) (slice_range xs p (p + m)) ∙ ap least (sym (one-block xs p m)))
