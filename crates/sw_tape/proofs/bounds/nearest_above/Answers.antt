use Rattle.std.proofs.Common.{rules, ◌≡◌, ◌<◌, length, pos}
use Rattle.sw_query.specs.declared.bound.Bound.TheVariants.{Before}
use Rattle.sw_tape.proofs.Around.{nearest-high, nearest-none_above}
use Rattle.sw_tape.proofs.bounds.nearest_above.Goals as goal

pub returns-then-count-bounds : goal.returns-then-count-bounds
returns-then-count-bounds c =
    let all : c.args.count ≡ length c.args.bounds.now = search rules in
    nearest-none_above c.args.value c.args.bounds.now c.args.count all c.requires.split

pub returns : goal.returns
returns c =
    let some : c.args.count < length c.args.bounds.now = search rules in
    nearest-high c.args.value c.args.bounds.now c.args.count (Before (pos 0)) some c.requires.rising c.requires.split
