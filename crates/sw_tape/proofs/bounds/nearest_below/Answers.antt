use Rattle.std.proofs.Common.{rules, ◌≡◌, ◌≢◌, pos}
use Rattle.sw_query.specs.declared.bound.Bound.TheVariants.{Before}
use Rattle.sw_tape.proofs.Around.{nearest-low, nearest-none_below}
use Rattle.sw_tape.proofs.bounds.nearest_below.Goals as goal

pub returns-then-count-eq0 : goal.returns-then-count-eq0
returns-then-count-eq0 c =
    let none : c.args.count ≡ 0 = search rules in
    nearest-none_below c.args.value c.args.bounds.now c.args.count none c.requires.rising c.requires.split

pub returns : goal.returns
returns c =
    let some : c.args.count ≢ 0 = search rules in
    nearest-low c.args.value c.args.bounds.now c.args.count (Before (pos 0)) some c.requires.rising c.requires.split
