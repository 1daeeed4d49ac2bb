use Rattle.std.proofs.Common.{rules}
use Rattle.sw_spine.proofs.ApartLemmas.{no_line, same_line}
use Rattle.sw_spine.proofs.apart.is_same_at.Goals as goal

pub returns-in-Some : goal.returns-in-Some
returns-in-Some c = same_line c.args.given.now c.args.listed.now c.args.place c.index-given-place.result c.in-Some.other.now c.eq.result (search rules) (search rules) (search rules) (search rules) c.eq.ensures

pub returns-in-None : goal.returns-in-None
returns-in-None c = no_line c.args.given.now c.args.listed.now c.args.place c.index-given-place.result (search rules) (search rules) (search rules)
