use Rattle.std.proofs.Common.{sym, ◌∙◌}
use Rattle.sw_tape.proofs.Places.{among-first}
use Rattle.sw_tape.proofs.bounds.is_among.Goals as goal

pub returns : goal.returns
returns c = c.stands_at.ensures ∙ sym (among-first c.args.bound c.args.bounds.now c.count_below-place.result c.requires c.count_below-place.ensures)
