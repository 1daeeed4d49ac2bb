use Rattle.sw_set.specs.Needs.{needs_cell}
use Rattle.sw_set.proofs.Preparing.Tails.{tails-more}
use Rattle.sw_set.proofs.prepare.needs.needed_tails.Goals as goal

pub loop-attribute-preserved : goal.loop-attribute-preserved
loop-attribute-preserved c = tails-more (needs_cell c.args.head c.args.query.now) c.loop-attribute.attribute _ _ c.loop-attribute-test.true c.loop-attribute.invariant c.in_ok-add_tail.ensures
