use Rattle.std.proofs.Common.{◌∙◌, arith, sym}
use Rattle.sw_set.specs.Needs.{needs_cell}
use Rattle.sw_set.proofs.Preparing.Tails.{count-few, count-no, count-yes}
use Rattle.sw_set.proofs.prepare.needs.needed_maps.Goals.{then-needs_cell, else-needs_cell}
use Rattle.sw_set.proofs.prepare.needs.needed_maps.Goals as goal

pub overflow_add-many : goal.overflow_add-many
overflow_add-many c = let few = count-few (needs_cell c.args.head c.args.query.now) c.loop-attribute.attribute c.loop-attribute.many c.loop-attribute-test.true c.loop-attribute.invariant in omega (arith, few)

pub loop-attribute-preserved : goal.loop-attribute-preserved
loop-attribute-preserved c =
    elim c.if-needs_cell.branch [
      | then-needs_cell w ↦ w.many-is ∙ count-yes (needs_cell c.args.head c.args.query.now) c.loop-attribute.attribute _ c.loop-attribute-test.true (sym c.needs_cell.ensures ∙ w.if-needs_cell.true) c.loop-attribute.invariant
      | else-needs_cell w ↦ w.many-is ∙ count-no (needs_cell c.args.head c.args.query.now) c.loop-attribute.attribute _ c.loop-attribute-test.true (sym c.needs_cell.ensures ∙ w.if-needs_cell.false) c.loop-attribute.invariant
    ]
