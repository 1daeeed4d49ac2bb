use Rattle.sw_engine.proofs.Called.{stays_self, stays_trans}
use Rattle.sw_engine.proofs.engine.Engine.publish.Goals as goal

pub loop-init : goal.loop-init
loop-init g c = stays_self c.args.ticket.now

pub returns-then-came-clause-stays : goal.returns-then-came-clause-stays
returns-then-came-clause-stays g c = stays_trans c.args.ticket.now c.loop.ticket c.publish-came.new.ticket c.loop.invariant c.publish-came.ensures.stays

pub returns-in-Some-miss-clause-stays : goal.returns-in-Some-miss-clause-stays
returns-in-Some-miss-clause-stays g c = stays_trans c.args.ticket.now c.loop.ticket c.publish-came.new.ticket c.loop.invariant c.publish-came.ensures.stays

pub loop-preserved : goal.loop-preserved
loop-preserved g c = stays_trans c.args.ticket.now c.loop.ticket c.publish-came.new.ticket c.loop.invariant c.publish-came.ensures.stays
