use Rattle.sw_engine.proofs.Owned.{new_session}
use Rattle.sw_engine.proofs.history.ticket.Ticket.new.Goals as goal

pub returns-clause-new : goal.returns-clause-new
returns-clause-new g c = new_session g.J.Naming.opening g.J.Naming.sessions c.args.share.value c.args.number c.args.share c.args.receipt c.new.result c.requires.share c.requires.receipt
