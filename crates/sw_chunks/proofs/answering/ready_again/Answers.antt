use Rattle.sw_chunks.proofs.Steps.{ready-told}
use Rattle.sw_chunks.proofs.answering.ready_again.Goals as goal

pub returns-clause-ready : goal.returns-clause-ready
returns-clause-ready g c = ready-told c.args.asking.now.query.now _ _ c.prepare_by.result _ c.tape_len-many.ensures.few c.prepare_by.ensures.same c.prepare_by.ensures.ends
