use Rattle.std.proofs.Common.{rules}
use Rattle.test_spine.proofs.Benches.{asked_of}
use Rattle.test_spine.proofs.bench.begun.Goals as goal

pub returns : goal.returns
returns c = asked_of c.args.spine.now c.begin.new.self c.args.query.now c.in-Ok.copy c.args.rows.now.items c.update_all.new.rows.items c.as_slice.result.now c.in_ok-reply.reply c.requires.rest (search rules) c.in_ok-begin.ensures.begun c.in_ok-begin.ensures.waits c.in_ok-begin.ensures.others c.in_ok-begin.ensures.took (search rules) (search rules) (search rules)
