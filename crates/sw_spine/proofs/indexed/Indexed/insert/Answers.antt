use Rattle.sw_spine.proofs.PassLemmas.{indexes-insert}
use Rattle.sw_spine.proofs.indexed.Indexed.insert.Goals as goal

pub invariant_of-self : goal.invariant_of-self
invariant_of-self c = indexes-insert c.insert.result c.self.inside.table c.insert.new.self c.args.row.now c.self.inside.indexes c.insert.ensures.ok c.insert.ensures.err c.self.invariant
