use Rattle.sw_table.proofs.KeyLists.{numbers_many}
use Rattle.sw_table.proofs.numbers.Numbers.len.Goals as goal

pub returns : goal.returns
returns c = numbers_many c.self.inside.first c.self.inside.many c.args.self.now c.self.view_is
