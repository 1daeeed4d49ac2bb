use Rattle.std.proofs.Common.{arith}
use Rattle.sw_table.proofs.KeyLists.{numbers_at, numbers_many}
use Rattle.sw_table.proofs.numbers.Numbers.at.Goals as goal

pub overflow_add-result : goal.overflow_add-result
overflow_add-result c =
    let long = numbers_many c.self.inside.first c.self.inside.many c.args.self.now c.self.view_is in
    omega (arith, long, c.requires, c.self.invariant.within)

pub returns : goal.returns
returns c = λ d.
    let long = numbers_many c.self.inside.first c.self.inside.many c.args.self.now c.self.view_is in
    numbers_at c.self.inside.first c.self.inside.many c.args.place d c.args.self.now c.self.view_is (omega (arith, long, c.requires))
