use Rattle.std.proofs.Common.{◌∙◌, ap, sym, take, arith}
use Rattle.std.proofs.lemmas.List.{take_all}
use Rattle.sw_table.proofs.KeyLists.{numbers-cut, numbers_many}
use Rattle.sw_table.proofs.numbers.Numbers.truncate.Goals as goal

pub returns-then-many-self : goal.returns-then-many-self
returns-then-many-self c =
    numbers-cut c.self.inside.first c.args.many c.self.inside.many (omega (arith, c.if-many-self.true)) ∙ ap (take c.args.many) c.self.view_is

pub returns-else-many-self : goal.returns-else-many-self
returns-else-many-self c =
    let long = numbers_many c.self.inside.first c.self.inside.many c.args.self.now c.self.view_is in
    sym (take_all c.args.many c.args.self.now (omega (arith, long, c.if-many-self.false)))
