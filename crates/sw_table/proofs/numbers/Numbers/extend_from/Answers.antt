use Rattle.std.proofs.Common.{◌∙◌, ◌++◌, List, ℕ, ap, arith}
use Rattle.sw_table.proofs.KeyLists.{numbers_many, numbers_stretch}
use Rattle.sw_table.proofs.numbers.Numbers.extend_from.Goals as goal

pub overflow_add-others-inside : goal.overflow_add-others-inside
overflow_add-others-inside c =
    let long = numbers_many c.others.inside.first c.others.inside.many c.args.others.now c.others.view_is in
    omega (arith, long, c.requires, c.others.invariant.within)

pub join-requires-clause-within : goal.join-requires-clause-within
join-requires-clause-within c =
    let long = numbers_many c.others.inside.first c.others.inside.many c.args.others.now c.others.view_is in
    omega (arith, long, c.requires, c.others.invariant.within)

pub returns-clause-joined : goal.returns-clause-joined
returns-clause-joined c = λ joined.
    let a = c.others.inside.first in let n = c.others.inside.many in let ks = c.args.others.now in
    let long = numbers_many a n ks c.others.view_is in
    c.join.ensures.joined joined
    ∙ ap (λ (v : List ℕ). c.args.self.now ++ v) (numbers_stretch a c.args.start c.args.many n ks c.others.view_is (omega (arith, long, c.requires)))
