use Rattle.std.proofs.Common.{◌∙◌, ◌+◌, ◌++◌, ℕ, List, ap}
use Rattle.std.specs.List.{range_with_len}
use Rattle.sw_table.proofs.KeyLists.{numbers-split}
use Rattle.sw_table.proofs.numbers.Numbers.join.Goals as goal

pub returns-clause-joined : goal.returns-clause-joined
returns-clause-joined c = λ _.
    let a = c.self.inside.first in let n = c.self.inside.many in let m = c.args.many in
    numbers-split a n m
    ∙ ap (λ (v : List ℕ). v ++ range_with_len (a + n) m) c.self.view_is
    ∙ ap (λ (k : ℕ). c.args.self.now ++ range_with_len k m) c.if-self-first.false
