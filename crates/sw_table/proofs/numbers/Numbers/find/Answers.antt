use Rattle.std.proofs.Common.{◌≡◌, ◌≤◌, ◌∙◌, ◌+◌, ◌-◌, inl, inr, sym, arith}
use Rattle.sw_table.proofs.KeyLists.{number-nowhere, numbers_at, numbers_many}
use Rattle.sw_table.proofs.numbers.Numbers.find.Goals as goal
use Rattle.sw_table.proofs.numbers.Numbers.find.Goals.{then-key-self-via-then-key-self, then-key-self-via-else-key-self+then-key-self-2}

pub returns-then-key-self : goal.returns-then-key-self
returns-then-key-self c =
    let a = c.self.inside.first in let n = c.self.inside.many in
    elim c.then-key-self.branch [
      | then-key-self-via-then-key-self w ↦ number-nowhere a n c.args.key c.args.self.now c.self.view_is (inl w.if-key-self.true)
      | then-key-self-via-else-key-self+then-key-self-2 w ↦
          number-nowhere a n c.args.key c.args.self.now c.self.view_is (inr (let above : a + n ≤ c.args.key = omega (arith, w.if-key-self.false, w.if-key-self-2.true) in above))
    ]

pub returns : goal.returns
returns c =
    let a = c.self.inside.first in let n = c.self.inside.many in
    let long = numbers_many a n c.args.self.now c.self.view_is in
    let sum : a + (c.args.key - a) ≡ c.args.key = omega (arith, c.if-key-self.false) in
    (omega (arith, long, c.if-key-self-2.false), λ d. sym (numbers_at a n (c.args.key - a) d c.args.self.now c.self.view_is c.if-key-self-2.false) ∙ sum)
