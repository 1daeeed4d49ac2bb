use Rattle.std.proofs.Common.{◌≡◌, ◌∙◌, ◌+◌, ◌++◌, List, ℕ, ap, map, arith}
use Rattle.std.specs.List.{range_with_len}
use Rattle.sw_table.proofs.KeyLists.{numbers_behind, numbers_many}
use Rattle.sw_table.proofs.numbers.Numbers.extend_behind.Goals as goal

pub join-requires-clause-within : goal.join-requires-clause-within
join-requires-clause-within c =
    let own = numbers_many c.join.inside.first c.join.inside.many c.args.self.now c.join.view_is in
    let theirs = numbers_many c.others.inside.first c.others.inside.many c.args.others.now c.others.view_is in
    omega (arith, own, theirs, c.requires)

pub returns-clause-joined : goal.returns-clause-joined
returns-clause-joined c = λ joined.
    let m = c.join.inside.many in let n = c.others.inside.many in let ks = c.args.others.now in
    let own = numbers_many c.join.inside.first m c.args.self.now c.join.view_is in
    let first : range_with_len 1 n ≡ ks = ap (λ (k : ℕ). range_with_len k n) (let e : 1 ≡ c.others.inside.first = omega (arith, c.if-others-ne1.false) in e) ∙ c.others.view_is in
    c.join-2.ensures.joined joined
    ∙ ap (λ (v : List ℕ). c.args.self.now ++ v) (numbers_behind m n ks first)
    ∙ ap (λ (j : ℕ). c.args.self.now ++ map (λ (k : ℕ). j + k) ks) own
