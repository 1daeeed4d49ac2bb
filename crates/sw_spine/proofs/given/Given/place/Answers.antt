use Rattle.std.proofs.Common.{◌≡◌, ◌∙◌, ◌+◌, ◌-◌, slice_index_or, ◌<◌, ◌≤◌, ◌++◌, ap, sym, subst, length, List, arith, rules}
use Rattle.sw_table.specs.declared.row.Row.{Row}
use Rattle.sw_spine.specs.Listed.{Given, listed}
use Rattle.sw_spine.proofs.ListedLemmas.{listed_early, listed_inside, listed_late, listed_long}
use Rattle.sw_spine.proofs.given.Given.place.Goals as goal

pub overflow_add-result : goal.overflow_add-result
overflow_add-result c =
    let s = c.self.inside in
    let some = s.listing.now.some.items in
    let many = length (s.rows.now.items ++ s.came.now.items) in
    let len : c.len-else-number-len.result ≡ length some = search rules in
    let lt : c.args.number < length (listed some s.listing.now.from many) = subst (λ (v : Given). c.args.number < length v.places) (sym c.self.view_is) c.requires in
    omega (arith, len, lt, listed_long some s.listing.now.from many, c.self.invariant.most, c.self.invariant.short)

pub returns-then-number-len-clause-inside : goal.returns-then-number-len-clause-inside
returns-then-number-len-clause-inside c =
    let s = c.self.inside in
    let some = s.listing.now.some.items in
    let from = s.listing.now.from in
    let given : List Row = s.rows.now.items ++ s.came.now.items in
    let len : c.len.result ≡ length some = search rules in
    let early : c.args.number < length some = omega (arith, len, c.if-number-len.true) in
    let lt : c.args.number < length (listed some from (length given)) = subst (λ (v : Given). c.args.number < length v.places) (sym c.self.view_is) c.requires in
    let d = c.index.result.now in
    let is : d ≡ slice_index_or (listed some from (length given)) c.args.number d = c.index.ensures ∙ listed_early some from (length given) c.args.number d early in
    subst (λ (v : Given). c.index.result.now < length v.rows) c.self.view_is (let h = listed_inside (length given) (listed some from (length given)) c.args.number d c.self.invariant.meets.inside lt in omega (arith, is, h))

pub returns-else-number-len-clause-place : goal.returns-else-number-len-clause-place
returns-else-number-len-clause-place c =
    let s = c.self.inside in
    let some = s.listing.now.some.items in
    let from = s.listing.now.from in
    let given : List Row = s.rows.now.items ++ s.came.now.items in
    let len : c.len-else-number-len.result ≡ length some = search rules in
    let first : c.len.result ≡ length some = search rules in
    let late : length some ≤ c.args.number = omega (arith, first, c.if-number-len.false) in
    let lt : c.args.number < length (listed some from (length given)) = subst (λ (v : Given). c.args.number < length v.places) (sym c.self.view_is) c.requires in
    subst (λ (v : Given). from + (c.args.number - c.len-else-number-len.result) ≡ slice_index_or v.places c.args.number 0) c.self.view_is
    (ap (λ n. from + (c.args.number - n)) len ∙ listed_late some from (length given) c.args.number late lt)

pub returns-else-number-len-clause-inside : goal.returns-else-number-len-clause-inside
returns-else-number-len-clause-inside c =
    let s = c.self.inside in
    let some = s.listing.now.some.items in
    let from = s.listing.now.from in
    let given : List Row = s.rows.now.items ++ s.came.now.items in
    let len : c.len-else-number-len.result ≡ length some = search rules in
    let first : c.len.result ≡ length some = search rules in
    let late : length some ≤ c.args.number = omega (arith, first, c.if-number-len.false) in
    let lt : c.args.number < length (listed some from (length given)) = subst (λ (v : Given). c.args.number < length v.places) (sym c.self.view_is) c.requires in
    subst (λ (v : Given). from + (c.args.number - c.len-else-number-len.result) < length v.rows) c.self.view_is
    (omega (arith, len, late, lt, listed_long some from (length given), c.self.invariant.short))
