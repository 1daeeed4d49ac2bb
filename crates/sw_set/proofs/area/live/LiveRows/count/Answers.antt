use Rattle.std.proofs.Common.{rules, ◌≡◌, ◌-◌, ◌+◌, filter, not, length, subst, arith}
use Rattle.sw_set.specs.Live.{Standing}
use Rattle.sw_table.proofs.LiveFlags.{false-few, false_in}
use Rattle.sw_set.proofs.area.live.LiveRows.count.Goals as goal

pub overflow_sub-result : goal.overflow_sub-result
overflow_sub-result c =
    let flags = c.self.inside.flags.items in
    let gone : c.self.inside.gone ≡ false_in flags = c.self.invariant in
    let few = false-few flags in
    let long : c.len.result ≡ length flags = search rules in
    omega (arith, gone, few, long)

pub returns : goal.returns
returns c =
    let flags = c.self.inside.flags.items in
    let gone : c.self.inside.gone ≡ false_in flags = c.self.invariant in
    let few = false-few flags in
    let long : c.len.result ≡ length flags = search rules in
    subst (λ (v : Standing). c.len.result - c.self.inside.gone + length (filter not v.flags) ≡ length v.flags) c.self.view_is (omega (arith, gone, few, long))
