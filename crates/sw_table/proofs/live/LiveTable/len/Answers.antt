use Rattle.std.proofs.Common.{◌≡◌, ◌-◌, ◌∙◌, ap, length, arith, rules}
use Rattle.sw_table.specs.Kept.{kept}
use Rattle.sw_table.specs.Live.{Living, live_rows}
use Rattle.sw_table.proofs.LiveFlags.{false-few}
use Rattle.sw_table.proofs.LiveLaws.{kept-long}
use Rattle.sw_table.proofs.live.LiveTable.len.Goals as goal

pub overflow_sub-result : goal.overflow_sub-result
overflow_sub-result c =
    let flags = c.self.inside.live.items in
    let few = false-few flags in
    let long : c.len.result ≡ length flags = search rules in
    omega (arith, c.self.invariant.gone, few, long)

pub returns : goal.returns
returns c =
    let s = c.self.inside in let flags = s.live.items in
    let long : c.len.result ≡ length flags = search rules in
    let all = kept-long flags s.came.items c.self.invariant.many in
    (let e : c.len.result - s.dead ≡ length (kept flags s.came.items) = omega (arith, c.self.invariant.gone, long, all) in e) ∙ ap (λ (v : Living). length (live_rows v)) c.self.view_is
