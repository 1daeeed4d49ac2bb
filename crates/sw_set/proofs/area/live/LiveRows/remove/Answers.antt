use Rattle.std.proofs.Common.{rules, ◌≡◌, ◌∙◌, ◌+◌, ◌<◌, ◌^◌, ap, sym, List, Bool, true, false, length, length-set, get_or, slice_set, arith}
use Rattle.sw_set.specs.Live.{Standing}
use Rattle.sw_table.proofs.LiveFlags.{false-few, false-removed, false_in, set-same}
use Rattle.sw_set.proofs.area.live.LiveRows.remove.Goals as goal

pub overflow_add-self : goal.overflow_add-self
overflow_add-self c =
    let flags = c.self.inside.flags.items in
    let was : get_or flags c.args.place false ≡ true = ap (λ (v : Standing). get_or v.flags c.args.place false) c.self.view_is ∙ sym (c.is_live.ensures false) ∙ c.if-is_live.true in
    let gone : c.self.inside.gone ≡ false_in flags = c.self.invariant in
    let more = false-removed flags c.args.place was in
    let few = false-few (slice_set flags c.args.place false) in
    let long = length-set flags c.args.place false in
    let fits : length flags < 2 ^ 64 = search rules in
    let h : c.self.inside.gone + 1 < 2 ^ 64 = omega (arith, gone, more, few, long, fits) in
    search (rules, h)

pub invariant_of-self : goal.invariant_of-self
invariant_of-self c =
    let flags = c.self.inside.flags.items in
    let was : get_or flags c.args.place false ≡ true = ap (λ (v : Standing). get_or v.flags c.args.place false) c.self.view_is ∙ sym (c.is_live.ensures false) ∙ c.if-is_live.true in
    ap (λ n. n + 1) c.self.invariant ∙ sym (false-removed flags c.args.place was)

pub returns-else-is_live : goal.returns-else-is_live
returns-else-is_live c =
    let now = c.args.self.now in
    let same : slice_set now.flags c.args.place false ≡ now.flags = set-same now.flags c.args.place false (sym (c.is_live.ensures true) ∙ c.if-is_live.false) in
    ap (λ (v : List Bool). let s : Standing = record { later = now.later; flags = v } in s) (sym same)
