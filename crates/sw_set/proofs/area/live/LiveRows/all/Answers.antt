use Rattle.std.proofs.Common.{◌≡◌, ◌∙◌, ap, sym, true, replicate}
use Rattle.sw_table.proofs.LiveFlags.{false-fresh, false_in}
use Rattle.sw_set.proofs.area.live.LiveRows.all.Goals as goal

pub invariant_of-result : goal.invariant_of-result
invariant_of-result c =
    let items : c.in-Ok.flags.items ≡ replicate c.args.many true = c.in-Ok.ensures.items_if_clones_equal (λ y h. h) in
    sym (ap false_in items ∙ false-fresh c.args.many)
