use Rattle.std.proofs.Common.{◌≡◌, sym, subst, length}
use Rattle.sw_table.specs.Live.{Living}
use Rattle.sw_spine.specs.Indexes.{MeetsMatching}
use Rattle.sw_spine.proofs.PassLemmas.{meets-matching}
use Rattle.sw_spine.proofs.indexed.Indexed.listing.Goals as goal

pub returns : goal.returns
returns c =
    let conds = c.args.conds.now in let cond = c.in_ok-cond.cond in let t = c.args.self.now in
    let ps = c.in_ok-index.index.now in let some = c.in_ok-some.some.items in
    subst (MeetsMatching conds t some) (sym c.len.ensures) (meets-matching conds cond t ps some c.in_ok-cond.ensures (subst (λ (v : Living). length v.live ≡ length v.came) c.self.view_is c.live-flags.ensures.many) c.in_ok-index.ensures c.in_ok-some.ensures)
