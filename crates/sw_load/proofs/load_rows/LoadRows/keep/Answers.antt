use Rattle.std.proofs.Common.{◌∙◌, refl, sym}
use Rattle.sw_load.proofs.Appended.{kept-same}
use Rattle.sw_load.proofs.load_rows.LoadRows.keep.Goals as goal

pub returns-then-are_all_live-clause-ok : goal.returns-then-are_all_live-clause-ok
returns-then-are_all_live-clause-ok c =
    kept-same c.args.live.now c.args.self.now.items c.args.later.now.items (sym c.len.ensures.many ∙ c.if-len-eq0.true) c.requires (c.if-are_all_live.ensures.0 refl)
