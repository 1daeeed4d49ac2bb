use Rattle.std.proofs.Common.{◌∙◌, ap, ℕ, ℤ, List, get_or}
use Rattle.sw_query.specs.declared.reply.ReplyRow.{ReplyRow}
use Rattle.sw_query.proofs.scanning.shown_at.Goals as goal

pub returns : goal.returns
returns g c =
    λ d.
    ap (λ (k : ℕ). let r : ReplyRow = record { key = k; cells = c.in_ok-cells.cells } in r) (c.key.ensures d)
    ∙ ap (λ (v : List ℤ). let r : ReplyRow = record { key = (get_or (g.P.Places.rows c.args.rows.now) c.args.place d).key; cells = v } in r) (c.in_ok-cells.ensures d)
