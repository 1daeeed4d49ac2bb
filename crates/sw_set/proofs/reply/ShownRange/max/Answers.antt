use Rattle.std.proofs.Common.{◌∙◌, ap, ℤ, List}
use Rattle.sw_query.specs.Scan.{cell_of, greatest}
use Rattle.sw_set.specs.Choice.{chosen, range_rows}
use Rattle.sw_set.proofs.Replying.Told.{chosen-map}
use Rattle.sw_set.proofs.reply.ShownRange.max.Goals as goal

pub returns : goal.returns
returns g c =
    let o = c.args.choice.now.bits in
    let range = range_rows c.args.self.now in
    c.max.ensures ∙ ap (λ (v : List ℤ). greatest (chosen o v)) c.cells-cells.ensures ∙ ap greatest (chosen-map (cell_of c.args.attr) o range)
