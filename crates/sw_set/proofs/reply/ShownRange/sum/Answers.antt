use Rattle.std.proofs.Common.{rules, ◌∙◌, ap, ℤ, List}
use Rattle.std.proofs.lemmas.Int.{to_z-of_z}
use mir.Val.{SFits}
use mir.Syntax.{w128}
use Rattle.sw_query.specs.Scan.{cell_of, total}
use Rattle.sw_set.specs.Choice.{chosen, range_rows}
use Rattle.sw_set.proofs.Replying.Told.{chosen-map}
use Rattle.sw_set.proofs.reply.ShownRange.sum.Goals as goal

pub returns : goal.returns
returns g c =
    let o = c.args.choice.now.bits in
    let range = range_rows c.args.self.now in
    let fits : SFits w128 c.sum.result = search rules in
    to_z-of_z w128 c.sum.result fits ∙ c.sum.ensures ∙ ap (λ (v : List ℤ). total (chosen o v)) c.cells-cells.ensures ∙ ap total (chosen-map (cell_of c.args.attr) o range)
