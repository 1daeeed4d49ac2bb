use Rattle.sw_rows.proofs.loading.parts.+halves.Given as goal

abbrev pub decreases-join+arg2 : goal.decreases-join+arg2
decreases-join+arg2 g l = l.left_cuts.halvings

abbrev pub decreases-join+arg3 : goal.decreases-join+arg3
decreases-join+arg3 g l = l.right_cuts.halvings

abbrev pub decreases-read_halves : goal.decreases-read_halves
decreases-read_halves g l = l.cuts.halvings
