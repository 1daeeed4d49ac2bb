use Rattle.sw_rows.proofs.loading.cuts.+quotes.Given as goal

abbrev pub decreases-join+arg2 : goal.decreases-join+arg2
decreases-join+arg2 g l = l.fewer

abbrev pub decreases-join+arg3 : goal.decreases-join+arg3
decreases-join+arg3 g l = l.fewer

abbrev pub decreases-has_no_quote_in_halves : goal.decreases-has_no_quote_in_halves
decreases-has_no_quote_in_halves g l = l.halvings
