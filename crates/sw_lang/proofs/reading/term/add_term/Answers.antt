use Rattle.std.proofs.Common.{sym}
use Rattle.sw_lang.proofs.Parsing.Narrow.{at_none, at_some}
use Rattle.sw_lang.proofs.reading.term.add_term.Goals as goal

pub returns-in-Some-clause-ok : goal.returns-in-Some-clause-ok
returns-in-Some-clause-ok c =
    let there = at_some c.args.conds.now c.args.term c.in-Some.place _ (sym c.in-Some.ensures) in
    rw (c.set.ensures, c.narrowed.ensures, c.as_slice.ensures) (sym there)

pub returns-in-None-clause-ok : goal.returns-in-None-clause-ok
returns-in-None-clause-ok c =
    let last = at_none c.args.conds.now c.args.term (sym c.in-None.ensures) in
    rw last (rw c.cond_of.ensures at c.push.ensures.ok)
