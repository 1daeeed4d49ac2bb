use Rattle.sw_logs.proofs.checking.are_each_once.Goals as goal

pub has_known-requires : goal.has_known-requires
has_known-requires c = rw c.in-Some.is at c.in_ok-marked.ensures

pub returns : goal.returns
returns c = λ told. let marked = rw c.in-Some.is at c.in_ok-marked.ensures in (marked.once, c.has_known.ensures told)
