use Rattle.sw_chunks.proofs.Shelves.{AreShedTo}
use Rattle.sw_chunks.proofs.shelving.shed_all.Given as goal

abbrev pub invariant-loop-k : goal.invariant-loop-k
invariant-loop-k g l = AreShedTo l.most l.k l.initial.areas l.areas l.gone
