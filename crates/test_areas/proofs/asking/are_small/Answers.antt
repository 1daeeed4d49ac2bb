use Rattle.std.proofs.Common.{ℕ, ◌<◌, All, List, arith, refl, subst}
use Rattle.std.proofs.lemmas.List.{take_all}
use Rattle.std.proofs.lemmas.List.Elements.{All-more}
use Rattle.test_areas.proofs.asking.are_small.Goals as goal

pub loop-name-preserved : goal.loop-name-preserved
loop-name-preserved c = All-more (λ (a : ℕ). a < 8) c.args.names.now c.loop-name.name-index 0 c.loop-name-test.true c.loop-name.invariant c.if-name-ge8.false

pub returns : goal.returns
returns c = (λ t. subst (λ (l : List ℕ). All (λ (a : ℕ). a < 8) l) (take_all c.loop-name.name-index c.args.names.now (omega arith)) c.loop-name.invariant, λ all. refl)
