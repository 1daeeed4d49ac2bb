use Rattle.std.proofs.Common.{◌≡◌}
use Rattle.std.proofs.lemmas.List.Elements.{All-pop}
use Rattle.sw_map.specs.Held.{blank}
use Rattle.test_areas.proofs.shapes.take_last.Goals as goal

pub returns-clause-rest : goal.returns-clause-rest
returns-clause-rest g c = (All-pop (λ m. g.M.CrackerMap.held m ≡ blank) _ _ _ c.pop.ensures.items c.requires).0

pub returns-clause-taken : goal.returns-clause-taken
returns-clause-taken g c = (All-pop (λ m. g.M.CrackerMap.held m ≡ blank) _ _ _ c.pop.ensures.items c.requires).1
