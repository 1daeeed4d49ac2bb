use Rattle.std.proofs.Common.{◌≡◌}
use Rattle.std.proofs.lemmas.List.Elements.{All-push}
use Rattle.sw_map.specs.Held.{blank}
use Rattle.test_areas.proofs.shapes.add.Goals as goal

pub returns-clause-blank : goal.returns-clause-blank
returns-clause-blank g c = rw (c.push_reserved.ensures.items, c.reserve.ensures.items) (All-push (λ m. g.M.CrackerMap.held m ≡ blank) _ _ c.requires.all c.requires.one)
