use Rattle.std.proofs.Common.{◌≡◌, All, List, sym, subst}
use Rattle.sw_map.specs.Held.{blank}
use Rattle.sw_shell.proofs.opening.talk_on.Goals as goal

pub talk_over-requires-clause-blank : goal.talk_over-requires-clause-blank
talk_over-requires-clause-blank g c κs within =
    subst (λ (ms : List g.row.M.Denot). All (λ (m : g.row.M.Denot). g.M.CrackerMap.held m ≡ blank) ms) (sym c.in-Ok.ensures.maps) c.requires.blank
