use Rattle.std.proofs.Common.{length, sym, subst}
use Rattle.sw_query.specs.Scan.{AsksBelow}
use Rattle.sw_solo.specs.Called.{SoloState}
use Rattle.sw_solo.proofs.Served.{asks_eight}
use Rattle.sw_solo.proofs.solo.Solo.look.Goals as goal

pub scan-requires : goal.scan-requires
scan-requires g c =
    asks_eight (length c.self.inside.spine.columns) c.args.query.now c.known.ensures.sound.few (subst (λ (v : SoloState). AsksBelow (length v.history.columns) c.args.query.now) (sym c.self.view_is) c.requires)
