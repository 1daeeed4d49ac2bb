use Rattle.std.proofs.Common.{◌≡◌, refl, false, Contains, subst}
use Rattle.sw_set.proofs.Areas.Picks.{kept-on, found-at}
use Rattle.sw_set.proofs.area.pick.find_leased.Goals as goal
use Rattle.sw_set.proofs.area.pick.find_leased.Goals.{then-is_leased, else-is_leased}

pub loop-at-preserved : goal.loop-at-preserved
loop-at-preserved g c =
    elim c.if-is_leased.branch [
      | then-is_leased w ↦ rw w.best-is (found-at (λ (m : g.row.M.Denot). (g.M.CrackerMap.held m).is_blank ≡ false → Contains c.args.tails.now (g.M.CrackerMap.held m).tail) (λ (m : g.row.M.Denot). ((g.M.CrackerMap.held m).is_blank ≡ false) × ¬ Contains c.args.tails.now (g.M.CrackerMap.held m).tail) c.args.boxes.now c.loop-at.best c.loop-at.at _ w.older.result c.index-boxes-at.result c.loop-at-test.true (subst (λ (m : g.row.M.Denot). ((g.M.CrackerMap.held m).is_blank ≡ false) × ¬ Contains c.args.tails.now (g.M.CrackerMap.held m).tail) c.index-boxes-at.is (w.if-is_leased.ensures.free refl)) w.older.ensures c.loop-at.invariant)
      | else-is_leased w ↦ rw w.best-is (kept-on (λ (m : g.row.M.Denot). (g.M.CrackerMap.held m).is_blank ≡ false → Contains c.args.tails.now (g.M.CrackerMap.held m).tail) (λ (m : g.row.M.Denot). ((g.M.CrackerMap.held m).is_blank ≡ false) × ¬ Contains c.args.tails.now (g.M.CrackerMap.held m).tail) c.args.boxes.now c.loop-at.best c.loop-at.at c.index-boxes-at.result c.loop-at-test.true (subst (λ (m : g.row.M.Denot). (g.M.CrackerMap.held m).is_blank ≡ false → Contains c.args.tails.now (g.M.CrackerMap.held m).tail) c.index-boxes-at.is (w.if-is_leased.ensures.other refl)) c.loop-at.invariant)
    ]
