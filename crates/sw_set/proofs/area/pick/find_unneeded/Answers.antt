use Rattle.std.proofs.Common.{◌≡◌, refl, Contains, sym, ap, ◌∙◌, subst, get_or, true≢false}
use Rattle.sw_set.proofs.Areas.Picks.{kept-on, found-at}
use Rattle.sw_set.proofs.area.pick.find_unneeded.Goals as goal
use Rattle.sw_set.proofs.area.pick.find_unneeded.Goals.{then-not-is_needed, else-not-is_needed}

pub loop-at-preserved : goal.loop-at-preserved
loop-at-preserved g c =
    let x = c.index-boxes-at.result in
    let tail : c.tail.result ≡ (g.M.CrackerMap.held (get_or c.args.boxes.now c.loop-at.at x)).tail =
    c.tail.ensures ∙ ap (λ (m : g.row.M.Denot). (g.M.CrackerMap.held m).tail) c.index-boxes-at.is in
    elim c.if-not-is_needed.branch [
      | then-not-is_needed w ↦ rw w.best-is (found-at (λ (m : g.row.M.Denot). Contains c.args.tails.now (g.M.CrackerMap.held m).tail) (λ (m : g.row.M.Denot). ¬ Contains c.args.tails.now (g.M.CrackerMap.held m).tail) c.args.boxes.now c.loop-at.best c.loop-at.at _ w.older.result x c.loop-at-test.true (λ n. let f = w.if-not-is_needed.ensures in let k : Contains c.args.tails.now c.tail.result = subst (Contains c.args.tails.now) (sym tail) n in absurd (true≢false (sym (f.1 k)))) w.older.ensures c.loop-at.invariant)
      | else-not-is_needed w ↦ rw w.best-is (kept-on (λ (m : g.row.M.Denot). Contains c.args.tails.now (g.M.CrackerMap.held m).tail) (λ (m : g.row.M.Denot). ¬ Contains c.args.tails.now (g.M.CrackerMap.held m).tail) c.args.boxes.now c.loop-at.best c.loop-at.at x c.loop-at-test.true (let f = w.if-not-is_needed.ensures in subst (Contains c.args.tails.now) tail (f.0 refl)) c.loop-at.invariant)
    ]
