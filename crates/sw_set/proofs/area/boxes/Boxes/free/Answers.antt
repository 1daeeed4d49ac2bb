use Rattle.std.proofs.Common.{◌≡◌, ap, sym, ◌∙◌, map, false, Contains, List, subst, All, MatchOption, ◌<◌, length, get_or}
use Rattle.sw_set.specs.Boxed.{IsFree}
use Rattle.sw_set.proofs.Areas.Looks.{look-free, some-at}
use Rattle.sw_set.proofs.area.boxes.Boxes.free.Goals as goal

pub returns-in-Some : goal.returns-in-Some
returns-in-Some g c = some-at g.M.CrackerMap.held (IsFree c.args.tails.now) c.as_slice.result.now c.args.self.now c.in-Some.i (ap (map g.M.CrackerMap.held) c.as_slice.ensures.value ∙ c.self.view_is) c.in-Some.ensures.0 (λ d b. let t = sym (c.in-Some.ensures.1 d) ∙ b in cc)

pub returns : goal.returns
returns g c = look-free g.M.CrackerMap.held c.args.tails.now c.find_unneeded.result c.self.inside.maps.items c.args.self.now c.self.view_is
    (subst (λ (v : List g.row.M.Denot). All (λ m. (g.M.CrackerMap.held m).is_blank ≡ false) v) c.as_slice.ensures.value c.in_default.ensures)
    (subst (λ (v : List g.row.M.Denot). MatchOption c.find_unneeded.result (All (λ m. Contains c.args.tails.now (g.M.CrackerMap.held m).tail) v) (λ i. (i < length v) × ((d : g.row.M.Denot) → ¬ Contains c.args.tails.now (g.M.CrackerMap.held (get_or v i d)).tail))) c.as_slice-2.ensures.value c.find_unneeded.ensures)
