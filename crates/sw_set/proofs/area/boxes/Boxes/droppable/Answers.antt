use Rattle.std.proofs.Common.{◌≡◌, ◌<◌, false, [], Contains, List, subst, All, MatchOption, length, get_or}
use Rattle.sw_set.proofs.Areas.Dropped.{first-found}
use Rattle.sw_set.proofs.area.boxes.Boxes.droppable.Goals as goal

pub returns : goal.returns
returns g c =
    first-found g.M.CrackerMap.held c.find_leased.result c.self.inside.maps.items c.args.self.now c.self.view_is
    (subst (λ (v : List g.row.M.Denot). All (λ m. (g.M.CrackerMap.held m).is_blank ≡ false) v) c.as_slice.ensures.value c.in_default.ensures)
    (subst (λ (v : List g.row.M.Denot). MatchOption c.find_leased.result (All (λ m. (g.M.CrackerMap.held m).is_blank ≡ false → Contains [] (g.M.CrackerMap.held m).tail) v) (λ i. (i < length v) × ((d : g.row.M.Denot) → ((g.M.CrackerMap.held (get_or v i d)).is_blank ≡ false) × ¬ Contains [] (g.M.CrackerMap.held (get_or v i d)).tail))) c.as_slice-2.ensures.value c.find_leased.ensures)
