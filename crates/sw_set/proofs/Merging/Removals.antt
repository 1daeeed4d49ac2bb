-- How many removals a list of updates has, counted from its front.
use Rattle.std.proofs.Common.{◌≡◌, ℕ, suc, ◌+◌, ◌<◌, ◌≤◌, List, [], ◌∷◌, length, get_or, drop, ap, ◌∙◌}
use Rattle.std.proofs.lemmas.List.{drop_all, drop_more}
use Rattle.sw_table.specs.declared.row.Row.{Row}
use Rattle.sw_table.specs.declared.row.Update.{Update}
use Rattle.sw_table.specs.declared.row.Update.TheVariants.{Insert, Remove}
use Rattle.sw_set.specs.Merged.{removals_in}

-- those from a place on, by the update there
from-there : (us : List Update) (i : ℕ) (u d : Update) → i < length us → get_or us i d ≡ u → removals_in (drop i us) ≡ removals_in (u ∷ drop (i + 1) us)
from-there us i u d lt is = ap removals_in (drop_more us i d lt ∙ ap (λ (v : Update). v ∷ drop (i + 1) us) is)

-- from the place of an insertion on there are as many removals as behind it
pub past-insertion : (us : List Update) (i : ℕ) (r : Row) (d : Update) → i < length us → get_or us i d ≡ Insert r → removals_in (drop i us) ≡ removals_in (drop (i + 1) us)
unfolding removals_in
past-insertion us i r d lt is = from-there us i (Insert r) d lt is

-- from the place of a removal on there is one removal more than behind it
pub past-removal : (us : List Update) (i k : ℕ) (d : Update) → i < length us → get_or us i d ≡ Remove k → removals_in (drop i us) ≡ suc (removals_in (drop (i + 1) us))
unfolding removals_in
past-removal us i k d lt is = from-there us i (Remove k) d lt is

-- where no update waits, no removal does
pub none-waits : (us : List Update) → us ≡ [] → removals_in us ≡ 0
unfolding removals_in
none-waits us none = ap removals_in none

-- none are behind the end
pub past-end : (us : List Update) (i : ℕ) → length us ≤ i → removals_in (drop i us) ≡ 0
unfolding removals_in
past-end us i le = ap removals_in (drop_all i us le)
