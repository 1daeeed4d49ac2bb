-- A history some visits later: its entries stay, each at its place.
use Rattle.std.specs.Prelude.{◌≡◌, ◌⊎◌, true, List, [], ◌∷◌}
use Rattle.sw_spine.specs.History.{entry, is_open}
use Rattle.sw_spine.specs.declared.history.Entry.{Entry}

-- an entry later: as it was; or, if it was open, perhaps in another state
abbrev pub IsLater : Entry → Entry → Type 0
IsLater e f = (f ≡ e) ⊎ ((is_open e.state ≡ true) × (f ≡ entry e.session e.call f.state))

-- entries begin others: at each place stands the same one, later
abbrev pub Begin : List Entry → List Entry → Type 0
Begin [] fs = Unit {0}
Begin (e ∷ es) [] = ⊥
Begin (e ∷ es) (f ∷ fs) = IsLater e f × Begin es fs
