-- What was seen of a history stays so in one that goes on from it.
use Rattle.std.specs.Prelude.{◌≡◌, ℕ, false, List, slice_get, Some}
use Rattle.sw_table.specs.declared.row.Row.{Row}
use Rattle.sw_table.specs.declared.row.Update.{Update}
use Rattle.sw_spine.specs.History.{is_open}
use Rattle.sw_spine.specs.declared.history.Entry.{Entry}
use Rattle.sw_engine.specs.Published.{EndWithEntries}

-- an entry that is not open stands at its place
abbrev pub PlacesStay : List Entry → List Entry → Type 0
PlacesStay es fs =
    (p : ℕ) (e : Entry) → slice_get es p ≡ Some e → is_open e.state ≡ false → slice_get fs p ≡ Some e

-- batches that end with entries still do
abbrev pub EndsStay : List Entry → List Entry → Type 0
EndsStay es fs =
    (limit : ℕ) (opening : List Row) (batches : List (List Update))
    → EndWithEntries limit opening es batches → EndWithEntries limit opening fs batches
