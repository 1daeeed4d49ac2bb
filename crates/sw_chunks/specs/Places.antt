-- Into which area an update goes.
use Rattle.std.specs.Prelude.{◌≡◌, ◌≢◌, ◌<◌, ◌≤◌, ◌==◌, ◌+◌, ◌++◌, if◌then◌else◌, ℕ, ℤ, List, [], ◌∷◌, fold, get_or, length, map, slice_index_or, All}
use Rattle.sw_table.specs.declared.row.Row.{Row}
use Rattle.sw_table.specs.declared.row.Update.{Update}
use Rattle.sw_table.specs.declared.row.Update.TheVariants as update
use Rattle.sw_query.specs.Scan.{cell_of}
use Rattle.sw_set.specs.Shelf.{AreaState, MayReceiveAll}
use Rattle.sw_chunks.specs.Cuts.{place_in}

-- the number of the interval in which a row lies
abbrev pub place_of_row : ℕ → List ℤ → Row → ℕ
place_of_row a cuts r = place_in cuts (cell_of a r)

-- a row's key, and the area to which it goes
abbrev pub owner_of : ℕ → List ℤ → Row → ℕ × ℕ
owner_of a cuts r = (r.key, place_of_row a cuts r)

-- the place beside a key
abbrev pub find_place : ℕ → List (ℕ × ℕ) → ℕ
find_place key [] = 0
find_place key (o ∷ os) = if o.0 == key then o.1 else find_place key os

-- an insertion goes where its row's cell lies, a removal to the area of its row
abbrev pub place_by : ℕ → List ℤ → List (ℕ × ℕ) → Update → ℕ
place_by a cuts owners (update.Insert r) = place_of_row a cuts r
place_by a cuts owners (update.Remove key) = find_place key owners

-- the places of updates
abbrev pub places_of : ℕ → List ℤ → List (ℕ × ℕ) → List Update → List ℕ
places_of a cuts owners us = map (place_by a cuts owners) us

-- each of these places is that of an area
abbrev pub AreAmong : List AreaState → List ℕ → Type 0
AreAmong xs ps = All (λ (p : ℕ). p < length xs) ps

-- the key stands at a place
abbrev pub StandsAt : List (ℕ × ℕ) → ℕ → ℕ → Type 0
StandsAt owners place key = (place < length owners) × ((d : ℕ × ℕ) → (slice_index_or owners place d).0 ≡ key)

-- another stands there, or none
abbrev pub IsNotAt : List (ℕ × ℕ) → ℕ → ℕ → Type 0
IsNotAt owners place key = (d : ℕ × ℕ) → place < length owners → (slice_index_or owners place d).0 ≢ key

-- how many of these places are the one
abbrev pub count_at : ℕ → List ℕ → ℕ
count_at place [] = 0
count_at place (p ∷ ps) = if p == place then 1 + count_at place ps else count_at place ps

abbrev pub owners_of : ℕ → List ℤ → List Row → List (ℕ × ℕ)
owners_of a cuts rs = map (owner_of a cuts) rs

-- what a head keeps of them: nothing without cuts, since then all rows lie in the one area
abbrev pub owners_kept : ℕ → List ℤ → List Row → List (ℕ × ℕ)
owners_kept a [] rs = []
owners_kept a (c ∷ cs) rs = owners_of a (c ∷ cs) rs

-- the updates whose place is the one
abbrev pub sent : ℕ → List ℕ → List Update → List Update
sent place [] us = []
sent place (p ∷ ps) [] = []
sent place (p ∷ ps) (u ∷ us) = if p == place then u ∷ sent place ps us else sent place ps us

-- an area may receive what is sent to its place
abbrev pub MayBeSent : ℕ → List ℕ → List Update → AreaState → Type 0
MayBeSent place ps us x = MayReceiveAll (sent place ps us) x

-- and so may each
abbrev pub MayEachBeSent : List ℕ → List Update → List AreaState → Type 0
MayEachBeSent ps us xs = (k : ℕ) (d : AreaState) → k < length xs → MayBeSent k ps us (get_or xs k d)

-- each has room for as many as go there
abbrev pub HaveRoom : List ℕ → List AreaState → Type 0
HaveRoom ps xs = (k : ℕ) (d : AreaState) → k < length xs → count_at k ps ≤ (get_or xs k d).spare

-- what is sent to an area's place waits there
abbrev pub IsSent : ℕ → List ℕ → List Update → AreaState → AreaState → Type 0
IsSent place ps us x y = y ≡ record x { inbox = x.inbox ++ sent place ps us; spare = y.spare }

-- and so at each place
abbrev pub AreSent : List ℕ → List Update → List AreaState → List AreaState → Type 0
AreSent ps us xs ys = (k : ℕ) (d e : AreaState) → k < length xs → IsSent k ps us (get_or xs k d) (get_or ys k e)

-- updates may be routed: each area may receive what goes there by these owners
abbrev pub MayBeRouted : ℕ → List ℤ → List (ℕ × ℕ) → List Update → List AreaState → Type 0
MayBeRouted a cuts owners us xs = MayEachBeSent (places_of a cuts owners us) us xs

-- updates were routed: what goes to each area by these owners waits there
abbrev pub AreRouted : ℕ → List ℤ → List (ℕ × ℕ) → List Update → List AreaState → List AreaState → Type 0
AreRouted a cuts owners us xs ys = AreSent (places_of a cuts owners us) us xs ys

-- the rows and their areas, with one more if the update is a row that comes
abbrev pub owners_then : ℕ → List ℤ → List (ℕ × ℕ) → Update → List (ℕ × ℕ)
owners_then a cuts os (update.Insert r) = os ++ owner_of a cuts r ∷ []
owners_then a cuts os (update.Remove key) = os

-- and after updates
abbrev pub owners_with : ℕ → List ℤ → List (ℕ × ℕ) → List Update → List (ℕ × ℕ)
owners_with a cuts os us = fold (owners_then a cuts) os us

-- what a head keeps, after updates
abbrev pub owners_added : ℕ → List ℤ → List (ℕ × ℕ) → List Update → List (ℕ × ℕ)
owners_added a [] os us = os
owners_added a (c ∷ cs) os us = owners_with a (c ∷ cs) os us

-- what a head kept and what it keeps, after updates
abbrev pub HaveAdded : ℕ → List ℤ → List Update → List (ℕ × ℕ) → List (ℕ × ℕ) → Type 0
HaveAdded a cuts us was now = now ≡ owners_added a cuts was us
