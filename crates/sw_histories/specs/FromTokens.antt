-- What begins the tokens of a text, as data, and the tokens after it; and how far a count of values goes.
use Rattle.std.specs.Prelude.{◌≡◌, ◌<◌, ◌≤◌, ℕ, List, length, Option, IsSomeAnd}
use Rattle.json.specs.Token.{Token}
use Rattle.json.specs.Json.{items, members, value}
use Rattle.serde_json.specs.Data.{Data, Items, Members, no_members}
use Rattle.serde_json.specs.Read.{converted, of_items, of_json, of_members}
use Rattle.sw_spine.specs.declared.spine.TheConstants.{MOST_ENTRIES}

-- a value, in which arrays and objects nest this deep
abbrev pub data_from : ℕ → List Token → Option (Data × List Token)
data_from depth ts = converted of_json (value depth ts)

-- the values of an array that was begun, up to its end
abbrev pub items_from : ℕ → List Token → Option (Items × List Token)
items_from depth ts = converted of_items (items (value depth) (length ts) ts)

-- the members of an object that was begun, up to its end
abbrev pub members_from : ℕ → List Token → Option (Members × List Token)
members_from depth ts = converted (λ ms. of_members ms no_members) (members (value depth) (length ts) ts)

-- a count that stops above the most entries of a history
abbrev pub IsCount : ℕ → ℕ → Type 0
IsCount count n = (count ≤ MOST_ENTRIES → count ≡ n) × (MOST_ENTRIES < count → MOST_ENTRIES < n)

-- there are values, and so many were counted
abbrev pub AreCounted : Option (List Data) → ℕ → Type 0
AreCounted o count = IsSomeAnd o (λ ds. IsCount count (length ds))

-- there are values, and no more than the most entries of a history
abbrev pub AreFew : Option (List Data) → Type 0
AreFew o = IsSomeAnd o (λ ds. length ds ≤ MOST_ENTRIES)
