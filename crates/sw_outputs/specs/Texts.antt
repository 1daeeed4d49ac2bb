-- The text of a JSON value.
use Rattle.std.specs.Prelude.{◌≡◌, ℕ, Bool, true, false, List, [], ◌∷◌, ◌++◌, codes, if◌then◌else◌, Result, OnOk}
use Rattle.json.specs.Json.{Json, null, boolean, number, string, array, object, Items, no_items, item, Members, no_members, member}
use Rattle.json.specs.Print.{quoted}

-- values as the items of an array
abbrev pub items_of : List Json → Items
items_of [] = no_items
items_of (j ∷ js) = item j (items_of js)

-- a comma, where something stands before
abbrev pub comma_if : Bool → List ℕ
comma_if later = if later then codes "," else []

abbrev pub truth_text : Bool → List ℕ
truth_text b = if b then codes "true" else codes "false"

-- no blanks, and strings with the shortest escapes
abbrev mutual
  pub value_text : Json → List ℕ
  value_text null = codes "null"
  value_text (boolean b) = truth_text b
  value_text (number s) = s
  value_text (string s) = quoted s
  value_text (array js) = codes "[" ++ items_text false js
  value_text (object ms) = codes "{" ++ members_text false ms

  -- items, each behind a comma but the first, and the closing bracket
  pub items_text : Bool → Items → List ℕ
  items_text later no_items = codes "]"
  items_text later (item j js) = comma_if later ++ (value_text j ++ items_text true js)

  pub members_text : Bool → Members → List ℕ
  members_text later no_members = codes "}"
  members_text later (member k j ms) = comma_if later ++ (quoted k ++ (codes ":" ++ (value_text j ++ members_text true ms)))

-- these bytes were put behind those that stood there, or that was refused
abbrev pub Puts : {A E : Type 0} → Result A E → List ℕ → List ℕ → List ℕ → Type 0
Puts result old new bytes = OnOk result (new ≡ old ++ bytes)
