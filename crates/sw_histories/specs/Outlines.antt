-- A file's object while its entries and its rows are passed over: what stands there in their place, and where their
-- tokens begin.
use Rattle.std.specs.Prelude.{◌≡◌, ◌≤◌, ◌||◌, ℕ, zero, suc, Bool, true, List, [], ◌∷◌, bytes_eq, codes, length, Option, Some, None, Result, is_some, option_and_then, option_map, if◌then◌else◌, IfSome, MatchResult}
use Rattle.std.specs.Global.{Vec}
use Rattle.json.specs.Token.{Token}
use Rattle.json.specs.Lex.{tokens}
use Rattle.json.specs.Json.{read_key, skip_value}
use Rattle.serde_json.specs.Data.{Data, Items, Members, array, boolean, member, no_items, no_members, null, number, object, string}
use Rattle.serde_json.specs.Find.{as_array, as_object}
use Rattle.serde_json.specs.Read.{read}
use Rattle.serde_json.specs.View.{members_view, view}
use Rattle.serde_json.specs.declared.value.Value.{Value}
use Rattle.sw_table.specs.Packed.{Packed}
use Rattle.sw_table.specs.declared.row.Row.{Row}
use Rattle.sw_rows.specs.Header.{Column}
use Rattle.sw_rows.specs.declared.table.TheConstants.{MOST_ROWS}
use Rattle.sw_query.specs.declared.refusal.Refusal.{Refusal}
use Rattle.sw_spine.specs.History.{History}
use Rattle.sw_spine.specs.declared.history.Entry.{Entry}
use Rattle.sw_histories.specs.FromTokens.{IsCount, data_from, items_from, members_from}
use Rattle.sw_histories.specs.RecordReading.{Frame, array_at, columns_in, entries_after, frame, frame_of, has_members, history_of, items_list, limit_in, or_fault, rows_after, rows_up_to}
use Rattle.sw_histories.specs.Told.{◌>>=◌, Reads}
use Rattle.sw_histories.specs.declared.reading.outline.ArrayOf.{ArrayOf}
use Rattle.sw_histories.specs.declared.reading.outline.ItemsAt.{ItemsAt}
use Rattle.sw_histories.specs.declared.reading.outline.Outline.{Outline}
use Rattle.sw_histories.specs.declared.reading.Front.{Front}
use Rattle.sw_histories.specs.declared.reading.Outer.{Outer}

-- an array without its items; any other value as it is
abbrev pub emptied : Data → Data
emptied null = null
emptied (boolean b) = boolean b
emptied (number n) = number n
emptied (string s) = string s
emptied (array ds) = array no_items
emptied (object ms) = object ms

-- whether the items of the value of a member are passed over
abbrev pub is_passed : List ℕ → Bool
is_passed name = bytes_eq name (codes "entries") || bytes_eq name (codes "rows")

abbrev pub outline_at : List ℕ → Data → Data
outline_at k d = if is_passed k then emptied d else d

-- the members, of which `entries` and `rows` are without their items
abbrev pub outline_of : Members → Members
outline_of no_members = no_members
outline_of (member k d ms) = member k (outline_at k d) (outline_of ms)

-- ---- tokens

-- after the brace that begins an object
abbrev pub after_brace : List Token → Option (List Token)
after_brace [] = None
after_brace (Token.begin_object ∷ ts) = Some ts
after_brace (Token.end_object ∷ ts) = None
after_brace (Token.begin_array ∷ ts) = None
after_brace (Token.end_array ∷ ts) = None
after_brace (Token.key s ∷ ts) = None
after_brace (Token.string s ∷ ts) = None
after_brace (Token.number s ∷ ts) = None
after_brace (Token.boolean b ∷ ts) = None
after_brace (Token.null ∷ ts) = None
after_brace (Token.bad ∷ ts) = None

-- after the bracket that begins an array
abbrev pub after_bracket : List Token → Option (List Token)
after_bracket [] = None
after_bracket (Token.begin_object ∷ ts) = None
after_bracket (Token.end_object ∷ ts) = None
after_bracket (Token.begin_array ∷ ts) = Some ts
after_bracket (Token.end_array ∷ ts) = None
after_bracket (Token.key s ∷ ts) = None
after_bracket (Token.string s ∷ ts) = None
after_bracket (Token.number s ∷ ts) = None
after_bracket (Token.boolean b ∷ ts) = None
after_bracket (Token.null ∷ ts) = None
after_bracket (Token.bad ∷ ts) = None

-- after a key
abbrev pub after_key : List Token → Option (List Token)
after_key ts = option_and_then (λ p. option_map (λ k. p.1) p.0) (read_key ts)

-- after a member of an object
abbrev pub after_member : List Token → Option (List Token)
after_member ts = option_and_then (skip_value 126) (after_key ts)

-- after so many members
abbrev pub after_members : ℕ → List Token → Option (List Token)
after_members zero ts = Some ts
after_members (suc n) ts = option_and_then (after_members n) (after_member ts)

-- the items of the array that is the value of the member after so many others
abbrev pub items_after : ℕ → List Token → Option (List Token)
items_after n ts = option_and_then after_bracket (option_and_then after_key (after_members n ts))

-- the values up to the end of an array
abbrev pub values_in : List Token → Option (List Data)
values_in ts = option_map (λ p. items_list p.0) (items_from 125 ts)

-- the same in the object that begins the tokens
abbrev pub items_entered : ℕ → List Token → Option (List Token)
items_entered n ts = option_and_then (items_after n) (after_brace ts)

-- what comes after a step is what is left; or there is no such step
abbrev pub Passes : {A E : Type 0} → Result A E → Option (List Token) → List Token → Type 0
Passes result after new = MatchResult result (λ _. after ≡ Some new) (λ _. after ≡ None)

-- the values of the array that is the value of the member after so many others, in an object that was begun
abbrev pub values_after : ℕ → List Token → Option (List Data)
values_after n ts = option_and_then values_in (items_after n ts)

-- how many values the array has that begins the tokens, or that there is none
abbrev pub Counts : Option ℕ → Data → List Token → Type 0
Counts None d ts = as_array d ≡ None
Counts (Some n) d ts =
    (ds : List Data) × (option_map items_list (as_array d) ≡ Some ds)
    × (option_and_then values_in (after_bracket ts) ≡ Some ds) × IsCount n (length ds)

-- an array that was begun was passed over, up to its end, and so many values were counted
abbrev pub HasPassed : ℕ → List Token → List Token → ℕ → Type 0
HasPassed depth old new n = (ds : Items) × (items_from depth old ≡ Some (ds, new)) × IsCount n (length (items_list ds))

-- a value that was read without its items, and how many these are
abbrev pub HasEmptied : List Token → List Token → Value × Option ℕ → Type 0
HasEmptied old new r =
    (d : Data) × (data_from 126 old ≡ Some (d, new)) × (view r.0 ≡ emptied d) × Counts r.1 d old

-- a member's value that was read as the outline has it, and how many items were passed over
abbrev pub HasOutlined : List ℕ → List Token → List Token → Value × Option ℕ → Type 0
HasOutlined name old new r =
    (d : Data) × (data_from 126 old ≡ Some (d, new)) × (view r.0 ≡ outline_at name d)
    × (is_passed name ≡ true → Counts r.1 d old)

-- where the items of the array that is the member of a name stand, in an object whose members begin the tokens, and how
-- many they are; or that there is no such array
abbrev pub Stands : List ℕ → Option ItemsAt → Members → List Token → Type 0
Stands name None ms ts = array_at name (object ms) ≡ None
Stands name (Some i) ms ts =
    (ds : List Data) × (array_at name (object ms) ≡ Some ds)
    × (values_after i.place ts ≡ Some ds) × IsCount i.count (length ds)

-- the items at a place, where they were counted
abbrev pub counted_at : ℕ → Option ℕ → Option ItemsAt
counted_at place counted = option_map (λ n. record { place = place; count = n }) counted

-- where the items of the member that is sought stand, after the member after so many others
abbrev pub standing : List ℕ → Option ItemsAt → List ℕ → ℕ → Option ℕ → Option ItemsAt
standing sought before name place counted = if bytes_eq name sought then counted_at place counted else before

-- what was read of an object whose members begin the tokens, up to its end: its outline, and where entries and rows
-- stand
pub record IsOutline (old new : List Token) (o : Outline) : Type 0 where
  pub all : Members
  pub read : members_from 126 old ≡ Some (all, new)
  pub outline : members_view o.members.entries ≡ outline_of all
  pub entries : Stands (codes "entries") o.entries all old
  pub rows : Stands (codes "rows") o.rows all old

-- the values of the array that is the value of the member after so many others, in an object that the tokens begin
abbrev pub values_at : ℕ → List Token → Option (List Data)
values_at n ts = option_and_then (values_after n) (after_brace ts)

-- the values of an array of a text's object
abbrev pub values_of : ArrayOf → Option (List Data)
values_of items = values_at items.at.place (tokens items.text.now)

-- no value, or one that is no object
abbrev pub NoObject : Option Data → Type 0
NoObject o = IfSome o (λ d. as_object d ≡ None)

-- an object's outline, and where entries and rows stand in its text
pub record IsOutlineOf (text : List ℕ) (o : Outline) : Type 0 where
  pub all : Members
  pub begun : List Token
  pub is_begun : after_brace (tokens text) ≡ Some begun
  pub read : read text ≡ Some (object all)
  pub outline : members_view o.members.entries ≡ outline_of all
  pub entries : Stands (codes "entries") o.entries all begun
  pub rows : Stands (codes "rows") o.rows all begun

-- the part outside the entries alone
abbrev pub without_items : Frame → Frame
without_items f = frame f.columns f.format f.limit f.rows []

-- that part of a value, if it is a history's
abbrev pub outside_of : Data → Option Frame
outside_of d = option_map without_items (frame_of d)

-- that part of the value of a text
abbrev pub outside_in : List ℕ → Option Frame
outside_in text = option_and_then outside_of (read text)

-- what was read of that part
abbrev pub read_as : Outer → Frame
read_as o = frame o.schema o.format o.limit o.rows.items []

-- the limit, where the members and the place of the entries are a history's
abbrev pub limit_of : Data → Option ℕ
limit_of d =
    if has_members 5 d then (if is_some (array_at (codes "entries") d) then limit_in d else None) else None

-- the attributes and the format, and that limit
abbrev pub front_of : Data → Option ((List Column × ℕ) × ℕ)
front_of d = option_and_then (λ limit. option_map (λ columns. (columns, limit)) (columns_in d)) (limit_of d)

-- what was read of these
abbrev pub front_as : Front → (List Column × ℕ) × ℕ
front_as f = ((f.schema, f.format), f.limit)

-- a limit that was read is within the most rows
abbrev pub IsWithinMost : Option Front → Type 0
IsWithinMost o = IfSome o (λ f. f.limit ≤ MOST_ROWS)

-- rows that were read, beside the attributes then, are those that were said; or no rows were said
abbrev pub AreRows : Option (List Column × List Row) → List Column → Option Packed → Type 0
AreRows said columns read = option_map (λ rows. (columns, rows.items)) read ≡ said

-- rows that were read, and the attributes before and then, are those of values, where there are values
abbrev pub ReadsRows : List Column → List Column → Option (List Data) → Option Packed → Type 0
ReadsRows old new o read = IfSome o (λ ds. AreRows (rows_after old [] ds) new read)

-- the same, at most so many
abbrev pub ReadsRowsUpTo : List Column → List Column → ℕ → Option (List Data) → Option Packed → Type 0
ReadsRowsUpTo old new limit o read = IfSome o (λ ds. AreRows (rows_up_to old limit ds) new read)

-- the entries of values in a file of this format are answered, and with them the attributes then, or their first fault,
-- where there are values
abbrev pub ReadsEntries : ℕ → List Column → List Column → Option (List Data) → Result (Vec Entry) Refusal → Type 0
ReadsEntries format old new o result =
    IfSome o (λ ds. Reads (λ entries. (new, entries.items)) result (entries_after format old [] ds))

-- the record of a text, or its first fault
abbrev pub record_in : List ℕ → Result History Refusal
record_in text = or_fault 0 (read text) >>= history_of
