-- The plain scan: what a query is answered over a list of rows.
use Rattle.std.specs.Prelude.{◌≡◌, ◌<◌, ◌&&◌, ℕ, ℤ, pos, ◌+ℤ◌, Bool, false, List, [], ◌∷◌, map, filter, fold, length, slice_index_or, Option, Some, None, All}
use Rattle.std.specs.List.{list_all}
use Rattle.std.specs.Int.{int_min, int_max}
use Rattle.sw_query.specs.Bounds.{is_within}
pub use Rattle.sw_table.specs.Rows.{cell_of}
use Rattle.sw_table.specs.declared.row.Row.{Row}
use Rattle.sw_query.specs.declared.query.Cond.{Cond}
use Rattle.sw_query.specs.declared.query.Want.{Want}
use Rattle.sw_query.specs.declared.query.Want.TheVariants as want
use Rattle.sw_query.specs.declared.query.Query.{Query}
use Rattle.sw_query.specs.declared.reply.ReplyRow.{ReplyRow}
use Rattle.sw_query.specs.declared.reply.Reply.{Reply}
use Rattle.sw_query.specs.declared.reply.Reply.TheVariants as reply

-- whether a row meets a condition
abbrev pub meets : Row → Cond → Bool
meets r c = is_within c.lower c.upper (cell_of c.attr r)

-- whether a row meets each condition of a list
abbrev pub meets_all : List Cond → Row → Bool
meets_all cs r = list_all (meets r) cs

-- whether the row at a place is live and meets each condition; d stands for a row past the end
abbrev pub is_match : List Cond → List Bool → List Row → ℕ → Row → Bool
is_match cs live rs place d = slice_index_or live place false && meets_all cs (slice_index_or rs place d)

-- a condition that each row meets
abbrev pub no_cond : Cond
no_cond = record { attr = 0; lower = None; upper = None }

-- the first of a list of conditions, or else one that each row meets
abbrev pub first_of : List Cond → Cond
first_of [] = no_cond
first_of (c ∷ cs) = c

-- the rows that meet each condition, in order
abbrev pub matching : List Cond → List Row → List Row
matching cs rs = filter (meets_all cs) rs

-- the cells of an attribute
abbrev pub column : ℕ → List Row → List ℤ
column a rs = map (cell_of a) rs

-- a row's cells of some attributes
abbrev pub shown_cells : List ℕ → Row → List ℤ
shown_cells names r = map (λ a. cell_of a r) names

-- a row's key and wanted cells
abbrev pub projected : List ℕ → Row → ReplyRow
projected names r = record { key = r.key; cells = shown_cells names r }

-- the cells, or the reply's row, of the row at a place; d stands for a row past the end
abbrev pub ShowsCells : List ℕ → List Row → ℕ → List ℤ → Type 0
ShowsCells names rs place cells = (d : Row) → cells ≡ shown_cells names (slice_index_or rs place d)

abbrev pub ShowsRow : List ℕ → List Row → ℕ → ReplyRow → Type 0
ShowsRow names rs place shown = (d : Row) → shown ≡ projected names (slice_index_or rs place d)

-- the keys and wanted cells of the rows that meet each condition, in order
abbrev pub selected : List Cond → List ℕ → List Row → List ReplyRow
selected cs names rs = map (projected names) (matching cs rs)

-- the sum of a list, 0 for none
abbrev pub total : List ℤ → ℤ
total zs = fold ◌+ℤ◌ (pos 0) zs

-- the least of a list, if it has one
abbrev pub least : List ℤ → Option ℤ
least [] = None
least (z ∷ zs) = Some (fold int_min z zs)

-- the greatest of a list, if it has one
abbrev pub greatest : List ℤ → Option ℤ
greatest [] = None
greatest (z ∷ zs) = Some (fold int_max z zs)

-- the lesser of what was found, if anything was, and a value
abbrev pub lesser_with : Option ℤ → ℤ → ℤ
lesser_with None z = z
lesser_with (Some l) z = int_min l z

-- the greater of them
abbrev pub larger_with : Option ℤ → ℤ → ℤ
larger_with None z = z
larger_with (Some l) z = int_max l z

-- what is wanted of the rows that meet the conditions
abbrev pub answer_over : List Row → Want → Reply
answer_over rs (want.Rows names) = reply.Rows (map (projected names) rs)
answer_over rs want.Count = reply.Count (length rs)
answer_over rs (want.Sum a) = reply.Sum (total (column a rs))
answer_over rs (want.Min a) = reply.Least (least (column a rs))
answer_over rs (want.Max a) = reply.Least (greatest (column a rs))

-- what a query is answered over a list of rows
abbrev pub answer : List Row → Query → Reply
answer rs q = answer_over (matching q.conds rs) q.want

-- the query for the number of rows that meet some conditions
abbrev pub counting : List Cond → Query
counting cs = record { conds = cs; want = want.Count }

-- each attribute that is named is one of the first n
abbrev pub WantsBelow : ℕ → Want → Type 0
WantsBelow n (want.Rows names) = All (λ a. a < n) names
WantsBelow n want.Count = Unit {0}
WantsBelow n (want.Sum a) = a < n
WantsBelow n (want.Min a) = a < n
WantsBelow n (want.Max a) = a < n

abbrev pub CondsBelow : ℕ → List Cond → Type 0
CondsBelow n cs = All (λ c. c.attr < n) cs

-- a query names attributes of the first n alone
pub record AsksBelow (n : ℕ) (q : Query) : Type 0 where
  pub conds : CondsBelow n q.conds
  pub want : WantsBelow n q.want

-- a list of rows is asked for
abbrev pub TakesMemory : Want → Type 0
TakesMemory (want.Rows names) = Unit {0}
TakesMemory want.Count = ⊥
TakesMemory (want.Sum a) = ⊥
TakesMemory (want.Min a) = ⊥
TakesMemory (want.Max a) = ⊥
