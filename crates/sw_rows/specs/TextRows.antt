-- Answers over texts: rows as they are seen, whose cells of texts are the texts themselves.
use Rattle.std.specs.Prelude.{◌≡◌, ◌<◌, ◌++◌, ◌∷◌, [], ℕ, ℤ, pos, Bool, false, List, All, map, filter, length, get_or, bytes_eq, int_lt, Option, None, Some, IsSome}
use Rattle.std.specs.List.{list_all}
use Rattle.sw_query.specs.Bounds.{is_within}
use Rattle.sw_rows.specs.Domains.{Domain, is_of_texts}
use Rattle.sw_rows.specs.Domains as kind
use Rattle.sw_rows.specs.Header.{Column, kinds_of, knowing}
use Rattle.sw_query.specs.Scan.{AsksBelow, cell_of, greatest, least, total, answer, matching, meets}
use Rattle.sw_rows.specs.Texts.{text_at}
use Rattle.sw_query.specs.declared.bound.Bound.{Bound}
use Rattle.sw_query.specs.declared.bound.Bound.TheVariants as bound
use Rattle.sw_query.specs.declared.query.Cond.{Cond}
use Rattle.sw_query.specs.declared.query.Query.{Query}
use Rattle.sw_query.specs.declared.query.Want.{Want}
use Rattle.sw_query.specs.declared.query.Want.TheVariants as want
use Rattle.sw_query.specs.declared.reply.Reply.{Reply}
use Rattle.sw_query.specs.declared.reply.Reply.TheVariants as reply
use Rattle.sw_query.specs.declared.reply.ReplyRow.{ReplyRow}
use Rattle.sw_table.specs.declared.row.Row.{Row}

-- ---- rows

-- a cell as it is seen
pub data Cell : Type 0 where
  number : ℤ → Cell
  text : List ℕ → Cell

-- the text, where there is one, or else the number
abbrev pub text_or : ℤ → Option (List ℕ) → Cell
text_or z None = number z
text_or z (Some t) = text t

-- a cell of texts is the text of its code, another one its number
abbrev pub cell_seen : Domain → ℤ → Cell
cell_seen (kind.Text texts) z = text_or z (text_at texts z)
cell_seen d z = number z

-- one cell of each domain; cells that are not there are 0
abbrev pub cells_seen : List Domain → List ℤ → List Cell
cells_seen [] zs = []
cells_seen (d ∷ ds) [] = cell_seen d (pos 0) ∷ cells_seen ds []
cells_seen (d ∷ ds) (z ∷ zs) = cell_seen d z ∷ cells_seen ds zs

-- a row as it is seen: its key, and a cell of each attribute
pub record RowSeen : Type 0 where
  pub key : ℕ
  pub cells : List Cell

abbrev pub row_seen : List Domain → Row → RowSeen
row_seen ds r = record { key = r.key; cells = cells_seen ds r.cells }

abbrev pub rows_seen : List Domain → List Row → List RowSeen
rows_seen ds rs = map (row_seen ds) rs

abbrev pub cell_in : ℕ → RowSeen → Cell
cell_in a r = get_or r.cells a (number (pos 0))

-- ---- conditions

abbrev pub domain_at : List Domain → ℕ → Domain
domain_at ds a = get_or ds a kind.Int

-- what is asked of a cell: that it is a number in a range, or a text that equals each one named
pub data Test : Type 0 where
  within : Option Bound → Option Bound → Test
  equals : List (List ℕ) → Test

-- a condition as it is seen
pub record CondSeen : Type 0 where
  pub attr : ℕ
  pub test : Test

abbrev pub passes : Test → Cell → Bool
passes (within lower upper) (number z) = is_within lower upper z
passes (equals texts) (text t) = list_all (bytes_eq t) texts
passes test cell = false

-- the value at which a bound stands
abbrev pub value_at : Bound → ℤ
value_at (bound.Before v) = v
value_at (bound.After v) = v

-- the text that a bound names
abbrev pub as_list : Option (List ℕ) → List (List ℕ)
as_list None = []
as_list (Some t) = t ∷ []

abbrev pub named_by : List (List ℕ) → Option Bound → List (List ℕ)
named_by texts None = []
named_by texts (Some b) = as_list (text_at texts (value_at b))

-- on texts a condition is equality with the text that each bound names, on numbers it is the range
abbrev pub test_seen : Domain → Option Bound → Option Bound → Test
test_seen (kind.Text texts) lower upper = equals (named_by texts lower ++ named_by texts upper)
test_seen d lower upper = within lower upper

abbrev pub cond_seen : List Domain → Cond → CondSeen
cond_seen ds c = record { attr = c.attr; test = test_seen (domain_at ds c.attr) c.lower c.upper }

abbrev pub conds_seen : List Domain → List Cond → List CondSeen
conds_seen ds cs = map (cond_seen ds) cs

-- ---- answers

-- whether a row meets a condition, or each of a list
abbrev pub meets_seen : RowSeen → CondSeen → Bool
meets_seen r c = passes c.test (cell_in c.attr r)

abbrev pub meets_all_seen : List CondSeen → RowSeen → Bool
meets_all_seen cs r = list_all (meets_seen r) cs

-- the rows that meet each condition, in order
abbrev pub matching_seen : List CondSeen → List RowSeen → List RowSeen
matching_seen cs rs = filter (meets_all_seen cs) rs

-- a row's key and wanted cells
abbrev pub projected_seen : List ℕ → RowSeen → RowSeen
projected_seen names r = record { key = r.key; cells = map (λ a. cell_in a r) names }

-- the numbers of an attribute
abbrev pub number_in : Cell → ℤ
number_in (number z) = z
number_in (text t) = pos 0

abbrev pub numbers : ℕ → List RowSeen → List ℤ
numbers a rs = map (λ r. number_in (cell_in a r)) rs

-- a reply as it is seen: rows, or what shows no cell of texts
pub data ReplySeen : Type 0 where
  rows : List RowSeen → ReplySeen
  plain : Reply → ReplySeen

-- what is wanted of the rows that meet the conditions
abbrev pub answer_over_seen : List RowSeen → Want → ReplySeen
answer_over_seen rs (want.Rows names) = rows (map (projected_seen names) rs)
answer_over_seen rs want.Count = plain (reply.Count (length rs))
answer_over_seen rs (want.Sum a) = plain (reply.Sum (total (numbers a rs)))
answer_over_seen rs (want.Min a) = plain (reply.Least (least (numbers a rs)))
answer_over_seen rs (want.Max a) = plain (reply.Least (greatest (numbers a rs)))

-- what is answered over a list of rows
abbrev pub answer_seen : List RowSeen → List CondSeen → Want → ReplySeen
answer_seen rs cs w = answer_over_seen (matching_seen cs rs) w

-- the domains of the cells that a reply shows
abbrev pub domains_shown : List Domain → Want → List Domain
domains_shown ds (want.Rows names) = map (domain_at ds) names
domains_shown ds w = []

-- a reply's row as it is seen, its cells being of these domains
abbrev pub shown_seen : List Domain → ReplyRow → RowSeen
shown_seen ds r = record { key = r.key; cells = cells_seen ds r.cells }

abbrev pub reply_seen : List Domain → Reply → ReplySeen
reply_seen ds (reply.Rows rs) = rows (map (shown_seen ds) rs)
reply_seen ds r = plain r

-- ---- what rows and queries are to be

-- a cell of texts is the code of one
abbrev pub IsCoded : Domain → ℤ → Type 0
IsCoded (kind.Text texts) z = IsSome (text_at texts z)
IsCoded d z = Unit {0}

abbrev pub IsRowCoded : List Domain → Row → Type 0
IsRowCoded ds r = (a : ℕ) → a < length ds → IsCoded (domain_at ds a) (cell_of a r)

abbrev pub AreCoded : List Domain → List Row → Type 0
AreCoded ds rs = All (IsRowCoded ds) rs

-- bounds that name texts to be equal to: from the code of one, up to that of another, which is not above the first
pub record AreEqualities (texts : List (List ℕ)) (lower upper : Option Bound) : Type 0 where
  pub first : ℤ
  pub second : ℤ
  pub from_first : lower ≡ Some (bound.Before first)
  pub to_second : upper ≡ Some (bound.After second)
  pub first_coded : IsSome (text_at texts first)
  pub second_coded : IsSome (text_at texts second)
  pub not_above : int_lt first second ≡ false

-- a condition on texts is of equalities alone
abbrev pub IsTextCond : Domain → Cond → Type 0
IsTextCond (kind.Text texts) c = AreEqualities texts c.lower c.upper
IsTextCond d c = Unit {0}

-- no texts are added up or compared
abbrev pub SumsNumbers : List Domain → Want → Type 0
SumsNumbers ds (want.Sum a) = is_of_texts (domain_at ds a) ≡ false
SumsNumbers ds (want.Min a) = is_of_texts (domain_at ds a) ≡ false
SumsNumbers ds (want.Max a) = is_of_texts (domain_at ds a) ≡ false
SumsNumbers ds w = Unit {0}

-- a query of the attributes that asks of texts no more than equality
pub record AsksOfTexts (ds : List Domain) (q : Query) : Type 0 where
  pub below : AsksBelow (length ds) q
  pub conds : All (λ c. IsTextCond (domain_at ds c.attr) c) q.conds
  pub sums : SumsNumbers ds q.want

-- ---- answers over codes are what they are over texts

-- a row of codes meets a condition just where the row of its texts meets the condition on texts
abbrev pub MeetsOverTexts : List Column → Row → Cond → Type 0
MeetsOverTexts columns r c = let ds = kinds_of columns in
    IsRowCoded ds r → IsTextCond (domain_at ds c.attr) c → meets_seen (row_seen ds r) (cond_seen ds c) ≡ meets r c

-- the same rows match
abbrev pub MatchingOverTexts : List Column → List Row → Query → Type 0
MatchingOverTexts columns rs q = let ds = kinds_of columns in
    AreCoded ds rs → AsksOfTexts ds q
    → matching_seen (conds_seen ds q.conds) (rows_seen ds rs) ≡ rows_seen ds (matching q.conds rs)

-- the answer over codes, with its cells seen as their texts, is the answer over texts
abbrev pub AnswerOverTexts : List Column → List Row → Query → Type 0
AnswerOverTexts columns rs q = let ds = kinds_of columns in
    AreCoded ds rs → AsksOfTexts ds q
    → answer_seen (rows_seen ds rs) (conds_seen ds q.conds) q.want ≡ reply_seen (domains_shown ds q.want) (answer rs q)

-- rows of codes are such still as the attributes get to know more texts, and are seen as before
abbrev pub StayCoded : List Column → List (List ℕ) → List Row → Type 0
StayCoded columns more rs = AreCoded (kinds_of columns) rs → AreCoded (kinds_of (knowing more columns)) rs

abbrev pub StaySeen : List Column → List (List ℕ) → List Row → Type 0
StaySeen columns more rs =
    AreCoded (kinds_of columns) rs → rows_seen (kinds_of (knowing more columns)) rs ≡ rows_seen (kinds_of columns) rs
