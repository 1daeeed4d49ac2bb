-- What holds of each call that a line gives, beside the line's own text.
use Rattle.std.specs.Prelude.{◌≡◌, ◌≤◌, ◌⊎◌, ◌||◌, ℕ, ℤ, pos, Bool, true, false, int_lt, is_some, List, [], ◌∷◌, length, map, nat_eq, replicate, Option, Some, None, All}
use Rattle.std.specs.List.{IsDistinct}
use Rattle.sw_rows.specs.Header.{Column, kinds_of}
use Rattle.sw_query.specs.Scan.{AsksBelow, counting}
use Rattle.sw_rows.specs.Texts.{text_of}
use Rattle.sw_query.specs.declared.bound.Bound.{Bound}
use Rattle.sw_query.specs.declared.bound.Bound.TheVariants.{Before, After}
use Rattle.sw_rows.specs.Domains.{Domain, is_of_texts}
use Rattle.sw_rows.specs.Domains as kind
use Rattle.sw_query.specs.declared.query.Cond.{Cond}
use Rattle.sw_query.specs.declared.query.Call.{Call}
use Rattle.sw_query.specs.declared.query.Call.TheVariants.{Select, Insert, Delete, DeleteWhere}
use Rattle.sw_query.specs.declared.query.Query.{Query}
use Rattle.sw_query.specs.declared.query.Want.{Want}
use Rattle.sw_query.specs.declared.query.Want.TheVariants.{Rows, Count, Sum, Min, Max}
use Rattle.sw_lang.specs.Replies.{kind_at}

-- a cell of a domain: of flags 0 or 1, of texts the code of one
abbrev pub IsOfKind : Domain → ℤ → Type 0
IsOfKind kind.Int z = Unit {0}
IsOfKind (kind.Fix places) z = Unit {0}
IsOfKind kind.Flag z = (z ≡ pos 0) ⊎ (z ≡ pos 1)
IsOfKind (kind.Text texts) z = (code : ℕ) × (z ≡ pos code) × (text : List ℕ) × (text_of texts code ≡ Some text)

-- a bound, if there is one, stands at a cell of the kind
abbrev pub IsBoundOfKind : Domain → Option Bound → Type 0
IsBoundOfKind k None = Unit {0}
IsBoundOfKind k (Some (Before z)) = IsOfKind k z
IsBoundOfKind k (Some (After z)) = IsOfKind k z

abbrev pub HasBoundsOfKind : List Column → Cond → Type 0
HasBoundsOfKind schema c =
    IsBoundOfKind (kind_at schema c.attr) c.lower × IsBoundOfKind (kind_at schema c.attr) c.upper

-- bounds as equality with texts makes them: from one code on, and up to it or to a lesser one
abbrev pub AreEqualBounds : Option Bound → Option Bound → Type 0
AreEqualBounds None upper = ⊥
AreEqualBounds (Some (After y)) upper = ⊥
AreEqualBounds (Some (Before y)) None = ⊥
AreEqualBounds (Some (Before y)) (Some (Before z)) = ⊥
AreEqualBounds (Some (Before y)) (Some (After z)) = int_lt y z ≡ false

-- texts are compared by equality alone
abbrev pub IsEqualOnTexts : List Column → Cond → Type 0
IsEqualOnTexts schema c = is_of_texts (kind_at schema c.attr) ≡ true → AreEqualBounds c.lower c.upper

-- texts are not summed, and have no least and no greatest
abbrev pub TakesNumbers : List Column → Want → Type 0
TakesNumbers schema (Rows names) = Unit {0}
TakesNumbers schema Count = Unit {0}
TakesNumbers schema (Sum a) = is_of_texts (kind_at schema a) ≡ false
TakesNumbers schema (Min a) = is_of_texts (kind_at schema a) ≡ false
TakesNumbers schema (Max a) = is_of_texts (kind_at schema a) ≡ false

-- a list of names has 1 to 8
abbrev pub HasFewNames : Want → Type 0
HasFewNames (Rows names) = (1 ≤ length names) × (length names ≤ 8)
HasFewNames Count = Unit {0}
HasFewNames (Sum a) = Unit {0}
HasFewNames (Min a) = Unit {0}
HasFewNames (Max a) = Unit {0}

-- a query of the table's attributes, each of them in one condition at most
pub record FitsQuery (schema : List Column) (q : Query) : Type 0 where
  pub attrs : AsksBelow (length schema) q
  pub once : IsDistinct nat_eq (map (λ c. c.attr) q.conds)
  pub bounds : All (HasBoundsOfKind schema) q.conds
  pub equal : All (IsEqualOnTexts schema) q.conds
  pub numbers : TakesNumbers schema q.want
  pub names : HasFewNames q.want

-- a bound is there
abbrev pub is_bound : Option Bound → Option Bound → Bool
is_bound lower upper = is_some lower || is_some upper

abbrev pub IsBound : Cond → Type 0
IsBound c = is_bound c.lower c.upper ≡ true

-- conditions as those of a query, one at least, each of them with a bound
pub record FitsConds (schema : List Column) (conds : List Cond) : Type 0 where
  pub query : FitsQuery schema (counting conds)
  pub some : 1 ≤ length conds
  pub bound : All IsBound conds

-- cells of these kinds, and zeros after them
abbrev pub FitsCells : List Domain → List ℤ → Type 0
FitsCells [] cells = cells ≡ replicate (length cells) (pos 0)
FitsCells (k ∷ ks) [] = ⊥
FitsCells (k ∷ ks) (z ∷ zs) = IsOfKind k z × FitsCells ks zs

-- a call of the table
abbrev pub FitsCall : List Column → Call → Type 0
FitsCall schema (Select q) = FitsQuery schema q
FitsCall schema (Insert cells) = FitsCells (kinds_of schema) cells
FitsCall schema (Delete key) = Unit {0}
FitsCall schema (DeleteWhere conds) = FitsConds schema conds
