-- A query of a schema's attributes is one of attributes below 8, and so are a deletion's conditions.
use Rattle.std.proofs.Common.{ℕ, List, ◌≤◌, arith, length}
use Rattle.sw_rows.specs.Header.{Column, IsSchema}
use Rattle.sw_query.specs.Scan.{AsksBelow, CondsBelow, WantsBelow, counting}
use Rattle.sw_query.specs.declared.query.Cond.{Cond}
use Rattle.sw_query.specs.declared.query.Query.{Query}
use Rattle.sw_query.specs.declared.query.Want.{Want}
use Rattle.sw_query.specs.declared.query.Want.TheVariants as want
use Rattle.sw_lang.specs.Fits.{FitsConds, FitsQuery}

wants_below : (n : ℕ) (w : Want) → n ≤ 8 → WantsBelow n w → WantsBelow 8 w
wants_below n (want.Rows names) le h = λ i d lt. let a = h i d lt in omega arith
wants_below n want.Count le h = tt
wants_below n (want.Sum a) le h = omega arith
wants_below n (want.Min a) le h = omega arith
wants_below n (want.Max a) le h = omega arith

-- a query of the first n attributes alone is one of the first 8 alone, where n is 8 at most
pub asks_below : (n : ℕ) (q : Query) → n ≤ 8 → AsksBelow n q → AsksBelow 8 q
asks_below n q le h = record { conds = λ i d lt. let a = h.conds i d lt in omega arith; want = wants_below n q.want le h.want }

-- a query that fits a schema names attributes of the first 8 alone
pub query_asks : (schema : List Column) (q : Query) → IsSchema schema → FitsQuery schema q → AsksBelow 8 q
query_asks schema q s f = asks_below (length schema) q s.sound.few f.attrs

-- conditions that fit a schema are on attributes of the first 8 alone
pub conds_ask : (schema : List Column) (conds : List Cond) → IsSchema schema → FitsConds schema conds → CondsBelow 8 conds
conds_ask schema conds s f = (query_asks schema (counting conds) s f.query).conds
