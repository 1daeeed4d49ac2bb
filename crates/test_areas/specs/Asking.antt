-- What an area may be asked.
use Rattle.std.specs.Prelude.{◌≡◌, ℕ}
use Rattle.sw_query.specs.declared.query.Query.{Query}
use Rattle.sw_query.specs.Scan.{AsksBelow}
use Rattle.sw_set.specs.Needs.{head_in}

-- The query's attributes are below 8, and its head is that of the area.
pub record MayAsk (attribute : ℕ) (q : Query) : Type 0 where
  pub below : AsksBelow 8 q
  pub head : head_in q.conds ≡ attribute
