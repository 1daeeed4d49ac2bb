-- The live rows, as a command has them written.
use Rattle.std.specs.Prelude.{◌≡◌, ◌++◌, ℕ, zero, suc, List, [], ◌∷◌}
use Rattle.sw_engine.specs.Published.{answer_after}
use Rattle.sw_query.specs.declared.query.Call.{Call}
use Rattle.sw_query.specs.declared.query.Call.TheVariants.{Select}
use Rattle.sw_query.specs.declared.query.Query.{Query}
use Rattle.sw_query.specs.declared.query.Want.TheVariants as want
use Rattle.sw_query.specs.declared.reply.Reply.{Reply}
use Rattle.sw_table.specs.declared.row.Row.{Row}
use Rattle.sw_table.specs.declared.row.Update.{Update}

-- the first n attributes, in order
abbrev pub attributes : ℕ → List ℕ
attributes zero = []
attributes (suc n) = attributes n ++ n ∷ []

-- the select of all rows with their cells of the first n attributes
abbrev pub all_rows : ℕ → Query
all_rows n = record { conds = []; want = want.Rows (attributes n) }

-- that call, with what a plain list of rows answers it after some updates
pub record AreRows (columns limit : ℕ) (opening : List Row) (shown : Call × Reply) : Type 0 where
  pub updates : List Update
  pub call : shown.0 ≡ Select (all_rows columns)
  pub reply : shown.1 ≡ answer_after limit opening updates (all_rows columns)
