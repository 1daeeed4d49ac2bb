-- The table that calls were made on.
use Rattle.std.specs.Prelude.{◌≡◌, ◌<◌, ◌≤◌, ℕ, List, true, length, nat_lt, if◌then◌else◌, Result, Ok, Err}
use Rattle.sw_query.specs.declared.refusal.Refusal.{Refusal}
use Rattle.sw_rows.specs.Gives.{Gives, Raised}
use Rattle.sw_rows.specs.Header.{Fault, too_many}
use Rattle.sw_rows.specs.Tables.{◌>>=◌, Table, table_of}
use Rattle.sw_rows.specs.declared.table.TheConstants.{MOST_ROWS}
use Rattle.sw_spine.specs.Table.{is_numbered}
use Rattle.sw_logs.specs.declared.opening.Opening.{Opening}

-- the limit is in range, and the rows have the keys 1, 2, 3 and so on and are within it
pub record IsOpening (o : Opening) : Type 0 where
  pub some : 0 < o.limit
  pub most : o.limit ≤ MOST_ROWS
  pub few : length o.rows.items ≤ o.limit
  pub numbered : is_numbered 1 o.rows.items ≡ true

-- the table, without its limit
abbrev pub table_in : Opening → Table
table_in o = record { columns = o.schema; rows = o.rows.items }

-- a table of no more rows than the limit
abbrev pub within : ℕ → Table → Result Table Fault
within limit t = if nat_lt limit (length t.rows) then Err (too_many limit) else Ok t

-- what is answered of bytes: their table within the limit, or their fault; it tells of the source only where its failures
-- rose
abbrev pub OpensFrom : ℕ → ℕ → ℕ → Result Opening Refusal → List ℕ → Type 0
OpensFrom limit old new answered bytes = Gives (Raised old new) table_in answered (table_of bytes >>= within limit)
