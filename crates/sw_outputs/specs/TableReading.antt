-- What a table that was written is read as.
use Rattle.std.specs.Prelude.{◌≡◌, ◌≤◌, ◌+◌, ℕ, true, List, [], ◌∷◌, All, length, map, Ok}
use Rattle.sw_rows.specs.Domains.{kind_in}
use Rattle.sw_rows.specs.Header.{Column, IsSchema, kinds_of, names_of}
use Rattle.sw_rows.specs.Tables.{Table, table_of}
use Rattle.sw_rows.specs.TextRows.{Cell, RowSeen, cells_seen, rows_seen}
use Rattle.sw_rows.specs.declared.loading.TheConstants.{MOST_BYTES}
use Rattle.sw_query.specs.declared.query.Call.{Call}
use Rattle.sw_query.specs.declared.reply.ReplyRow.{ReplyRow}
use Rattle.sw_rows.specs.declared.table.TheConstants.{MOST_ROWS}
use Rattle.sw_lang.specs.Fits.{FitsCall}
use Rattle.sw_lang.specs.PrintedCalls.{name_at}
use Rattle.sw_lang.specs.Replies.{kind_at}
use Rattle.sw_outputs.specs.Fields.{makes_table, table_text}
use Rattle.sw_outputs.specs.JsonLines.{attrs_shown}
use Rattle.sw_outputs.specs.JsonReading.{IsRowOf}

-- cells as rows whose keys count on from the first
abbrev pub numbered : ℕ → List (List Cell) → List RowSeen
numbered key [] = []
numbered key (cells ∷ rest) = record { key = key; cells = cells } ∷ numbered (key + 1) rest

-- a table of just these attributes, and of just these rows as they are seen, with the keys 1, 2, 3 and so on
pub record Shows (columns : List Column) (attrs : List ℕ) (rows : List ReplyRow) (t : Table) : Type 0 where
  pub names : names_of t.columns ≡ map (name_at columns) attrs
  pub kinds : map kind_in (kinds_of t.columns) ≡ map (λ a. kind_in (kind_at columns a)) attrs
  pub shown : rows_seen (kinds_of t.columns) t.rows
      ≡ numbered 1 (map (λ r. cells_seen (map (kind_at columns) attrs) r.cells) rows)

-- a table of rows that a call shows, written in no more bytes and rows than a table may have, is read as just these
abbrev pub TablesAreReadBack : Type 0
TablesAreReadBack =
    (columns : List Column) (c : Call) (rows : List ReplyRow)
    → IsSchema columns → FitsCall columns c → makes_table c ≡ true
    → All (IsRowOf (map (kind_at columns) (attrs_shown c))) rows → length rows ≤ MOST_ROWS
    → length (table_text columns (attrs_shown c) rows) ≤ MOST_BYTES
    → (t : Table) × (table_of (table_text columns (attrs_shown c) rows) ≡ Ok t) × Shows columns (attrs_shown c) rows t
