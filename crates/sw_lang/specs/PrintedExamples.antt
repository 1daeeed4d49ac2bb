-- Columns, calls and replies of the examples of printed calls and replies.
use Rattle.std.specs.Prelude.{ℕ, ℤ, List, [], ◌∷◌, Option, Some, codes, None, map, negsuc, pos}
use Rattle.sw_query.specs.declared.bound.Bound.{Bound}
use Rattle.sw_query.specs.declared.bound.Bound.TheVariants.{Before, After}
use Rattle.sw_query.specs.declared.query.Cond.{Cond}
use Rattle.sw_rows.specs.Header.{Column}
use Rattle.sw_rows.specs.Domains as kind
use Rattle.sw_rows.specs.Tables.{padded}
use Rattle.sw_query.specs.declared.query.Call.{Call}
use Rattle.sw_query.specs.declared.query.Call.TheVariants as call
use Rattle.sw_query.specs.declared.query.Want.{Want}
use Rattle.sw_query.specs.declared.query.Want.TheVariants as want
use Rattle.sw_query.specs.declared.reply.Reply.TheVariants as reply
use Rattle.sw_query.specs.declared.reply.ReplyRow.{ReplyRow}
use Rattle.sw_lang.specs.Replies.{reply_bytes}

-- three attributes of whole numbers
abbrev pub abc : List Column
abc = (codes "a", kind.Int) ∷ (codes "b", kind.Int) ∷ (codes "c", kind.Int) ∷ []

-- a price of two decimals, and a flag
abbrev pub priced : List Column
priced = (codes "price", kind.Fix 2) ∷ (codes "ok", kind.Flag) ∷ []

-- a query without conditions
abbrev pub asking : Want → Call
asking w = call.Select (record { conds = []; want = w })

-- a query with conditions
abbrev pub asking_where : Want → List Cond → Call
asking_where w cs = call.Select (record { conds = cs; want = w })

-- the lower bound of the cells from a value on
abbrev pub at_least : ℤ → Option Bound
at_least z = Some (Before z)

-- the lower bound of the cells above a value
abbrev pub above : ℤ → Option Bound
above z = Some (After z)

-- the upper bound of the cells up to a value
abbrev pub at_most : ℤ → Option Bound
at_most z = Some (After z)

-- the upper bound of the cells below a value
abbrev pub below : ℤ → Option Bound
below z = Some (Before z)

abbrev pub cond : ℕ → Option Bound → Option Bound → Cond
cond a lower upper = record { attr = a; lower = lower; upper = upper }

abbrev pub row : ℕ → List ℤ → ReplyRow
row key cells = record { key = key; cells = cells }

-- the reply of rows to a query that shows some attributes
abbrev pub rows_bytes : List Column → List ℕ → List ReplyRow → List ℕ
rows_bytes columns names rows = reply_bytes columns (asking (want.Rows names)) (reply.Rows rows)

-- two rows that show a cell, and two that show two
abbrev pub short_rows : List ReplyRow
short_rows = row 1 (pos 7 ∷ []) ∷ row 3 (pos 5 ∷ []) ∷ []

abbrev pub two_rows : List ReplyRow
two_rows = row 1 (pos 7 ∷ pos 1 ∷ []) ∷ row 3 (pos 5 ∷ pos 1 ∷ []) ∷ []

-- the cells that are a number, and those between two numbers
abbrev pub equal_to : ℕ → ℕ → Cond
equal_to a n = cond a (at_least (pos n)) (at_most (pos n))

abbrev pub between : ℕ → ℕ → ℕ → Cond
between a m n = cond a (above (pos m)) (below (pos n))

-- the first and the third attribute of rows whose second is below 6 and whose first is -10 at least
abbrev pub rows_by_two : Call
rows_by_two =
    asking_where (want.Rows (0 ∷ 2 ∷ [])) (cond 1 None (below (pos 6)) ∷ cond 0 (at_least (negsuc 9)) None ∷ [])

-- the sum of prices below 0.20 with the flag true
abbrev pub cheap_sum : Call
cheap_sum = asking_where (want.Sum 0) (equal_to 1 1 ∷ cond 0 None (below (pos 20)) ∷ [])

-- an insert of these cells, the others being 0
abbrev pub inserting : List ℕ → Call
inserting cells = call.Insert (padded (map (λ n. pos n) cells))

-- a delete of the rows whose first attribute is 12 and whose second is below 6
abbrev pub deleting_by_two : Call
deleting_by_two = call.DeleteWhere (equal_to 0 12 ∷ cond 1 None (below (pos 6)) ∷ [])
