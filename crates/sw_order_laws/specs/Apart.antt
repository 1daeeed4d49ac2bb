-- Calls that do not bear on one another.
use Rattle.std.specs.Prelude.{◌≡◌, ◌+◌, ◌==◌, ◌&&◌, if◌then◌else◌, ℕ, Bool, true, false, List, [], ◌∷◌, All, IfSome, filter, slice_get}
use Rattle.sw_query.specs.Scan.{matching, meets_all}
use Rattle.sw_query.specs.declared.query.Call.{Call}
use Rattle.sw_query.specs.declared.query.Call.TheVariants as call
use Rattle.sw_spine.specs.Table.{inserts, row}
use Rattle.sw_table.specs.Updates.{rows_of}
use Rattle.sw_table.specs.declared.row.Row.{Row}
use Rattle.sw_table.specs.declared.row.Update.{Update}
use Rattle.sw_logs.specs.declared.logged.Logged.{Logged}
use Rattle.sw_order_laws.specs.Beginnings.{with_call}

-- whether a call asks for a row, to show it, to count it or to take it out
abbrev pub asks : Call → Row → Bool
asks (call.Select q) r = meets_all q.conds r
asks (call.Insert cells) r = false
asks (call.Delete key) r = r.key == key
asks (call.DeleteWhere conds) r = meets_all conds r

-- the rows that a call brings or takes out
abbrev pub rows_changed : ℕ → List Update → Call → List Row
rows_changed limit us (call.Select q) = []
rows_changed limit us (call.Insert cells) = if inserts us == limit then [] else row (inserts us + 1) cells ∷ []
rows_changed limit us (call.Delete key) = filter (λ r. r.key == key) (rows_of us)
rows_changed limit us (call.DeleteWhere conds) = matching conds (rows_of us)

-- a call asks for no row that another brings or takes out
abbrev pub AsksForNone : Call → List Row → Type 0
AsksForNone c rs = All (λ r. asks c r ≡ false) rs

abbrev pub is_insert : Call → Bool
is_insert (call.Select q) = false
is_insert (call.Insert cells) = true
is_insert (call.Delete key) = false
is_insert (call.DeleteWhere conds) = false

-- two calls do not bear on one another: neither asks for a row that the other brings or takes out, and not both insert
pub record AreApart (limit : ℕ) (us : List Update) (c d : Call) : Type 0 where
  pub first : AsksForNone d (rows_changed limit us c)
  pub second : AsksForNone c (rows_changed limit us d)
  pub one_inserts : (is_insert c && is_insert d) ≡ false

-- none of the calls of these numbers, in their order, bears on another call
abbrev pub AreAllApart : ℕ → List Logged → List Update → Call → List ℕ → Type 0
AreAllApart limit calls us c [] = Unit {0}
AreAllApart limit calls us c (i ∷ is) =
    IfSome (slice_get calls i) (λ d. AreApart limit us d.call c)
    × AreAllApart limit calls (with_call limit us (slice_get calls i)) c is
