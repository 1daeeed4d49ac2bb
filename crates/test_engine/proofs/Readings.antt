-- Calls of lines, and rows in order.
use Rattle.std.proofs.Common.{◌≡◌, ◌+◌, ◌++◌, ◌∷◌, [], ℕ, List, true, length, arith, Some, None, Option}
use Rattle.std.specs.Prelude.{IfOk, IfSome, Result, Ok, Err}
use Rattle.std.proofs.lemmas.Bool.Decides.{nat_tests}
use Rattle.sw_rows.specs.Header.{Column}
use Rattle.sw_table.specs.declared.row.Row.{Row}
use Rattle.sw_query.specs.declared.query.Call.{Call}
use Rattle.sw_query.specs.declared.refusal.Refusal.{Refusal}
use Rattle.sw_lang.specs.Fits.{FitsCall}
use Rattle.sw_spine.specs.History.{CallsBelow}
use Rattle.sw_spine.specs.Table.{is_numbered}
use Rattle.sw_spine.proofs.Histories.{fits_below}

some_below : (schema : List Column) (o : Option Call) → IfSome o (FitsCall schema) → IfSome o (CallsBelow (length schema))
some_below schema None h = tt
some_below schema (Some c) h = fits_below schema c h

-- a call that was read fits the number of columns
pub read_below : (schema : List Column) (result : Result (Option Call) Refusal) → IfOk result (λ o. IfSome o (FitsCall schema)) → IfOk result (λ o. IfSome o (CallsBelow (length schema)))
read_below schema (Ok o) h = some_below schema o h
read_below schema (Err e) h = tt

-- a row more with the next key
pub numbered_push : (n : ℕ) (rows : List Row) (r : Row) → is_numbered n rows ≡ true → r.key ≡ n + length rows → is_numbered n (rows ++ r ∷ []) ≡ true
numbered_push n [] r h is = grind (arith, nat_tests, is)
numbered_push n (x ∷ rows) r h is = grind (arith, nat_tests, h, is, numbered_push (n + 1) rows r)
