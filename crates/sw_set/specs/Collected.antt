-- The reply from maps: of the rows that they show, those that are chosen, in key order.
use Rattle.std.specs.Prelude.{◌≡◌, ℕ, Bool, List, map, Option, Result, IfOk, IsPermutation}
use Rattle.std.specs.List.Sorted.{IsNonDecreasingBy}
use Rattle.sw_query.specs.declared.query.Cond.{Cond}
use Rattle.sw_query.specs.declared.query.Query.{Query}
use Rattle.sw_query.specs.declared.query.Want.{Want}
use Rattle.sw_query.specs.declared.query.Want.TheVariants as want
use Rattle.sw_query.specs.declared.refusal.Refusal.{Refusal}
use Rattle.sw_query.specs.declared.reply.Reply.{Reply}
use Rattle.sw_query.specs.declared.reply.Reply.TheVariants as reply
use Rattle.sw_query.specs.declared.reply.ReplyRow.{ReplyRow}
use Rattle.sw_table.specs.declared.row.Row.{Row}
use Rattle.sw_query.specs.Scan.{answer, answer_over, meets_all, projected}
use Rattle.sw_kernel.specs.Tapes.{HoldsOnce}
use Rattle.sw_set.specs.Choice.{AreOf, RangeState, chosen, further, range_rows}
use Rattle.sw_set.specs.Shelf.{Rises, key_of}

-- the truth values are those of the conditions after the first
abbrev pub AreOfFurther : List Cond → List Row → Option (List Bool) → Type 0
AreOfFurther conds rows bits = AreOf (meets_all (further conds)) rows bits

-- the rows of a range that truth values choose
abbrev pub chosen_rows : RangeState → Option (List Bool) → List Row
chosen_rows r bits = chosen bits (range_rows r)

-- these rows of a reply, by keys that do not fall
pub record AreInKeyOrder (xs ys : List ReplyRow) : Type 0 where
  pub moved : IsPermutation xs ys
  pub sorted : IsNonDecreasingBy (λ r. r.key) ys

-- a reply's list of these rows with their cells of some attributes
abbrev pub IsListOf : List ℕ → List Row → List ReplyRow → Type 0
IsListOf names xs ys = AreInKeyOrder (map (projected names) xs) ys

-- what is wanted of rows that are held in another order than that of their keys
abbrev pub IsReplyOver : List Row → Want → Reply → Type 0
IsReplyOver xs (want.Rows names) told =
    (ys : List ReplyRow) × (told ≡ reply.Rows ys) × IsListOf names xs ys
IsReplyOver xs w told = told ≡ answer_over xs w

-- the answer over any rows that rise by key, of which each is shown once
abbrev pub AnswersInOrder : Result Reply Refusal → List Row → Query → Type 0
AnswersInOrder r shown q =
    (rows : List Row) → HoldsOnce key_of shown rows → Rises key_of rows → IfOk r (λ reply. reply ≡ answer rows q)
