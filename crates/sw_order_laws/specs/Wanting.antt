-- Calls whose replies want more rows than they would meet here, or fewer.
use Rattle.std.specs.Prelude.{◌≡◌, ℕ, Bool, false, List, Option, Some, None, IfSome, filter, length}
use Rattle.sw_lang.specs.Replies.{reply_lines}
use Rattle.sw_rows.specs.Header.{Column}
use Rattle.sw_query.specs.Scan.{answer_over}
use Rattle.sw_query.specs.declared.query.Call.{Call}
use Rattle.sw_query.specs.declared.query.Call.TheVariants as call
use Rattle.sw_query.specs.declared.reply.Reply.{Reply}
use Rattle.sw_query.specs.declared.reply.Reply.TheVariants as reply
use Rattle.sw_spine.specs.Table.{inserts}
use Rattle.sw_table.specs.Updates.{rows_of}
use Rattle.sw_table.specs.declared.row.Row.{Row}
use Rattle.sw_table.specs.declared.row.Update.{Update}
use Rattle.sw_logs.specs.declared.logged.Logged.{Logged}
use Rattle.sw_logs.specs.declared.opening.Opening.{Opening}
use Rattle.sw_logs.specs.declared.order.By.{By}
use Rattle.sw_order_laws.specs.Apart.{AsksForNone, asks, is_insert, rows_changed}
use Rattle.sw_order_laws.specs.Beginnings.{updates_by}
use Rattle.sw_order_laws.specs.Chosen.{IsUnseen, MayComeBefore}

-- some of these rows, in their order
abbrev pub IsPart : List Row → List Row → Type 0
IsPart some all = (test : Row → Bool) × (some ≡ filter test all)

-- the reply to a call under conditions by the rows that meet them
abbrev pub reply_by : Call → List Row → Option Reply
reply_by (call.Select q) met = Some (answer_over met q.want)
reply_by (call.Insert cells) met = None
reply_by (call.Delete key) met = None
reply_by (call.DeleteWhere conds) met = Some (reply.RemovedMany (length met))

-- a call has the reply of its log where these rows meet its conditions
abbrev pub Suits : List Column → Logged → List Row → Type 0
Suits columns c met = IfSome (reply_by c.call met) (λ r. IfSome c.reply (λ lines. lines ≡ reply_lines columns c.call r))

-- the rows that a call asks for
abbrev pub rows_met : List Update → Call → List Row
rows_met us c = filter (asks c) (rows_of us)

-- none of those that may come before brings a row that a call asks for
abbrev pub OthersBringNone : By → Opening → List Logged → List ℕ → List ℕ → Call → Type 0
OthersBringNone keeping opening calls placed chosen c =
    (o : ℕ) (d : Logged) → MayComeBefore keeping calls placed chosen o d
    → IsUnseen (inserts (updates_by opening calls placed)) d.call c

-- none of them takes out a row that lives here and that it asks for
abbrev pub OthersTakeNone : By → Opening → List Logged → List ℕ → List ℕ → Call → Type 0
OthersTakeNone keeping opening calls placed chosen c =
    (o : ℕ) (d : Logged) → MayComeBefore keeping calls placed chosen o d → is_insert d.call ≡ false
    → AsksForNone c (rows_changed opening.limit (updates_by opening calls placed) d.call)
