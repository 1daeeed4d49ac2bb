-- What calls are to be, so that their replies are over texts; and that replies are so.
use Rattle.std.specs.Prelude.{◌≡◌, ◌∷◌, [], ℕ, List, length}
use Rattle.sw_table.specs.Updates.{rows_of}
use Rattle.sw_table.specs.declared.row.Row.{Row}
use Rattle.sw_table.specs.declared.row.Update.{Update}
use Rattle.sw_rows.specs.Header.{Column, kinds_of}
use Rattle.sw_query.specs.Scan.{counting}
use Rattle.sw_rows.specs.Tables.{row_of}
use Rattle.sw_rows.specs.TextRows.{AsksOfTexts, IsRowCoded, answer_seen, conds_seen, domains_shown, matching_seen, reply_seen, rows_seen}
use Rattle.sw_query.specs.declared.query.Call.{Call}
use Rattle.sw_query.specs.declared.query.Call.TheVariants.{Select, Insert, Delete, DeleteWhere}
use Rattle.sw_query.specs.declared.reply.Reply.{Reply}
use Rattle.sw_query.specs.declared.reply.Reply.TheVariants.{RemovedMany}
use Rattle.sw_spine.specs.Table.{reply_to, updates_then}
use Rattle.sw_spine.specs.declared.history.Entry.{Entry}
use Rattle.sw_spine.specs.declared.history.State.{State}
use Rattle.sw_spine.specs.declared.history.State.TheVariants.{Answered}

-- what is asked of texts, also by a delete, is equality, and a row that comes has codes of texts
abbrev pub IsOverTexts : List Column → Call → Type 0
IsOverTexts columns (Select q) = AsksOfTexts (kinds_of columns) q
IsOverTexts columns (Insert cells) = (key : ℕ) → IsRowCoded (kinds_of columns) (row_of key cells)
IsOverTexts columns (Delete key) = Unit {0}
IsOverTexts columns (DeleteWhere conds) = AsksOfTexts (kinds_of columns) (counting conds)

-- the reply to a select is, with codes seen as their texts, what is answered over rows of texts; that to a delete under
-- conditions is how many rows of texts meet them
abbrev pub IsReplyOverTexts : List Column → List Row → Call → Reply → Type 0
IsReplyOverTexts columns rs (Select q) r =
    reply_seen (domains_shown (kinds_of columns) q.want) r
    ≡ answer_seen (rows_seen (kinds_of columns) rs) (conds_seen (kinds_of columns) q.conds) q.want
IsReplyOverTexts columns rs (Insert cells) r = Unit {0}
IsReplyOverTexts columns rs (Delete key) r = Unit {0}
IsReplyOverTexts columns rs (DeleteWhere conds) r =
    r ≡ RemovedMany (length
    (matching_seen (conds_seen (kinds_of columns) conds) (rows_seen (kinds_of columns) rs)))

-- so are the plain table's replies to calls, each over the rows at its time
abbrev pub AreRepliesOverTexts : List Column → ℕ → List Update → List Call → Type 0
AreRepliesOverTexts columns limit us [] = Unit {0}
AreRepliesOverTexts columns limit us (c ∷ cs) =
    IsReplyOverTexts columns (rows_of us) c (reply_to limit us c)
    × AreRepliesOverTexts columns limit (updates_then limit us c) cs

-- where a state gives a reply, it is over texts
abbrev pub GivesOverTexts : List Column → List Row → Call → State → Type 0
GivesOverTexts columns rs c (Answered r) = IsReplyOverTexts columns rs c r
GivesOverTexts columns rs c s = Unit {0}

-- so are the replies that entries give, each over the rows at its place
abbrev pub AreEntriesOverTexts : List Column → ℕ → List Update → List Entry → Type 0
AreEntriesOverTexts columns limit us [] = Unit {0}
AreEntriesOverTexts columns limit us (e ∷ es) =
    GivesOverTexts columns (rows_of us) e.call e.state
    × AreEntriesOverTexts columns limit (updates_then limit us e.call) es
