-- What calls over texts are replied is over texts.
use Rattle.std.proofs.Common.{◌≡◌, ◌∙◌, ap, sym, subst, refl, append_assoc, ℕ, ◌+◌, ◌-◌, ◌==◌, ◌&&◌, Bool, true, false, not, cond, true≢false, All, List, [], ◌∷◌, ◌++◌, length, map, Option, Ok}
use Rattle.std.proofs.lemmas.List.{append-nil, length-map}
use Rattle.std.proofs.lemmas.List.Elements.{All-filter, All-head, All-push, All-tail}
use Rattle.sw_table.specs.Updates.{has_key, rows_of}
use Rattle.sw_table.specs.declared.row.Row.{Row}
use Rattle.sw_table.specs.declared.row.Update.{Update}
use Rattle.sw_table.specs.declared.row.Update.TheVariants as update
use Rattle.sw_rows.specs.Header.{Column, IsSchema, kinds_of}
use Rattle.sw_query.specs.Scan.{counting, matching}
use Rattle.sw_rows.specs.TextRows.{AreCoded, AsksOfTexts, IsRowCoded, conds_seen, matching_seen, row_seen, rows_seen}
use Rattle.sw_query.specs.declared.query.Call.{Call}
use Rattle.sw_query.specs.declared.query.Call.TheVariants.{Select, Insert, Delete, DeleteWhere}
use Rattle.sw_query.specs.declared.query.Cond.{Cond}
use Rattle.sw_query.specs.declared.reply.Reply.{Reply}
use Rattle.sw_query.specs.declared.reply.Reply.TheVariants.{RemovedMany}
use Rattle.sw_rows.proofs.Scans.TextRowLaws.{answer_over_texts, matching_over_texts}
use Rattle.sw_spine.specs.History.{Agrees, AllAgree, History, all_given, is_given, is_select}
use Rattle.sw_spine.specs.Table.{inserts, opened, removals, reply_to, row, updates_then}
use Rattle.sw_spine.specs.declared.history.Entry.{Entry}
use Rattle.sw_spine.specs.declared.history.State.{State}
use Rattle.sw_spine.specs.declared.history.State.TheVariants.{Answered, Lines, Open, Void}
use Rattle.sw_spine.proofs.StoreLemmas.{rows_of_opened, rows_push}
use Rattle.sw_cli.specs.Outcomes.{Outcome}
use Rattle.sw_cli.specs.Run.{Leaves, Start, start_of}
use Rattle.sw_cli.specs.TextCalls.{AreEntriesOverTexts, AreRepliesOverTexts, GivesOverTexts, IsOverTexts, IsReplyOverTexts}
use Rattle.sw_cli.specs.TextLaws.{IsClosedOverTexts}
use Rattle.sw_cli.proofs.Entries.{all_entries}
use Rattle.sw_cli.proofs.TextCalls.{start_over}

-- ---- rows stay coded

abbrev HasCoded : List Column → List Update → Type 0
HasCoded columns us = AreCoded (kinds_of columns) (rows_of us)

none-keeps : (columns : List Column) (us : List Update) → HasCoded columns us → HasCoded columns (us ++ [])
none-keeps columns us h = subst (HasCoded columns) (sym (append-nil us)) h

insert-keeps : (columns : List Column) (us : List Update) (r : Row) → HasCoded columns us → IsRowCoded (kinds_of columns) r → HasCoded columns (us ++ update.Insert r ∷ [])
insert-keeps columns us r h coded = subst (AreCoded (kinds_of columns)) (sym (rows_push us (update.Insert r))) (All-push (IsRowCoded (kinds_of columns)) (rows_of us) r h coded)

remove-keeps : (columns : List Column) (us : List Update) (key : ℕ) → HasCoded columns us → HasCoded columns (us ++ update.Remove key ∷ [])
remove-keeps columns us key h = subst (AreCoded (kinds_of columns)) (sym (rows_push us (update.Remove key))) (All-filter (λ r. not (r.key == key)) (IsRowCoded (kinds_of columns)) (rows_of us) h)

removals-keep : (columns : List Column) (us : List Update) (rs : List Row) → HasCoded columns us → HasCoded columns (us ++ removals rs)
removals-keep columns us [] h = none-keeps columns us h
removals-keep columns us (r ∷ rs) h = subst (HasCoded columns) (append_assoc us (update.Remove r.key ∷ []) (removals rs)) (removals-keep columns (us ++ update.Remove r.key ∷ []) rs (remove-keeps columns us r.key h))

-- rows stay coded as a call over texts comes
pub call_keeps : (columns : List Column) (limit : ℕ) (us : List Update) (c : Call) → AreCoded (kinds_of columns) (rows_of us) → IsOverTexts columns c → AreCoded (kinds_of columns) (rows_of (updates_then limit us c))
call_keeps columns limit us (Select q) h over = none-keeps columns us h
call_keeps columns limit us (Insert cells) h over = by_room (inserts us == limit)
  where
    by_room : (b : Bool) → HasCoded columns (us ++ cond b [] (update.Insert (row (inserts us + 1) cells) ∷ []))
    by_room true = none-keeps columns us h
    by_room false = insert-keeps columns us (row (inserts us + 1) cells) h (over (inserts us + 1))
call_keeps columns limit us (Delete key) h over = by_key (has_key key (rows_of us))
  where
    by_key : (b : Bool) → HasCoded columns (us ++ cond b (update.Remove key ∷ []) [])
    by_key true = remove-keeps columns us key h
    by_key false = none-keeps columns us h
call_keeps columns limit us (DeleteWhere conds) h over = removals-keep columns us (matching conds (rows_of us)) h

-- ---- replies of the plain table

-- as many rows of texts meet conditions as rows of codes do
removed-over : (columns : List Column) (rs : List Row) (conds : List Cond) → IsSchema columns → AreCoded (kinds_of columns) rs → AsksOfTexts (kinds_of columns) (counting conds) → length (matching conds rs) ≡ length (matching_seen (conds_seen (kinds_of columns) conds) (rows_seen (kinds_of columns) rs))
removed-over columns rs conds is h over = sym (ap length (matching_over_texts columns rs (counting conds) is h over) ∙ length-map (matching conds rs) (row_seen (kinds_of columns)))

reply-over : (columns : List Column) (limit : ℕ) (us : List Update) (c : Call) → IsSchema columns → HasCoded columns us → IsOverTexts columns c → IsReplyOverTexts columns (rows_of us) c (reply_to limit us c)
reply-over columns limit us (Select q) is h over = sym (answer_over_texts columns (rows_of us) q is h over)
reply-over columns limit us (Insert cells) is h over = tt
reply-over columns limit us (Delete key) is h over = tt
reply-over columns limit us (DeleteWhere conds) is h over = ap (λ (n : ℕ). RemovedMany n) (removed-over columns (rows_of us) conds is h over)

-- the plain table's replies to calls over texts are over texts
pub replies_over : (columns : List Column) (limit : ℕ) (us : List Update) (calls : List Call) → IsSchema columns → AreCoded (kinds_of columns) (rows_of us) → All (IsOverTexts columns) calls → AreRepliesOverTexts columns limit us calls
replies_over columns limit us [] is h over = tt
replies_over columns limit us (c ∷ cs) is h over =
    let first = All-head (IsOverTexts columns) c cs over in
    (reply-over columns limit us c is h first, replies_over columns limit (updates_then limit us c) cs is (call_keeps columns limit us c h first) (All-tail (IsOverTexts columns) c cs over))

opened-coded : (columns : List Column) (rs : List Row) → AreCoded (kinds_of columns) rs → HasCoded columns (opened rs)
opened-coded columns rs h = subst (AreCoded (kinds_of columns)) (sym (rows_of_opened rs)) h

-- so are those to the calls of a script of one block
pub run_over : (limit : ℕ) (cuts table script : List ℕ) (s : Start) (calls : List Call) → start_of limit cuts table script ≡ Ok s → s.blocks ≡ calls ∷ [] → AreRepliesOverTexts s.columns limit (opened s.rows) calls
run_over limit cuts table script s calls h one =
    let o = start_over limit cuts table script s h in
    let over : All (All (IsOverTexts s.columns)) (calls ∷ []) = subst (All (All (IsOverTexts s.columns))) one o.calls in
    replies_over s.columns limit (opened s.rows) calls o.schema (opened-coded s.columns s.rows o.rows) (All-head (All (IsOverTexts s.columns)) calls [] over)

-- ---- replies of a record

-- the call of an entry is over texts
abbrev Over : List Column → Entry → Type 0
Over columns e = IsOverTexts columns e.call

select-keeps : (columns : List Column) (limit : ℕ) (us : List Update) (c : Call) → is_select c ≡ true → HasCoded columns us → HasCoded columns (updates_then limit us c)
select-keeps columns limit us (Select q) is h = none-keeps columns us h
select-keeps columns limit us (Insert cells) is h = absurd (true≢false (sym is))
select-keeps columns limit us (Delete key) is h = absurd (true≢false (sym is))
select-keeps columns limit us (DeleteWhere conds) is h = absurd (true≢false (sym is))

-- an entry gives a reply over texts, where it gives one, and rows stay coded
entry-over : (columns : List Column) (limit : ℕ) (us : List Update) (c : Call) (st : State) → IsSchema columns → HasCoded columns us → Agrees columns limit us c st → is_given st ≡ true → IsOverTexts columns c → GivesOverTexts columns (rows_of us) c st × HasCoded columns (updates_then limit us c)
entry-over columns limit us c (Answered r) is h agrees given over = (subst (IsReplyOverTexts columns (rows_of us) c) (sym agrees) (reply-over columns limit us c is h over), call_keeps columns limit us c h over)
entry-over columns limit us c (Lines ls) is h agrees given over = absurd (true≢false (sym given))
entry-over columns limit us c Open is h agrees given over = (tt, select-keeps columns limit us c agrees h)
entry-over columns limit us c Void is h agrees given over = (tt, select-keeps columns limit us c agrees h)

and-left : (a b : Bool) → (a && b) ≡ true → a ≡ true
and-left true b h = refl
and-left false b h = absurd cc

and-right : (a b : Bool) → (a && b) ≡ true → b ≡ true
and-right true b h = h
and-right false b h = absurd cc

entries-over : (columns : List Column) (limit : ℕ) (us : List Update) (es : List Entry) → IsSchema columns → HasCoded columns us → AllAgree columns limit us es → all_given es ≡ true → All (Over columns) es → AreEntriesOverTexts columns limit us es
entries-over columns limit us [] is h agree given over = tt
entries-over columns limit us (e ∷ es) is h agree given over =
    let first = entry-over columns limit us e.call e.state is h agree.0 (and-left (is_given e.state) (all_given es) given) (All-head (Over columns) e es over) in
    (first.0, entries-over columns limit (updates_then limit us e.call) es is first.1 agree.1 (and-right (is_given e.state) (all_given es) given) (All-tail (Over columns) e es over))

legal-from : (c d : List Column) (m n : ℕ) (x y : List Row) (h : History) → c ≡ d → m ≡ n → x ≡ y → AllAgree c m (opened x) h.entries → AllAgree d n (opened y) h.entries
legal-from c d m n x y h ec em ex a = subst (λ (d : List Column). AllAgree d n (opened y) h.entries) ec (subst (λ (n : ℕ). AllAgree c n (opened y) h.entries) em (subst (λ (y : List Row). AllAgree c m (opened y) h.entries) ex a))

-- so are those that the record of a run gives
pub record_over : (limit : ℕ) (cuts table script : List ℕ) (s : Start) (told : List (List Outcome)) (old new : Option (List ℕ)) (h : History) → start_of limit cuts table script ≡ Ok s → Leaves limit s told old new h → AreEntriesOverTexts s.columns limit (opened s.rows) h.entries
record_over limit cuts table script s told old new h read l =
    let o = start_over limit cuts table script s read in
    let r = l.record_is in
    let agree : AllAgree s.columns limit (opened s.rows) h.entries = legal-from h.columns s.columns h.limit limit h.rows s.rows h r.columns_are r.limit_is r.rows_are r.legal in
    entries-over s.columns limit (opened s.rows) h.entries o.schema (opened-coded s.columns s.rows o.rows) agree r.given (all_entries (IsOverTexts s.columns) limit s told old new h l o.calls)

-- so are the replies of an engine that was closed
pub closed_over : (columns : List Column) (rows : List Row) (limit : ℕ) (tickets : List (ℕ × List (Call × Reply))) (h : History) → IsClosedOverTexts columns rows limit tickets h → AreEntriesOverTexts columns limit (opened rows) h.entries
closed_over columns rows limit tickets h is =
    let one = is.history in
    let agree : AllAgree columns limit (opened rows) h.entries = legal-from h.columns columns h.limit limit h.rows rows h one.columns_are one.limit_is one.rows_are one.legal in
    entries-over columns limit (opened rows) h.entries is.schema (opened-coded columns rows is.coded) agree one.given is.calls
