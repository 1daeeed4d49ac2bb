-- A select and the rows that are kept of it.
use Rattle.std.proofs.Common.{◌≡◌, ◌∙◌, ℕ, Bool, true, false, List, [], length, Option, None, Some, Result, Ok, Err, refl, sym, ap, subst, inl, inr}
use Rattle.std.specs.Prelude.{MatchOption, is_some}
use Rattle.std.proofs.lemmas.Bool.{false≢true}
use denote.Ref.{Bor}
use Rattle.sw_query.specs.declared.query.Call.{Call}
use Rattle.sw_query.specs.declared.query.Call.TheVariants as call
use Rattle.sw_query.specs.declared.query.Want.{Want}
use Rattle.sw_query.specs.declared.query.Want.TheVariants as want
use Rattle.sw_query.specs.declared.reply.Reply.{Reply}
use Rattle.sw_query.specs.declared.reply.Reply.TheVariants as reply
use Rattle.sw_query.specs.declared.reply.ReplyRow.{ReplyRow}
use Rattle.sw_query.specs.declared.query.Query.{Query}
use Rattle.sw_spine.specs.Table.{reply_to}
use Rattle.sw_spine.specs.History.{updates_of}
use Rattle.sw_solo.specs.Called.{HasCalled, SoloState, reply_in}
use Rattle.sw_arrays.specs.Asked.{◌>>=◌, Answers, conds_after, names_in, query_in}
use Rattle.sw_arrays.specs.declared.asked.Wanted.TheVariants as wanted
use Rattle.sw_arrays.specs.declared.range.Fault.{Fault}
use Rattle.sw_arrays.specs.declared.range.Fault.TheVariants.{NoMemory, NoAttribute, BadCondition, BadCell}
use Rattle.sw_arrays.specs.declared.range.Range.{Range}
use Rattle.sideways_c.specs.Asks.{AskedBy, AskedOn, IsRows, IsTold}
use Rattle.sideways_c.specs.Handles.{shown}
use Rattle.sideways_c.specs.Codes.{fault_code}
use Rattle.sideways_c.specs.Selects.{Sees, SeesIn, SeesOf, SelectsBy, SelectsIn, TellsSelect, TellsView, kept_rows, select_of}
use Rattle.sideways_c.specs.Shown.{Shown, has_session}
use Rattle.sideways_c.specs.declared.inner.Inner.{Inner}
use Rattle.sideways_c.specs.declared.codes.TheConstants.{MISUSE, NO_SESSION}
use Rattle.sideways_c.proofs.Replying.{Holds, on_engine, wants}

named : (r : Result (List ℕ) Fault) (x : Want) → (r >>= λ ns. Ok (want.Rows ns)) ≡ Ok x → (ns : List ℕ) × (want.Rows ns ≡ x)
named (Ok ns) x h = (ns, cc)
named (Err f) x h = absurd cc

rows_hold : (names : Bor (List ℕ)) (ranges : Bor (List Range)) → Holds IsRows (select_of names ranges)
rows_hold names ranges columns limit us c h =
    let is = wants (names_in columns names.now >>= λ ns. Ok (want.Rows ns)) (conds_after columns [] ranges.now) c h in
    let w = named (names_in columns names.now) is.1 is.2 in
    subst (λ (x : Call). IsRows (reply_to limit us x)) is.3 (subst (λ (x : Want). IsRows (reply_to limit us (call.Select (record { conds = is.0; want = x })))) w.1 tt)

-- a select of attributes has rows
pub replies_rows : (session : ℕ) (names : Bor (List ℕ)) (ranges : Bor (List Range)) (old new : Shown) (r : Reply) → AskedOn session (select_of names ranges) old new (Ok r) → IsRows r
replies_rows session names ranges old new r m = on_engine IsRows (select_of names ranges) old.engine session old new r (rows_hold names ranges) m

no_code : (r : Reply) (n : ℕ) → ◌≡◌ {A = Result Reply ℕ} (Ok r) (Err n) → ⊥
no_code r n h = absurd cc

-- the rows of the reply are kept
kept_by : (b : Bool) (session : ℕ) (names : Bor (List ℕ)) (ranges : Bor (List Range)) (s : SoloState) (old new later : Shown) (r : Reply) (rows : List ReplyRow) (many : ℕ)
    → AskedBy b session (select_of names ranges) s old new (Ok r) → r ≡ reply.Rows rows → many ≡ length rows → later ≡ record new { kept = Some (kept_rows rows (length names.now)) }
    → SelectsBy b session names ranges s old later (Ok many)
kept_by true session names ranges s old new later r rows many m is count kept =
    (m.0, m.1, rows, m.2, subst (HasCalled session m.0 s m.1) is m.3, count, kept ∙ ap (λ (x : Shown). record x { kept = Some (kept_rows rows (length names.now)) }) m.4)
kept_by false session names ranges s old new later r rows many m is count kept = absurd (no_code r NO_SESSION m.0)

kept_on : (o : Option SoloState) (session : ℕ) (names : Bor (List ℕ)) (ranges : Bor (List Range)) (old new later : Shown) (r : Reply) (rows : List ReplyRow) (many : ℕ)
    → MatchOption o (IsTold MISUSE old new (Ok r)) (λ s. AskedBy (has_session session s) session (select_of names ranges) s old new (Ok r))
    → r ≡ reply.Rows rows → many ≡ length rows → later ≡ record new { kept = Some (kept_rows rows (length names.now)) }
    → MatchOption o (IsTold {A = ℕ} MISUSE old later (Ok many)) (λ s. SelectsBy (has_session session s) session names ranges s old later (Ok many))
kept_on None session names ranges old new later r rows many m is count kept = absurd (no_code r MISUSE m.0)
kept_on (Some s) session names ranges old new later r rows many m is count kept = kept_by (has_session session s) session names ranges s old new later r rows many m is count kept

-- rows are kept until the next call
pub rows_kept : (session : ℕ) (names : Bor (List ℕ)) (ranges : Bor (List Range)) (old new later : Shown) (r : Reply) (rows : List ReplyRow) (many : ℕ)
    → AskedOn session (select_of names ranges) old new (Ok r) → r ≡ reply.Rows rows → many ≡ length rows → later ≡ record new { kept = Some (kept_rows rows (length names.now)) }
    → SelectsIn session names ranges old later (Ok many)
rows_kept session names ranges old new later r rows many m is count kept = kept_on old.engine session names ranges old new later r rows many m is count kept

-- a select that was not made
refused_by : (b : Bool) (session : ℕ) (names : Bor (List ℕ)) (ranges : Bor (List Range)) (s : SoloState) (old new : Shown) (code : ℕ)
    → AskedBy b session (select_of names ranges) s old new (Err code) → SelectsBy b session names ranges s old new (Err code)
refused_by true session names ranges s old new code m = m
refused_by false session names ranges s old new code m = (cc, m.1)

refused_on : (o : Option SoloState) (session : ℕ) (names : Bor (List ℕ)) (ranges : Bor (List Range)) (old new : Shown) (code : ℕ)
    → MatchOption o (IsTold {A = Reply} MISUSE old new (Err code)) (λ s. AskedBy (has_session session s) session (select_of names ranges) s old new (Err code))
    → MatchOption o (IsTold {A = ℕ} MISUSE old new (Err code)) (λ s. SelectsBy (has_session session s) session names ranges s old new (Err code))
refused_on None session names ranges old new code m = (cc, m.1)
refused_on (Some s) session names ranges old new code m = refused_by (has_session session s) session names ranges s old new code m

-- a refused select keeps none
pub select_refused : (session : ℕ) (names : Bor (List ℕ)) (ranges : Bor (List Range)) (old new : Shown) (code : ℕ)
    → AskedOn session (select_of names ranges) old new (Err code) → SelectsIn session names ranges old new (Err code)
select_refused session names ranges old new code m = refused_on old.engine session names ranges old new code m

-- a closed handle
pub none_shown : (v : Option Inner) → is_some v ≡ false → shown v ≡ None
none_shown None h = refl
none_shown (Some i) h = absurd (false≢true (sym h))

-- a select on a handle that is closed
pub closed_select : (session : ℕ) (names : Bor (List ℕ)) (ranges : Bor (List Range)) (o : Option Shown) (was : ℕ) → o ≡ None → TellsSelect session names ranges o o MISUSE was was
closed_select session names ranges o was e = subst (λ (x : Option Shown). TellsSelect session names ranges x x MISUSE was was) (sym e) (Err MISUSE, (refl, refl), (refl, refl))

-- ---- views

-- the reply to a query for rows has rows
pub sees_rows : (names : Bor (List ℕ)) (ranges : Bor (List Range)) (s : SoloState) (q : Query) (r : Reply) → query_in s.history.columns (wanted.Rows names) ranges.now ≡ Ok q → r ≡ reply_in s (call.Select q) → IsRows r
sees_rows names ranges s q r asked is =
    subst IsRows (sym is) (rows_hold names ranges s.history.columns s.history.limit (updates_of s.history) (call.Select q) (ap (λ (x : Result Query Fault). x >>= λ y. Ok (call.Select y)) asked))

-- numbers that are no query
pub not_seen : (names : Bor (List ℕ)) (ranges : Bor (List Range)) (s : SoloState) (f : Fault) (code : ℕ) → Answers (λ (x : Query). x) (Err f) (query_in s.history.columns (wanted.Rows names) ranges.now) → code ≡ fault_code f
    → Sees names ranges s (Err code)
not_seen names ranges s NoMemory code h is = inl is
not_seen names ranges s NoAttribute code h is = inr (NoAttribute, h, is)
not_seen names ranges s BadCondition code h is = inr (BadCondition, h, is)
not_seen names ranges s BadCell code h is = inr (BadCell, h, is)

-- rows of a view are kept likewise
pub view_kept : (names : Bor (List ℕ)) (ranges : Bor (List Range)) (s : SoloState) (old new : Shown) (rows : List ReplyRow) (many : ℕ) → old.engine ≡ Some s → Sees names ranges s (Ok rows) → many ≡ length rows
    → new ≡ record old { kept = Some (kept_rows rows (length names.now)) } → SeesIn names ranges old new (Ok many)
view_kept names ranges s old new rows many e m count is =
    subst (λ (o : Option SoloState). MatchOption o (IsTold {A = ℕ} MISUSE old new (Ok many)) (λ x. SeesOf names ranges x old new (Ok many))) (sym e) (rows, m, count, is)

-- a refused view keeps none
pub view_refused : (names : Bor (List ℕ)) (ranges : Bor (List Range)) (s : SoloState) (old new : Shown) (code : ℕ) → old.engine ≡ Some s → Sees names ranges s (Err code) → new ≡ old → SeesIn names ranges old new (Err code)
view_refused names ranges s old new code e m is =
    subst (λ (o : Option SoloState). MatchOption o (IsTold {A = ℕ} MISUSE old new (Err code)) (λ x. SeesOf names ranges x old new (Err code))) (sym e) (m, is)

-- a view on a handle that is closed
pub closed_view : (names : Bor (List ℕ)) (ranges : Bor (List Range)) (o : Option Shown) (was : ℕ) → o ≡ None → TellsView names ranges o o MISUSE was was
closed_view names ranges o was e = subst (λ (x : Option Shown). TellsView names ranges x x MISUSE was was) (sym e) (Err MISUSE, (refl, refl), (refl, refl))
