-- Where each call of a run was answered.
use Rattle.std.proofs.Common.{◌≡◌, ◌∙◌, sym, ap, subst, refl, ℕ, suc, ◌+◌, ◌<◌, List, [], ◌∷◌, arith, get_or, length, map, Option, Some, None, Result, Ok, Err, IfErr, IfOk, OnOk}
use Rattle.std.proofs.lemmas.List.{get_or-map}
use Rattle.sw_rows.specs.Header.{Column}
use Rattle.sw_query.specs.declared.query.Call.{Call}
use Rattle.sw_table.specs.declared.row.Row.{Row}
use Rattle.sw_query.specs.declared.refusal.Refusal.{Refusal}
use Rattle.sw_query.specs.declared.refusal.Refusal.TheVariants as refusal
use Rattle.std.specs.Io.KnownBytes.{Keeps}
use Rattle.sw_lang.specs.Sinks.{Took}
use Rattle.sw_spine.specs.History.{AllAgree, History, IsLegal, mine}
use Rattle.sw_spine.specs.Table.{opened}
use Rattle.sw_cli.specs.Outcomes.{Outcome, all_answered, block_bytes, calls_of, sessions_from, text_of}
use Rattle.sw_cli.specs.Run.{AllAnswered, Leaves, Start, TellsAll, is_session, out_of, replies_bytes, start_of}
use Rattle.sw_cli.specs.Answers.{RunAnswers}
use Rattle.sw_cli.specs.Sides.{EitherFailed, FailedInTurn, IsUntouched, SinkFailed, SinkHeld, SinkSeen, SourceSeen, SourcesHeld}
use Rattle.sw_cli.specs.Starts.{Goes, IfBoth, LeavesSome, Ran, RefusedFrom, TellsRun, TellsStart, TellsWhere, WritesOut}
use Rattle.sw_cli.proofs.Complete.{block_answered, blocks_answered, calls_answered, one_session}

length_calls : (told : List (List Outcome)) → length (map calls_of told) ≡ length told
length_calls [] = refl
length_calls (b ∷ bs) = ap suc (length_calls bs)

-- as many blocks of outcomes as blocks
as_many : (limit : ℕ) (s : Start) (told : List (List Outcome)) (old new : Option (List ℕ)) (h : History) → Leaves limit s told old new h → length told ≡ length s.blocks
as_many limit s told old new h l = sym (length_calls told) ∙ ap length l.calls

calls_at : (limit : ℕ) (s : Start) (told : List (List Outcome)) (old new : Option (List ℕ)) (h : History) (i : ℕ) → Leaves limit s told old new h → i < length told → calls_of (get_or told i []) ≡ get_or s.blocks i []
calls_at limit s told old new h i l less = sym (get_or-map calls_of told i [] [] less) ∙ ap (λ (bs : List (List Call)). get_or bs i []) l.calls

each_at : (limit : ℕ) (s : Start) (told : List (List Outcome)) (old new : Option (List ℕ)) (h : History) (i : ℕ) → Leaves limit s told old new h → AllAnswered s.blocks h → i < length told → get_or told i [] ≡ all_answered (mine (i + 1) h.entries)
each_at limit s told old new h i l all less =
    let many = as_many limit s told old new h l in
    block_answered (get_or told i []) (get_or s.blocks i []) (mine (i + 1) h.entries) (calls_at limit s told old new h i l less) (l.record_is.answered_are i less) (all i (omega (arith, many, less)))

-- each call has its reply in the record, and the lines are those of the replies
pub tells_all : (limit : ℕ) (s : Start) (told : List (List Outcome)) (old new : Option (List ℕ)) (h : History) → Leaves limit s told old new h → AllAnswered s.blocks h → TellsAll s old new h
tells_all limit s told old new h l all =
    let many = as_many limit s told old new h l in
    let same : told ≡ map all_answered (sessions_from 1 (length told) h) = blocks_answered 1 told h (λ i less. each_at limit s told old new h i l all less) in
    record {
      calls = λ i less.
          let inside : i < length told = omega (arith, less, many) in
          sym (calls_answered (mine (i + 1) h.entries)) ∙ ap calls_of (sym (each_at limit s told old new h i l all inside)) ∙ calls_at limit s told old new h i l inside;
      wrote = subst (λ (n : ℕ). Took old new (text_of s.columns (map all_answered (sessions_from 1 n h)))) many (subst (λ (b : List (List Outcome)). Took old new (text_of s.columns b)) same l.wrote);
    }

-- and of one block they are those of the plain table
pub tells_out : (limit : ℕ) (s : Start) (calls : List Call) (told : List (List Outcome)) (old new : Option (List ℕ)) (h : History) → Leaves limit s told old new h → s.blocks ≡ calls ∷ [] → AllAnswered s.blocks h → Took old new (out_of limit s calls)
tells_out limit s calls told old new h l is all =
    let t = tells_all limit s told old new h l all in
    let one : length s.blocks ≡ 1 = ap length is in
    let r = l.record_is in
    let many = as_many limit s told old new h l in
    let agree : AllAgree s.columns limit (opened s.rows) h.entries = legal_from h.columns s.columns h.limit limit h.rows s.rows h r.columns_are r.limit_is r.rows_are r.legal in
    let lines : block_bytes s.columns (all_answered (mine 1 h.entries)) ≡ replies_bytes s.columns limit (opened s.rows) (map (λ m. m.0) (mine 1 h.entries)) =
    one_session s.columns limit (opened s.rows) h.entries (λ session other. r.alone session (ap (λ (n : ℕ). is_session n session) (many ∙ one) ∙ other)) agree r.given r.closed in
    let its : map (λ m. m.0) (mine 1 h.entries) ≡ calls = t.calls 0 (omega (arith, one)) ∙ ap (λ (bs : List (List Call)). get_or bs 0 []) is in
    subst (λ (x : List ℕ). Took old new x) (lines ∙ ap (replies_bytes s.columns limit (opened s.rows)) its) (subst (λ (n : ℕ). Took old new (text_of s.columns (map all_answered (sessions_from 1 n h)))) one t.wrote)
  where
    legal_from : (c d : List Column) (m n : ℕ) (x y : List Row) (h : History) → c ≡ d → m ≡ n → x ≡ y → AllAgree c m (opened x) h.entries → AllAgree d n (opened y) h.entries
    legal_from c d m n x y h ec em ex a = subst (λ (d : List Column). AllAgree d n (opened y) h.entries) ec (subst (λ (n : ℕ). AllAgree c n (opened y) h.entries) em (subst (λ (y : List Row). AllAgree c m (opened y) h.entries) ex a))

same_start : (a b : Start) → ◌≡◌ {A = Result Start Refusal} (Ok a) (Ok b) → a ≡ b
same_start a b h = cc

-- ---- what a run answers whose start was read

-- what the bytes spell, where both sources are known
abbrev pub Spells : ℕ → List ℕ → SourceSeen → SourceSeen → Start → Type 0
Spells limit cuts t c s = IfBoth t.left c.left (λ a b. start_of limit cuts a b ≡ Ok s)

known_ran : (I : Type 0) (limit : ℕ) (cuts a b : List ℕ) (s : Start) (w : SinkSeen) (result : Result History Refusal) → start_of limit cuts a b ≡ Ok s → Goes limit s w result → Ran I limit cuts a b w.taken_before w.taken_after result
known_ran I limit cuts a b s w (Ok h) said goes = (s, said, goes.0)
known_ran I limit cuts a b s w (Err refusal.NoMemory) said goes = tt
known_ran I limit cuts a b s w (Err refusal.Output) said goes = (s, said, goes.0)
known_ran I limit cuts a b s w (Err e) said goes = absurd goes

both_ran : (limit : ℕ) (cuts : List ℕ) (s : Start) (t c : SourceSeen) (table script : Option (List ℕ)) (w : SinkSeen) (result : Result History Refusal) → IfBoth table script (λ a b. start_of limit cuts a b ≡ Ok s) → Goes limit s w result
    → IfBoth table script (λ a b. Ran (FailedInTurn t c a) limit cuts a b w.taken_before w.taken_after result)
both_ran limit cuts s t c None script w result said goes = tt
both_ran limit cuts s t c (Some a) None w result said goes = tt
both_ran limit cuts s t c (Some a) (Some b) w result said goes = known_ran (FailedInTurn t c a) limit cuts a b s w result said goes

known_tell : (limit : ℕ) (cuts a b : List ℕ) (s : Start) (w : SinkSeen) (result : Result History Refusal) → start_of limit cuts a b ≡ Ok s → Goes limit s w result → IfOk result (TellsWhere limit cuts a b w.taken_before w.taken_after)
known_tell limit cuts a b s w (Err e) said goes = tt
known_tell limit cuts a b s w (Ok h) said goes = λ other is all.
    let same : s ≡ other = same_start s other (sym said ∙ is) in
    subst (λ (x : Start). TellsAll x w.taken_before w.taken_after h) same (tells_all limit s goes.0.0 w.taken_before w.taken_after h goes.0.1 (subst (λ (x : Start). AllAnswered x.blocks h) (sym same) all))

both_tell : (limit : ℕ) (cuts : List ℕ) (s : Start) (table script : Option (List ℕ)) (w : SinkSeen) (result : Result History Refusal) → IfBoth table script (λ a b. start_of limit cuts a b ≡ Ok s) → Goes limit s w result
    → IfBoth table script (λ a b. IfOk result (TellsWhere limit cuts a b w.taken_before w.taken_after))
both_tell limit cuts s None script w result said goes = tt
both_tell limit cuts s (Some a) None w result said goes = tt
both_tell limit cuts s (Some a) (Some b) w result said goes = known_tell limit cuts a b s w result said goes

known_out : (limit : ℕ) (cuts a b : List ℕ) (s : Start) (w : SinkSeen) (result : Result History Refusal) → start_of limit cuts a b ≡ Ok s → Goes limit s w result → IfOk result (WritesOut limit cuts a b w.taken_before w.taken_after)
known_out limit cuts a b s w (Err e) said goes = tt
known_out limit cuts a b s w (Ok h) said goes = λ other calls is one all.
    let same : s ≡ other = same_start s other (sym said ∙ is) in
    subst (λ (x : Start). Took w.taken_before w.taken_after (out_of limit x calls)) same (tells_out limit s calls goes.0.0 w.taken_before w.taken_after h goes.0.1 (ap (λ (x : Start). x.blocks) same ∙ one) (subst (λ (x : Start). AllAnswered x.blocks h) (sym same) all))

both_out : (limit : ℕ) (cuts : List ℕ) (s : Start) (table script : Option (List ℕ)) (w : SinkSeen) (result : Result History Refusal) → IfBoth table script (λ a b. start_of limit cuts a b ≡ Ok s) → Goes limit s w result
    → IfBoth table script (λ a b. IfOk result (WritesOut limit cuts a b w.taken_before w.taken_after))
both_out limit cuts s None script w result said goes = tt
both_out limit cuts s (Some a) None w result said goes = tt
both_out limit cuts s (Some a) (Some b) w result said goes = known_out limit cuts a b s w result said goes

-- whatever the sources are, a run that ended left outcomes of the calls that it read
goes_left : (limit : ℕ) (s : Start) (w : SinkSeen) (result : Result History Refusal) → Goes limit s w result → IfOk result (λ h. (start : Start) × LeavesSome limit start w.taken_before w.taken_after h)
goes_left limit s w (Ok h) goes = (s, goes.0)
goes_left limit s w (Err e) goes = tt

goes_steady : (limit : ℕ) (s : Start) (t c : SourceSeen) (w : SinkSeen) (result : Result History Refusal) → SourcesHeld t c → Goes limit s w result → OnOk result (SourcesHeld t c × SinkHeld w)
goes_steady limit s t c w (Ok h) held goes = (held, goes.1)
goes_steady limit s t c w (Err e) held goes = tt

goes_legal : (limit : ℕ) (s : Start) (w : SinkSeen) (result : Result History Refusal) → Goes limit s w result → IfOk result IsLegal
goes_legal limit s w (Ok h) goes = goes.0.1.record_is.legal
goes_legal limit s w (Err e) goes = tt

goes_quiet : (limit : ℕ) (s : Start) (w : SinkSeen) (result : Result History Refusal) → Goes limit s w result → IfErr result (λ e. (e ≡ refusal.Output → ⊥) → IsUntouched w)
goes_quiet limit s w (Ok h) goes = tt
goes_quiet limit s w (Err refusal.NoMemory) goes = λ other. goes
goes_quiet limit s w (Err refusal.Output) goes = λ other. absurd (other refl)
goes_quiet limit s w (Err e) goes = absurd goes

goes_told : (I : Type 0) (limit : ℕ) (s : Start) (w : SinkSeen) (result : Result History Refusal) → Goes limit s w result → IfErr result (TellsRun I (SinkFailed w))
goes_told I limit s w (Ok h) goes = tt
goes_told I limit s w (Err refusal.NoMemory) goes = tt
goes_told I limit s w (Err refusal.Output) goes = goes.1
goes_told I limit s w (Err e) goes = absurd goes

-- where a start was read and no source failed, what its calls left is what the run answers
pub begun_answers : (limit : ℕ) (cuts : List ℕ) (s : Start) (t c : SourceSeen) (w : SinkSeen) (result : Result History Refusal) → Spells limit cuts t c s → SourcesHeld t c → Goes limit s w result → RunAnswers limit cuts t c w result
begun_answers limit cuts s t c w result said held goes = record {
  ran = both_ran limit cuts s t c t.left c.left w result said goes;
  tells = both_tell limit cuts s t.left c.left w result said goes;
  out = both_out limit cuts s t.left c.left w result said goes;
  left = goes_left limit s w result goes;
  steady = goes_steady limit s t c w result held goes;
  legal = goes_legal limit s w result goes;
  quiet = goes_quiet limit s w result goes;
  told = goes_told (EitherFailed t c) limit s w result goes;
}

-- ---- and what a run answers that was refused before

-- bytes that stay the same are kept
pub keeps_same : (o : Option (List ℕ)) → Keeps o o
keeps_same None = tt
keeps_same (Some bytes) = refl

refused_ran : (I J : Type 0) (limit : ℕ) (cuts a b : List ℕ) (old new : Option (List ℕ)) (e : Refusal) → RefusedFrom J e (start_of limit cuts a b) → TellsStart I e → Ran J limit cuts a b old new (Err e)
refused_ran I J limit cuts a b old new refusal.Output h tells = absurd tells
refused_ran I J limit cuts a b old new e h tells = h

both_refused : (limit : ℕ) (cuts : List ℕ) (t c : SourceSeen) (table script : Option (List ℕ)) (w : SinkSeen) (e : Refusal) → IfBoth table script (λ a b. RefusedFrom (FailedInTurn t c a) e (start_of limit cuts a b)) → TellsStart (EitherFailed t c) e
    → IfBoth table script (λ a b. Ran (FailedInTurn t c a) limit cuts a b w.taken_before w.taken_after (Err e))
both_refused limit cuts t c None script w e h tells = tt
both_refused limit cuts t c (Some a) None w e h tells = tt
both_refused limit cuts t c (Some a) (Some b) w e h tells = refused_ran (EitherFailed t c) (FailedInTurn t c a) limit cuts a b w.taken_before w.taken_after e h tells

start_told : (I O : Type 0) (e : Refusal) → TellsStart I e → TellsRun I O e
start_told I O refusal.Output tells = absurd tells
start_told I O e tells = tells

none_told : (table script : Option (List ℕ)) → IfBoth table script (λ a b. Unit {0})
none_told None script = tt
none_told (Some a) None = tt
none_told (Some a) (Some b) = tt

-- a refusal before any call, where the sink took nothing and held, is what the run answers
pub refused_answers : (limit : ℕ) (cuts : List ℕ) (t c : SourceSeen) (w : SinkSeen) (e : Refusal) → IfBoth t.left c.left (λ a b. RefusedFrom (FailedInTurn t c a) e (start_of limit cuts a b)) → TellsStart (EitherFailed t c) e → Keeps w.taken_before w.taken_after → SinkHeld w → RunAnswers limit cuts t c w (Err e)
refused_answers limit cuts t c w e spelled tells kept held = record {
  ran = both_refused limit cuts t c t.left c.left w e spelled tells;
  tells = none_told t.left c.left;
  out = none_told t.left c.left;
  left = tt;
  steady = tt;
  legal = tt;
  quiet = λ other. (kept, held);
  told = start_told (EitherFailed t c) (SinkFailed w) e tells;
}
