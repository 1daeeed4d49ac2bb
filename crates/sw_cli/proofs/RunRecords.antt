-- The record of a run is one of which history files tell.
use Rattle.std.proofs.Common.{◌≡◌, ◌∙◌, ap, sym, refl, subst, ℕ, ◌<◌, ◌≤◌, ◌==◌, Bool, true, false, not, true≢false, All, List, [], ◌∷◌, length, map, arith, Some}
use Rattle.std.proofs.lemmas.Bool.{and_parts}
use Rattle.std.proofs.lemmas.Bool.Decides.{nat_tests}
use Rattle.std.proofs.lemmas.List.{length-map}
use Rattle.std.proofs.lemmas.List.Elements.{All-cons, All-head, All-nil, All-tail}
use Rattle.sw_table.specs.declared.row.Row.{Row}
use Rattle.sw_table.specs.declared.row.Update.{Update}
use Rattle.sw_rows.specs.Header.{Column, IsSchema, kinds_of}
use Rattle.sw_query.specs.declared.query.Call.{Call}
use Rattle.sw_lang.specs.Grammar.{IsLine}
use Rattle.sw_lang.proofs.Parsing.Lines.{line_found}
use Rattle.sw_spine.specs.History.{Agrees, AllAgree, all_given, is_absent, is_given, is_open}
use Rattle.sw_spine.specs.Rest.{none_open}
use Rattle.sw_spine.specs.Table.{opened, updates_then}
use Rattle.sw_spine.specs.declared.history.Entry.{Entry}
use Rattle.sw_spine.specs.declared.history.State.{State}
use Rattle.sw_spine.specs.declared.history.State.TheVariants.{Answered, Lines, Open, Void}
use Rattle.sw_histories.specs.ReadBack.{HasCells, IsCalled, IsStateOf}
use Rattle.sw_histories.proofs.Back.LegalFiles.{files_found_legal}
use Rattle.sw_cli.specs.Outcomes.{calls_of}
use Rattle.sw_cli.specs.Run.{is_session}
use Rattle.sw_cli.specs.RunRecords.{RecordsAreFoundLegal, RecordsAreOfRuns}
use Rattle.sw_cli.proofs.Learned.{IsRead}
use Rattle.sw_cli.proofs.Entries.{AllOfEntries, all_entries}
use Rattle.sw_cli.proofs.TextCalls.{start_over}

-- a call that some line gives
abbrev IsGiven : List Column → Call → Type 0
IsGiven columns c = (line : List ℕ) × IsLine columns line (Some c)

-- no session but the first so many has entries
abbrev AllAlone : ℕ → List Entry → Type 0
AllAlone n es = (session : ℕ) → is_session n session ≡ false → is_absent session es ≡ true

rest-alone : (n : ℕ) (e : Entry) (es : List Entry) → AllAlone n (e ∷ es) → AllAlone n es
rest-alone n e es h session out = (and_parts (not (e.session == session)) (is_absent session es) (h session out)).1

-- an entry's session is one of them
first-alone : (n : ℕ) (e : Entry) (es : List Entry) → AllAlone n (e ∷ es) → is_session n e.session ≡ true
first-alone n e es h = by_test (is_session n e.session) refl
  where
    by_test : (b : Bool) → is_session n e.session ≡ b → b ≡ true
    by_test true out = refl
    by_test false out =
        let apart = (and_parts (not (e.session == e.session)) (is_absent e.session es) (h e.session out)).0 in
        let same : (e.session == e.session) ≡ true = grind (arith, nat_tests) in
        absurd (true≢false (sym apart ∙ ap not same))

-- what has become of an entry goes with its call
state-given : (columns : List Column) (limit : ℕ) (us : List Update) (c : Call) (st : State) → Agrees columns limit us c st → is_given st ≡ true → not (is_open st) ≡ true → IsStateOf c st
state-given columns limit us c (Answered r) agrees given closed = tt
state-given columns limit us c (Lines ls) agrees given closed = absurd (true≢false (sym given))
state-given columns limit us c Open agrees given closed = absurd (true≢false (sym closed))
state-given columns limit us c Void agrees given closed = agrees

entries-called : (columns : List Column) (n limit : ℕ) (us : List Update) (es : List Entry) → n ≤ 1024 → ((x : Call) → IsRead columns x → IsGiven columns x) → AllAgree columns limit us es → all_given es ≡ true → none_open es ≡ true → AllOfEntries (IsRead columns) es → AllAlone n es → All (IsCalled columns) es
entries-called columns n limit us [] few line agree given closed read alone = All-nil (IsCalled columns)
entries-called columns n limit us (e ∷ es) few line agree given closed read alone =
    let kept = and_parts (is_given e.state) (all_given es) given in
    let shut = and_parts (not (is_open e.state)) (none_open es) closed in
    let is = state-given columns limit us e.call e.state agree.0 kept.0 shut.0 in
    let called : IsGiven columns e.call = line e.call (All-head (λ (x : Entry). IsRead columns x.call) e es read) in
    let session = first-alone n e es alone in
    let first : 0 < e.session = grind (arith, nat_tests, session) in
    let last : e.session ≤ n = grind (arith, nat_tests, session) in
    let here : IsCalled columns e = record { line = called.0; call = called.1; first = first; last = omega (arith, last, few); state = is } in
    All-cons (IsCalled columns) e es here
    (entries-called columns n limit (updates_then limit us e.call) es few line agree.1 kept.1 shut.1 (All-tail (λ (x : Entry). IsRead columns x.call) e es read) (rest-alone n e es alone))

-- the record that a run leaves is one of which history files tell
pub records_of_runs : RecordsAreOfRuns
records_of_runs limit cuts table script s h read l =
    let o = start_over limit cuts table script s read in
    let r = l.leaves.record_is in
    let many : length l.told ≡ length s.blocks = sym (length-map l.told calls_of) ∙ ap (λ (bs : List (List Call)). length bs) l.leaves.calls in
    let few : length l.told ≤ 1024 = omega (arith, many, o.few) in
    let line : (x : Call) → IsRead s.columns x → IsGiven s.columns x = λ x is. (is.0, line_found s.columns is.0 (Some x) is.1) in
    let were_read = all_entries (IsRead s.columns) limit s l.told l.old l.new h l.leaves o.read in
    let agree : AllAgree s.columns h.limit (opened h.rows) h.entries = subst (λ (cs : List Column). AllAgree cs h.limit (opened h.rows) h.entries) r.columns_are r.legal in
    let calls = entries-called s.columns (length l.told) h.limit (opened h.rows) h.entries few line agree r.given r.closed were_read r.alone in
    record {
      sound = l.sound;
      schema = subst IsSchema (sym r.columns_are) o.schema;
      cells = subst (λ (cs : List Column). All (HasCells (kinds_of cs)) h.rows) (sym r.columns_are) (subst (λ (rs : List Row). All (HasCells (kinds_of s.columns)) rs) (sym r.rows_are) o.cells);
      calls = subst (λ (cs : List Column). All (IsCalled cs) h.entries) (sym r.columns_are) calls;
    }

-- and the check finds its file legal
pub found_legal : RecordsAreFoundLegal
found_legal limit cuts table script s h read l old new f g answer checks = files_found_legal h (records_of_runs limit cuts table script s h read l) l.leaves.record_is.legal old new f g answer checks
