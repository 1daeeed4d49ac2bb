-- A legal history is found legal in its file.
use Rattle.std.proofs.Common.{◌≡◌, ◌∙◌, sym, ap, refl, subst, ℕ, Bool, true, false, true≢false, List, [], ◌∷◌, ◌++◌, length, map, Option, Result, Ok, Err, inl, inr}
use Rattle.std.proofs.lemmas.List.{length-map}
use Rattle.sw_rows.specs.Header.{Column, has_texts}
use Rattle.sw_query.specs.declared.query.Call.{Call}
use Rattle.sw_query.specs.declared.refusal.Refusal.{Refusal}
use Rattle.sw_query.specs.declared.refusal.Refusal.TheVariants as refusal
use Rattle.sw_lang.specs.Sinks.{Took, TookBeginning}
use Rattle.sw_lang.specs.Replies.{reply_lines}
use Rattle.sw_table.specs.declared.row.Update.{Update}
use Rattle.sw_spine.specs.Checks.{IsFirstFault}
use Rattle.sw_spine.specs.History.{Agrees, AllAgree, History, IsLegal, updates_after}
use Rattle.sw_spine.specs.Table.{opened, updates_then}
use Rattle.sw_spine.specs.declared.history.Entry.{Entry}
use Rattle.sw_spine.specs.declared.history.State.{State}
use Rattle.sw_spine.specs.declared.history.State.TheVariants as state
use Rattle.sw_histories.specs.FileChecks.{ChecksFile, IsVerdict, legal_line}
use Rattle.sw_histories.specs.FoundLegal.{FilesAreFoundLegal, IsFoundLegal}
use Rattle.sw_histories.specs.ReadBack.{entry_in_lines, in_lines, with_lines}
use Rattle.sw_histories.specs.RecordReading.{record_at}
use Rattle.sw_histories.specs.RecordText.{record_text}
use Rattle.sw_histories.proofs.Related.OtherFiles.{read_otherwise}
use Rattle.sw_histories.proofs.Back.RunRecords.{records_read_back}

-- ---- lines for replies

lines_agree : (columns : List Column) (limit : ℕ) (us : List Update) (c : Call) (st : State) → Agrees columns limit us c st → Agrees columns limit us c (in_lines columns c st)
lines_agree columns limit us c (state.Answered r) h = ap (reply_lines columns c) h
lines_agree columns limit us c (state.Lines ls) h = h
lines_agree columns limit us c state.Open h = h
lines_agree columns limit us c state.Void h = h

all_lines_agree : (columns : List Column) (limit : ℕ) (us : List Update) (es : List Entry) → AllAgree columns limit us es → AllAgree columns limit us (map (entry_in_lines columns) es)
all_lines_agree columns limit us [] h = tt
all_lines_agree columns limit us (e ∷ es) h = (lines_agree columns limit us e.call e.state h.0, all_lines_agree columns limit (updates_then limit us e.call) es h.1)

-- a history stays legal where each reply is kept as its lines
pub lines_legal : (h : History) → IsLegal h → IsLegal (with_lines h)
lines_legal h is = all_lines_agree h.columns h.limit (opened h.rows) h.entries is

-- ---- the verdict

agrees_there : (columns : List Column) (limit : ℕ) (us : List Update) (before : List Entry) (e : Entry) (later : List Entry) → AllAgree columns limit us (before ++ e ∷ later) → Agrees columns limit (updates_after limit us before) e.call e.state
agrees_there columns limit us [] e later h = h.0
agrees_there columns limit us (x ∷ before) e later h = agrees_there columns limit (updates_then limit us x.call) before e later h.1

no_fault : (h : History) (place : ℕ) → IsLegal h → IsFirstFault h place → ⊥
no_fault h place is f = f.differs (agrees_there h.columns h.limit (opened h.rows) f.before f.entry f.later (subst (AllAgree h.columns h.limit (opened h.rows)) f.entries_are is))

verdict_legal : (h : History) (status : ℕ) (line : List ℕ) → IsLegal h → IsVerdict h status line → (status ≡ 0) × (line ≡ legal_line (length h.entries))
verdict_legal h status line is (inl v) = (v.1, v.2)
verdict_legal h status line is (inr v) = absurd (no_fault h v.0 is v.1)

same_history : (bytes : List ℕ) (h k : History) → record_at bytes ≡ Ok k → record_at bytes ≡ Ok h → h ≡ k
same_history bytes h k known told = ap or_else (sym told ∙ known)
  where
    or_else : Result History Refusal → History
    or_else (Ok r) = r
    or_else (Err e) = h

other_refusal : (bytes : List ℕ) (k : History) (e : Refusal) → record_at bytes ≡ Ok k → record_at bytes ≡ Err e → ⊥
other_refusal bytes k e known told = let no : (Ok k) ≡ Err e = sym known ∙ told in absurd cc

-- bytes that are read as a legal history are found legal
pub found_legal : (bytes : List ℕ) (k : History) (n : ℕ) (old new : Option (List ℕ)) (failed_old failed_new : ℕ) (result : Result ℕ Refusal) → record_at bytes ≡ Ok k → IsLegal k → length k.entries ≡ n → ChecksFile bytes old new failed_old failed_new result → IsFoundLegal n old new result
found_legal bytes k n old new f g (Ok status) known is long (h, told, (line, v, took, stands)) =
    let legal : IsLegal h = subst IsLegal (sym (same_history bytes h k known told)) is in
    let said = verdict_legal h status line legal v in
    let many : length h.entries ≡ n = ap (λ (r : History). length r.entries) (same_history bytes h k known told) ∙ long in
    (said.0, subst (Took old new) (said.1 ∙ ap legal_line many) took)
found_legal bytes k n old new f g (Err refusal.NoMemory) known is long c = tt
found_legal bytes k n old new f g (Err refusal.Output) known is long (h, told, (status, line, v, part, raised)) =
    let legal : IsLegal h = subst IsLegal (sym (same_history bytes h k known told)) is in
    let said = verdict_legal h status line legal v in
    let many : length h.entries ≡ n = ap (λ (r : History). length r.entries) (same_history bytes h k known told) ∙ long in
    subst (TookBeginning old new) (said.1 ∙ ap legal_line many) part
found_legal bytes k n old new f g (Err (refusal.BadTable a b)) known is long c = absurd (other_refusal bytes k _ known c.0)
found_legal bytes k n old new f g (Err (refusal.BadLine a b)) known is long c = absurd (other_refusal bytes k _ known c.0)
found_legal bytes k n old new f g (Err (refusal.UnknownAttribute a)) known is long c = absurd (other_refusal bytes k _ known c.0)
found_legal bytes k n old new f g (Err (refusal.TooMany a)) known is long c = absurd (other_refusal bytes k _ known c.0)
found_legal bytes k n old new f g (Err (refusal.NoBlank a b)) known is long c = absurd (other_refusal bytes k _ known c.0)
found_legal bytes k n old new f g (Err (refusal.Short a b d)) known is long c = absurd (other_refusal bytes k _ known c.0)
found_legal bytes k n old new f g (Err (refusal.Contended a b)) known is long c = absurd (other_refusal bytes k _ known c.0)
found_legal bytes k n old new f g (Err (refusal.SharesOut a b)) known is long c = absurd (other_refusal bytes k _ known c.0)
found_legal bytes k n old new f g (Err (refusal.HistoryFull a)) known is long c = absurd (other_refusal bytes k _ known c.0)
found_legal bytes k n old new f g (Err (refusal.NotLegal a)) known is long c = absurd (other_refusal bytes k _ known c.0)
found_legal bytes k n old new f g (Err refusal.Input) known is long c = absurd (other_refusal bytes k _ known c.0)
found_legal bytes k n old new f g (Err (refusal.Ahead a b)) known is long c = absurd (other_refusal bytes k _ known c.0)

-- the law: a legal history of a run is found legal in its file
pub files_found_legal : FilesAreFoundLegal
files_found_legal h r is old new f g answer c = by_kinds (has_texts h.columns) refl
  where
    by_kinds : (b : Bool) → has_texts h.columns ≡ b → IsFoundLegal (length h.entries) old new answer
    by_kinds true some =
        let (k, read) = read_otherwise h r some in
        found_legal (record_text h) k (length h.entries) old new f g answer read.read (read.legal is) read.long c
    by_kinds false none =
        found_legal (record_text h) (with_lines h) (length h.entries) old new f g answer (records_read_back h r (λ some. absurd (true≢false (sym some ∙ none)))) (lines_legal h is) (length-map h.entries (entry_in_lines h.columns)) c
