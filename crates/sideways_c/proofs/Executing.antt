-- A line that is executed, seen at the handle.
use Rattle.std.proofs.Common.{◌≡◌, ◌∙◌, ℕ, Bool, true, length, List, [], Option, None, Some, Result, Ok, Err, refl, sym, ap, subst, inl, inr}
use Rattle.std.specs.Global.{Vec}
use Rattle.std.specs.Prelude.{MatchOption}
use Rattle.sw_query.specs.declared.query.Call.{Call}
use Rattle.sw_query.specs.declared.refusal.Refusal.{Refusal}
use Rattle.sw_rows.specs.Header.{Column, IsSchema, texts_of}
use Rattle.sw_query.specs.declared.refusal.Refusal.TheVariants as refusal
use Rattle.sw_lang.proofs.Known.Knowing.{line_forgotten}
use Rattle.sw_spine.specs.Books.{forgetting}
use Rattle.sw_solo.specs.Called.{RefusesCall, SoloState, with_columns}
use Rattle.sideways_c.specs.Codes.{code_of}
use Rattle.sideways_c.specs.Executed.{ExecutesIn, IsExecuted, IsNotExecuted, MakesLine, call_in, learning}
use Rattle.sideways_c.specs.Handles.{InSession, Tells}
use Rattle.sideways_c.specs.Shown.{Shown, has_session}
use Rattle.sideways_c.specs.declared.codes.TheConstants.{MISUSE, NO_TEXT, OK}

-- an engine that is as it was
same_engine : (old : Shown) (s : SoloState) (text : List ℕ) → old.engine ≡ Some s → record old { engine = Some s; text = text } ≡ record old { text = text }
same_engine old s text e = ap (λ (o : Option SoloState). record old { engine = o; text = text }) (sym e)

-- an executed line, with its text
pub line_told : (session : ℕ) (line : List ℕ) (read : Result (Option Call) Refusal) (s t : SoloState) (told : Vec ℕ) (old new : Shown) → old.engine ≡ Some s → IsExecuted session line read s t (Some told)
    → new ≡ record old { engine = Some t; text = told.items } → MakesLine session line read s old new OK
line_told session line (Ok None) s t told old new e m is =
    let then : new ≡ record old { engine = Some s; text = [] } = is ∙ (λ i. record old { engine = Some (m.0 i); text = m.1 i }) in
    inr (inl (refl, refl, then ∙ same_engine old s [] e))
line_told session line (Ok (Some c)) s t told old new e m is = inr (inr (c, refl, inl (refl, is ∙ (λ i. record old { engine = Some (m.0 i); text = m.1 i }))))
line_told session line (Err f) s t told old new e m is = absurd m

-- an executed line for whose text there is no memory
pub line_untold : (session : ℕ) (line : List ℕ) (read : Result (Option Call) Refusal) (s t : SoloState) (old new : Shown) → old.engine ≡ Some s → IsExecuted session line read s t None
    → new ≡ record old { engine = Some t } → MakesLine session line read s old new NO_TEXT
line_untold session line (Ok None) s t old new e m is = absurd m
line_untold session line (Ok (Some c)) s t old new e m is = inr (inr (c, refl, inr (refl, is ∙ (λ i. record old { engine = Some (m i) }))))
line_untold session line (Err f) s t old new e m is = absurd m

-- a refused line
pub line_refused : (session : ℕ) (line : List ℕ) (read : Result (Option Call) Refusal) (s t : SoloState) (f : Refusal) (old new : Shown) (code : ℕ) → old.engine ≡ Some s → (t ≡ s) × IsNotExecuted read s f
    → code ≡ code_of f → new ≡ record old { engine = Some t } → MakesLine session line read s old new code
line_refused session line read s t f old new code e m told is =
    let then : new ≡ record old { engine = Some s } = is ∙ (λ i. record old { engine = Some (m.0 i) }) in
    inl (f, m.1, told, then ∙ ap (λ (o : Option SoloState). record old { engine = o }) (sym e))

-- an engine with this session
pub executes_in : (session : ℕ) (line : List ℕ) (s : SoloState) (old new : Shown) (code : ℕ) → old.engine ≡ Some s → has_session session s ≡ true
    → MakesLine session line (call_in s.history.columns line) s old new code → ExecutesIn session line old new code
executes_in session line s old new code e h m =
    subst (λ (o : Option SoloState). MatchOption o (Tells MISUSE old new code) (λ x. InSession (has_session session x) (MakesLine session line (call_in x.history.columns line) x old new code) old new code)) (sym e)
    (subst (λ (b : Bool). InSession b (MakesLine session line (call_in s.history.columns line) s old new code) old new code) (sym h) m)

-- ---- texts of a line that is not executed

-- an engine that learned the texts of a line, and forgot them
pub forgets : (line : List ℕ) (s t u : SoloState) (known : ℕ) → IsSchema s.history.columns → known ≡ length (texts_of s.history.columns) → t ≡ learning line s
    → u ≡ with_columns (forgetting known t.history.columns) t → u ≡ s
forgets line s t u known is many learned forgot =
    forgot
    ∙ ap (λ (x : SoloState). with_columns (forgetting known x.history.columns) x) learned
    ∙ ap (λ n. with_columns (forgetting n (learning line s).history.columns) (learning line s)) many
    ∙ ap (λ (cs : List Column). with_columns cs s) (line_forgotten s.history.columns line is)

-- the texts that a table knows are no reason to refuse a call
refuses_same : (cs : List Column) (s : SoloState) (e : Refusal) → RefusesCall (with_columns cs s) e → RefusesCall s e
refuses_same cs s refusal.NoMemory h = h
refuses_same cs s (refusal.HistoryFull entries) h = h
refuses_same cs s (refusal.BadTable rec field) h = h
refuses_same cs s (refusal.BadLine line why) h = h
refuses_same cs s (refusal.UnknownAttribute name) h = h
refuses_same cs s (refusal.TooMany n) h = h
refuses_same cs s (refusal.NoBlank boxes needed) h = h
refuses_same cs s (refusal.Short used want capacity) h = h
refuses_same cs s (refusal.Contended seen found) h = h
refuses_same cs s (refusal.SharesOut made given) h = h
refuses_same cs s (refusal.NotLegal index) h = h
refuses_same cs s refusal.Input h = h
refuses_same cs s refusal.Output h = h
refuses_same cs s (refusal.Ahead seen told) h = h

-- a call that is refused over more texts is refused over fewer
pub refused_same : (line : List ℕ) (s t : SoloState) (e : Refusal) → t ≡ learning line s → RefusesCall t e → RefusesCall s e
refused_same line s t e learned h = refuses_same (learning line s).history.columns s e (subst (λ (x : SoloState). RefusesCall x e) learned h)
