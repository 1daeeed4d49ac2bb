-- What lines come to, step by step.
use Rattle.std.proofs.Common.{◌≡◌, inr, refl, sym, subst, arith, ℕ, zero, suc, Bool, true, false, not, List, [], ◌∷◌, Option, Some, None, Result, Ok, Err, IfOk, OnErr}
use Rattle.std.proofs.lemmas.Bool.{false≢true}
use Rattle.std.proofs.lemmas.Bool.Decides.{nat_tests}
use Rattle.std.specs.Io.KnownBytes.{Keeps}
use Rattle.sw_rows.specs.Header.{Column}
use Rattle.sw_query.specs.declared.query.Call.{Call}
use Rattle.sw_query.specs.declared.reply.Reply.{Reply}
use Rattle.sw_query.specs.declared.refusal.Refusal.{Refusal}
use Rattle.sw_lang.specs.Learning.{learned}
use Rattle.sw_lang.specs.Reading.{Answers}
use Rattle.sw_lang.specs.Sinks.{Took, TookBeginning}
use Rattle.sw_cli.specs.Script.{call_of_line}
use Rattle.sw_cli.specs.Sides.{SinkSeen}
use Rattle.bstr.specs.Text.{without_terminator}
use Rattle.sw_shell.specs.Lines.{IsNext, is_command, is_quit}
use Rattle.sw_shell.specs.Talks.{CameBy, Ends, Heard, IsEntered, IsHeard, IsTaken, IsTold, IsUnheard, Reached, Said, Seen, Taken, Taking, Talked, Turned, said}
use Rattle.sw_shell.specs.declared.host.Line.{Line}

-- what does not change is kept
pub keeps_same : (o : Option (List ℕ)) → Keeps o o
keeps_same None = tt
keeps_same (Some bytes) = refl

-- nothing is heard where nothing changes
pub unheard_same : (a : Said) → IsUnheard a a
unheard_same a = record { columns = refl; made = refl; quiet = keeps_same a.taken }

-- a line that is refused
pub heard_refused : (W : Taking) (n : ℕ) (line : List ℕ) (a : Said) (e : Refusal) → Answers {A = Option Call} (Err e) (call_of_line a.columns n line) → IsHeard W n line a a
heard_refused W n line a e answers = record { said = Err e; answers = answers; came = unheard_same a }

-- a line without a call
pub heard_idle : (W : Taking) (n : ℕ) (line : List ℕ) (a : Said) → Answers {A = Option Call} (Ok None) (call_of_line a.columns n line) → IsHeard W n line a (said (learned a.columns line) a.made a.taken)
heard_idle W n line a answers = record { said = Ok None; answers = answers; came = record { columns = refl; made = refl; quiet = keeps_same a.taken } }

-- what is no command is not `.quit`
no_quit : (line : List ℕ) → is_command line ≡ false → is_quit line ≡ false
no_quit [] none = refl
no_quit (b ∷ bs) none = grind (arith, nat_tests, none)

-- a line's call
pub heard_call : (l : Line) (c : Call) (columns : List Column) (old new : List (Call × Reply)) (w : SinkSeen) (result : Result (Unit {0}) Refusal)
    → Answers (Ok (Some c)) (call_of_line columns l.number l.bytes.now) → IsTold (learned columns l.bytes.now) c result old new w
    → Heard result l (said columns old w.taken_before) (said (learned columns l.bytes.now) new w.taken_after)
heard_call l c columns old new w (Ok x) answers t =
    record { said = Ok (Some c); answers = answers; came = record { told = t.told; why = t.why; columns = refl; made = t.made; wrote = t.wrote.whole.0 } }
heard_call l c columns old new w (Err e) answers t =
    record { said = Ok (Some c); answers = answers; came = record { told = t.told; why = t.why; columns = refl; made = t.made; wrote = t.wrote.part.1 } }

-- a line that was heard is taken, and there are to be more
pub taken_heard : (W : Taking) (n : ℕ) (line : List ℕ) (a b : Said) → is_command line ≡ false → IsHeard W n line a b → IsTaken W n line a b
taken_heard W n line a b none heard = record {
  stays = no_quit line none;
  came = subst (λ (x : Bool). CameBy x W n line a b) (sym none) heard;
}

-- a command that does not end the shell
pub taken_obeyed : (W : Taking) (n : ℕ) (line : List ℕ) (a : Said) → is_command line ≡ true → is_quit line ≡ false → IsTaken W n line a a
taken_obeyed W n line a one goes_on = record {
  stays = goes_on;
  came = subst (λ (x : Bool). CameBy x W n line a a) (sym one) (unheard_same a);
}

goes_on : (q : Bool) → true ≡ not q → q ≡ false
goes_on true is = absurd (false≢true (sym is))
goes_on false is = refl

ends : (q : Bool) → false ≡ not q → q ≡ true
ends true is = refl
ends false is = absurd (false≢true is)

-- what a command comes to, of which it was told whether there are to be more lines
pub taken_by : (result : Result Bool Refusal) (l : Line) (a : Said) → is_command l.bytes.now ≡ true
    → IfOk result (λ more. more ≡ not (is_quit l.bytes.now)) → OnErr result (is_quit l.bytes.now ≡ false) → Taken result l a a
taken_by (Ok true) l a one more stays = taken_obeyed Took l.number l.bytes.now a one (goes_on (is_quit l.bytes.now) more)
taken_by (Ok false) l a one more stays = record { ends = ends (is_quit l.bytes.now) more; unheard = unheard_same a }
taken_by (Err e) l a one more stays = taken_obeyed TookBeginning l.number l.bytes.now a one stays

-- what a line comes to that was read and taken
pub turned_by : (result : Result Bool Refusal) (l : Line) (line : List ℕ) (a b : Seen) → IsNext a.left b.left line
    → l.bytes.now ≡ without_terminator line → Taken result l a.said b.said → Turned result a b
turned_by (Ok true) l line a b next is t = record {
  line = line;
  number = l.number;
  next = next;
  taken = subst (λ (x : List ℕ). IsTaken Took l.number x a.said b.said) is t;
}
turned_by (Ok false) l line a b next is t = record {
  why = inr (record { line = line; next = next; ends = subst (λ (x : List ℕ). is_quit x ≡ true) is t.ends });
  unheard = t.unheard;
}
turned_by (Err e) l line a b next is t = inr (record {
  line = line;
  number = l.number;
  next = next;
  taken = subst (λ (x : List ℕ). IsTaken TookBeginning l.number x a.said b.said) is t;
})

-- one more line
pub reached_more : (a b c : Seen) → ((n : ℕ) × Reached n a b) → IsEntered Took b c → (n : ℕ) × Reached n a c
reached_more a b c r e = (suc r.0, (b, r.1, e))

-- before any line a shell stands where it began
pub reached_none : (a : Seen) → (n : ℕ) × Reached n a a
reached_none a = (zero, refl)

-- lines up to a place, and the end there, are the whole talk
pub talked : (failure : Option Refusal) (a b c : Seen) → ((n : ℕ) × Reached n a b) → Ends failure b c → Talked failure a c
talked failure a b c r e = record { lines = r.0; before = b; reached = r.1; ends = e }
