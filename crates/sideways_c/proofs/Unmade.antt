-- A call that was not made, seen at the state.
use Rattle.std.proofs.Common.{◌≡◌, ℕ, Bool, true, Option, Some, Err, refl, sym, subst, inl, inr}
use Rattle.std.specs.Prelude.{MatchOption}
use Rattle.sw_query.specs.declared.query.Call.{Call}
use Rattle.sw_query.specs.declared.refusal.Refusal.TheVariants as refusal
use Rattle.sw_query.specs.declared.reply.Reply.{Reply}
use Rattle.sw_solo.specs.Called.{SoloState}
use Rattle.sw_arrays.specs.Asked.{Answers, call_asked}
use Rattle.sw_arrays.specs.declared.asked.Asked.{Asked}
use Rattle.sw_arrays.specs.declared.range.Fault.{Fault}
use Rattle.sw_arrays.specs.declared.range.Fault.TheVariants.{NoMemory, NoAttribute, BadCondition, BadCell}
use Rattle.sideways_c.specs.Asks.{AskedBy, AskedOn, IsNotMade, IsTold}
use Rattle.sideways_c.specs.Codes.{fault_code}
use Rattle.sideways_c.specs.Shown.{Shown, has_session}
use Rattle.sideways_c.specs.declared.codes.TheConstants.{MISUSE}

not_made : (a : Asked) (s : SoloState) (f : Fault) → Answers (λ (x : Call). x) (Err f) (call_asked s.history.columns a) → IsNotMade a s (fault_code f)
not_made a s NoMemory h = inl (refusal.NoMemory, tt, refl)
not_made a s NoAttribute h = inr (NoAttribute, h, refl)
not_made a s BadCondition h = inr (BadCondition, h, refl)
not_made a s BadCell h = inr (BadCell, h, refl)

-- a call that its words refuse changes nothing
pub asked_fault : (session : ℕ) (a : Asked) (s : SoloState) (old new : Shown) (f : Fault) (code : ℕ) → old.engine ≡ Some s → has_session session s ≡ true
    → Answers (λ (x : Call). x) (Err f) (call_asked s.history.columns a) → code ≡ fault_code f → new ≡ old → AskedOn session a old new (Err code)
asked_fault session a s old new f code e h answers is same =
    subst (λ (o : Option SoloState). MatchOption o (IsTold {A = Reply} MISUSE old new (Err code)) (λ x. AskedBy (has_session session x) session a x old new (Err code))) (sym e)
    (subst (λ (b : Bool). AskedBy b session a s old new (Err code)) (sym h) (subst (IsNotMade a s) (sym is) (not_made a s f answers), same))
