-- A verdict of which a beginning went out.
use Rattle.std.proofs.Common.{◌≡◌, sym, subst, ℕ, List, Option, Err}
use Rattle.sw_rows.specs.Gives.{Raised}
use Rattle.sw_query.specs.declared.refusal.Refusal.{Refusal}
use Rattle.sw_query.specs.declared.refusal.Refusal.TheVariants as refusal
use Rattle.sw_lang.specs.Sinks.{TookBeginning}
use Rattle.sw_spine.specs.History.{History}
use Rattle.sw_histories.specs.FileChecks.{IsVerdict, Judges}

-- a beginning of the line went out where the sink failed
pub judged_part : (h : History) (old new : Option (List ℕ)) (failed_old failed_new : ℕ) (e : Refusal) (status : ℕ) (line : List ℕ) → IsVerdict h status line → (e ≡ refusal.Output) × TookBeginning old new line × Raised failed_old failed_new → Judges h old new failed_old failed_new (Err e)
judged_part h old new failed_old failed_new e status line v p = subst (λ r. Judges h old new failed_old failed_new (Err r)) (sym p.0) (status, line, v, p.1, p.2)
