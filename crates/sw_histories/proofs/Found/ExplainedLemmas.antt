-- The parts of an explanation, put together.
use Rattle.std.proofs.Common.{◌≡◌, refl, sym, subst, inr, ℕ, ◌-◌, ◌<◌, ◌≤◌, List, ◌++◌, length, get_or, Option, Err, arith}
use Rattle.std.proofs.lemmas.Option.{slice_get_read}
use Rattle.sw_rows.specs.Header.{Column}
use Rattle.sw_rows.specs.Gives.{Raised}
use Rattle.sw_query.specs.declared.refusal.Refusal.{Refusal}
use Rattle.sw_query.specs.declared.refusal.Refusal.TheVariants as refusal
use Rattle.sw_query.specs.declared.reply.Reply.{Reply}
use Rattle.sw_lang.specs.Replies.{reply_lines}
use Rattle.sw_spine.specs.History.{History}
use Rattle.sw_spine.specs.Checks.{IsExpectedAt, IsFirstFault}
use Rattle.sw_lang.specs.Sinks.{TookBeginning}
use Rattle.sw_histories.specs.FileChecks.{illegal_line}
use Rattle.sw_spine.specs.declared.history.Entry.{Entry}
use Rattle.sw_histories.specs.Explained.{Explains, IsExplained, JudgesExplained, ShowsParting, entry_line, given_lines}

-- an entry, its parting and what more is said explain a verdict
pub explains : (h : History) (columns : List Column) (place : ℕ) (e : Entry) (listed : Reply) (named parted more text : List ℕ) → columns ≡ h.columns → 0 < place → place ≤ length h.entries → e ≡ get_or h.entries (place - 1) e → IsExpectedAt h (place - 1) listed → named ≡ entry_line columns place e → ShowsParting (given_lines columns e.call e.state) (reply_lines columns e.call listed) parted → text ≡ named ++ (parted ++ more) → Explains h place text
explains h columns place e listed named parted more text same some within is expected name shows whole = (
  e,
  listed,
  parted,
  more,
  slice_get_read h.entries (length h.entries) (place - 1) e refl (omega (arith, some, within)) is,
  expected,
  subst (λ cs. ShowsParting (given_lines cs e.call e.state) (reply_lines cs e.call listed) parted) same shows,
  subst (λ cs. text ≡ entry_line cs place e ++ (parted ++ more)) same (subst (λ n. text ≡ n ++ (parted ++ more)) name whole),
)

-- a beginning of it went out
pub explained_part : (h : History) (old new : Option (List ℕ)) (failed_old failed_new : ℕ) (e : Refusal) (status : ℕ) (text : List ℕ) → IsExplained h status text → (e ≡ refusal.Output) × TookBeginning old new text × Raised failed_old failed_new → JudgesExplained h old new failed_old failed_new (Err e)
explained_part h old new failed_old failed_new e status text x p = subst (λ r. JudgesExplained h old new failed_old failed_new (Err r)) (sym p.0) (status, text, x, p.1, p.2)

-- the first entry that does not agree was explained
pub explained_fault : (h : History) (place : ℕ) (why : List ℕ) → IsFirstFault h place → Explains h place why → IsExplained h 1 (illegal_line place ++ why)
explained_fault h place why fault told = inr (place, why, fault, told, refl, refl)
