-- What adding a text answers, and what texts there are then.
use Rattle.std.specs.Prelude.{◌≡◌, ◌≤◌, ℕ, List, Result, Err, true, IfOk, IsOk, OnErr, OnOk}
use Rattle.sw_rows.specs.Gives.{Gives}
use Rattle.sw_rows.specs.Texts.{code_given, has_text, with_text, HasNoRoom}
use Rattle.sw_rows.specs.declared.schema.texts.TheConstants.{MOST_TEXTS}
use Rattle.sw_query.specs.declared.refusal.Refusal.{Refusal}
use Rattle.sw_query.specs.declared.refusal.Refusal.TheVariants as refusal

-- a text was added and its code told, or there is no room or no memory for it, and nothing changed; a known one is never refused
pub record Adds (old : List (List ℕ)) (text : List ℕ) (new : List (List ℕ)) (answer : Result ℕ Refusal) : Type 0 where
  pub code : Gives ⊥ (λ code. code) answer (code_given old text)
  pub few : IfOk answer (λ code. code ≤ MOST_TEXTS)
  pub added : OnOk answer (new ≡ with_text old text)
  pub refused : OnErr answer (new ≡ old)
  pub known : has_text old text ≡ true → IsOk answer
  pub full : HasNoRoom old text → answer ≡ Err (refusal.TooMany MOST_TEXTS)
