-- What goes out of a text through a block of bytes, and which sessions were answered what.
use Rattle.std.specs.Prelude.{◌≡◌, ◌⊎◌, ◌<◌, ◌≤◌, ◌+◌, ◌∷◌, ℕ, List, [], length, slice_index_or, All, Option, Result, OnOk, IfErr, IfOk}
use Rattle.sw_rows.specs.Gives.{Raised}
use Rattle.sw_query.specs.declared.query.Call.{Call}
use Rattle.sw_query.specs.declared.refusal.Refusal.{Refusal}
use Rattle.sw_query.specs.declared.refusal.Refusal.TheVariants as refusal
use Rattle.sw_lang.specs.Sinks.{Took, TookBeginning}
use Rattle.sw_spine.specs.History.{History}
use Rattle.sw_engine.specs.Own.{own_of}
use Rattle.sw_engine.specs.Published.{Shown}
use Rattle.sw_cli.specs.Outcomes.{AllLeft, Outcome, SaysWhy, Told, answered, blocks_told, outcomes_of, text_of}
use Rattle.sw_cli.specs.Sides.{SinkSeen}
use Rattle.sw_cli.specs.declared.ended.Ended.{Ended}

-- tickets with the numbers n, n + 1, n + 2 and so on, to each of which the answered calls of a block's outcomes were
-- answered, and which has the entries that these left
abbrev pub AreAnswered : ℕ → List (List Outcome) → List Shown → Type 0
AreAnswered n [] [] = Unit {0}
AreAnswered n [] (t ∷ ts) = ⊥
AreAnswered n (b ∷ bs) [] = ⊥
AreAnswered n (b ∷ bs) (t ∷ ts) = (t.0 ≡ n) × (t.1 ≡ answered b) × AllLeft b (own_of t) × AreAnswered (n + 1) bs ts

-- place by place
abbrev pub Each : {X Y : Type 0} → (X → Y → Type 0) → List X → List Y → Type 0
Each {X} {Y} P xs ys =
    (length ys ≡ length xs)
    × ((i : ℕ) (x : X) (y : Y) → i < length xs → P (slice_index_or xs i x) (slice_index_or ys i y))

-- a session, the calls that it is to make, and what came of the first of them
pub record Making : Type 0 where
  pub session : Shown
  pub calls : List Call
  pub told : List Told

-- the session made the first of the calls, as many as something came of: those that were answered are its own, it has the
-- entries that they left, and the others say why
pub record HasMade (session : Shown) (calls : List Call) (told : List Told) : Type 0 where
  pub few : length told ≤ length calls
  pub made : session.1 ≡ answered (outcomes_of calls told)
  pub left : AllLeft (outcomes_of calls told) (own_of session)
  pub why : All SaysWhy told

-- the session is of the same number, and is to make the same calls
abbrev pub IsSameJob : Making → Making → Type 0
IsSameJob old new = (new.session.0 ≡ old.session.0) × (new.calls ≡ old.calls)

-- more calls came to something, unless all had
abbrev pub GoesOn : Making → Making → Type 0
GoesOn old new =
    (length old.told < length new.told) ⊎ ((length old.told ≡ length old.calls) × (new.told ≡ old.told))

-- the session of this number made these calls: something came of each, those that were answered are its ticket's, which
-- has the entries that they left, and the others say why
pub record IsDone (session : ℕ) (calls : List Call) (ticket : Shown) (told : List Told) : Type 0 where
  pub number : ticket.0 ≡ session
  pub all : length told ≡ length calls
  pub made : ticket.1 ≡ answered (outcomes_of calls told)
  pub left : AllLeft (outcomes_of calls told) (own_of ticket)
  pub why : All SaysWhy told

-- the sink took all of a text; or it failed, and took a beginning
pub record Served {A : Type 0} (old new : Option (List ℕ)) (f g : ℕ) (result : Result A Refusal) (text : List ℕ)
    : Type 0 where
  pub whole : OnOk result (Took old new text × (g ≡ f))
  pub part : IfErr result (λ e. (e ≡ refusal.Output) × TookBeginning old new text × Raised f g)

-- what came of the blocks of a run
abbrev pub told_in : Ended → List (List Outcome)
told_in e = blocks_told e.blocks.items e.told.items

-- the sink took the lines of what came of the blocks, and the record is answered; or it failed, and took a beginning
abbrev pub SendsLines : SinkSeen → Ended → Result History Refusal → Type 0
SendsLines w e result =
    Served w.taken_before w.taken_after w.failed_before w.failed_after result (text_of e.history.columns (told_in e)) ×
    IfOk result (λ h. h ≡ e.history)
