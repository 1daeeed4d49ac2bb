-- What the calls of a script came to, and the text of it.
use Rattle.std.specs.Prelude.{◌≡◌, ◌⊎◌, ℕ, zero, suc, ◌+◌, ◌++◌, true, List, [], ◌∷◌, codes, length, map, All, IfErr, Result, Ok, Err}
use Rattle.sw_rows.specs.Header.{Column}
use Rattle.sw_query.specs.declared.query.Call.{Call}
use Rattle.sw_query.specs.declared.reply.Reply.{Reply}
use Rattle.sw_query.specs.declared.refusal.Refusal.{Refusal}
use Rattle.sw_query.specs.declared.refusal.Refusal.TheVariants as refusal
use Rattle.sw_lang.specs.Replies.{reply_bytes}
use Rattle.sw_engine.specs.Desk.{RefusesCall}
use Rattle.sw_spine.specs.History.{History, is_select, mine}
use Rattle.sw_spine.specs.declared.history.State.{State}
use Rattle.sw_spine.specs.declared.history.State.TheVariants as state

-- what came of a call: its reply, or why it was refused
abbrev pub Told : Type 0
Told = Result Reply Refusal

-- a call, and what came of it
abbrev pub Outcome : Type 0
Outcome = Call × Told

abbrev pub calls_of : List Outcome → List Call
calls_of told = map (λ o. o.0) told

-- calls in turn, with what came of each
abbrev pub outcomes_of : List Call → List Told → List Outcome
outcomes_of [] ts = []
outcomes_of (c ∷ cs) [] = []
outcomes_of (c ∷ cs) (t ∷ ts) = (c, t) ∷ outcomes_of cs ts

-- blocks in turn, with what came of the calls of each
abbrev pub blocks_told : List (List Call) → List (List Told) → List (List Outcome)
blocks_told [] ts = []
blocks_told (b ∷ bs) [] = []
blocks_told (b ∷ bs) (t ∷ ts) = outcomes_of b t ∷ blocks_told bs ts

-- something came of each call of each block
abbrev pub AreTold : List (List Call) → List (List Told) → Type 0
AreTold bs ts = map (λ t. length t) ts ≡ map (λ b. length b) bs

-- where a call was refused, memory or the history's room was wanting
abbrev pub SaysWhy : Told → Type 0
SaysWhy t = IfErr t RefusesCall

-- the same of each call of each block
abbrev pub AllSayWhy : List (List Outcome) → Type 0
AllSayWhy told = All (λ (b : List Outcome). All (λ (o : Outcome). SaysWhy o.1) b) told

-- the answered calls, each with its reply
abbrev pub answered : List Outcome → List (Call × Reply)
answered [] = []
answered ((c, Ok r) ∷ told) = (c, r) ∷ answered told
answered ((c, Err e) ∷ told) = answered told

-- what a call left among its session's entries: answered, its entry with the reply; refused, none, or of a select a void
-- one
abbrev pub Left : Call → Told → List (Call × State) → Type 0
Left c (Ok r) es = es ≡ (c, state.Answered r) ∷ []
Left c (Err e) es = (es ≡ []) ⊎ ((is_select c ≡ true) × (es ≡ (c, state.Void) ∷ []))

-- what the calls of a block left, one after another
abbrev pub AllLeft : List Outcome → List (Call × State) → Type 0
AllLeft [] es = es ≡ []
AllLeft (o ∷ told) es =
    (first : List (Call × State)) × (rest : List (Call × State))
    × (es ≡ first ++ rest) × Left o.0 o.1 first × AllLeft told rest

-- the line of a call that was refused: the number of the refusal
abbrev pub refused_line : Refusal → List ℕ
refused_line (refusal.HistoryFull entries) = codes "refused 10\n"
refused_line e = codes "refused 1\n"

-- the lines of an outcome
abbrev pub told_bytes : List Column → Call → Told → List ℕ
told_bytes columns c (Ok r) = reply_bytes columns c r
told_bytes columns c (Err e) = refused_line e

-- the lines of a block's outcomes
abbrev pub block_bytes : List Column → List Outcome → List ℕ
block_bytes columns [] = []
block_bytes columns (o ∷ told) = told_bytes columns o.0 o.1 ++ block_bytes columns told

-- the line between two blocks
abbrev pub divider : List ℕ
divider = codes "---\n"

-- the lines of blocks, one after another, with a line `---` between two
abbrev pub text_of : List Column → List (List Outcome) → List ℕ
text_of columns [] = []
text_of columns (b ∷ []) = block_bytes columns b
text_of columns (b ∷ c ∷ bs) = block_bytes columns b ++ (divider ++ text_of columns (c ∷ bs))

-- the line before a block that comes after so many others
abbrev pub line_before : ℕ → List ℕ
line_before zero = []
line_before (suc n) = divider

-- calls that were answered, as outcomes
abbrev pub all_answered : List (Call × Reply) → List Outcome
all_answered made = map (λ m. (m.0, Ok m.1)) made

-- the answered calls of so many sessions of a history, from the session of this number on
abbrev pub sessions_from : ℕ → ℕ → History → List (List (Call × Reply))
sessions_from first zero h = []
sessions_from first (suc n) h = mine first h.entries ∷ sessions_from (first + 1) n h
