-- What was read of a text, or the refusal of its first fault.
use Rattle.std.specs.Prelude.{◌≡◌, Result, Ok, Err}
use Rattle.sw_query.specs.declared.refusal.Refusal.{Refusal}
use Rattle.sw_query.specs.declared.refusal.Refusal.TheVariants as refusal
use Rattle.sw_lang.specs.Reading.{Answers}

infixl 10 ◌>>=◌
abbrev pub ◌>>=◌ : {A B : Type 0} → Result A Refusal → (A → Result B Refusal) → Result B Refusal
(Ok x) >>= f = f x
(Err e) >>= f = Err e

-- what was answered, seen by view, is what the text says, unless memory ran out
abbrev pub Reads : {X Y : Type 0} → (X → Y) → Result X Refusal → Result Y Refusal → Type 0
Reads view (Ok x) said = said ≡ Ok (view x)
Reads {X} {Y} view (Err e) said = Answers {A = Y} (Err e) said

-- a refusal of a text
abbrev pub TellsText : Refusal → Type 0
TellsText refusal.NoMemory = Unit {0}
TellsText (refusal.BadLine line why) = Unit {0}
TellsText (refusal.UnknownAttribute name) = Unit {0}
TellsText (refusal.TooMany limit) = Unit {0}
TellsText e = ⊥
