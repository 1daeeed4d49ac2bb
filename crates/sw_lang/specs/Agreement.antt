-- Where the reading of a text from left to right and the relation of texts to values agree.
use Rattle.std.specs.Prelude.{◌≡◌, ℕ, List, Result, Ok}
use Rattle.sw_rows.specs.Header.{Column, IsSchema}
use Rattle.sw_query.specs.declared.refusal.Refusal.{Refusal}
use Rattle.sw_lang.specs.declared.fault.Fault.{Fault}
use Rattle.sw_lang.specs.Reading.{Answers}

-- what the reading finds in a text, the relation relates to it
abbrev pub FindsRelated :
    {A : Type 0} → (List Column → List ℕ → Result A Fault) → (List Column → List ℕ → A → Type 0) → Type 0
FindsRelated {A} reading Is =
    (schema : List Column) (text : List ℕ) (found : A) → reading schema text ≡ Ok found → Is schema text found

-- what the relation relates to a text over a schema, the reading finds in it
abbrev pub FindsAllRelated :
    {A : Type 0} → (List Column → List ℕ → Result A Fault) → (List Column → List ℕ → A → Type 0) → Type 0
FindsAllRelated {A} reading Is =
    (schema : List Column) (text : List ℕ) (related : A)
    → IsSchema schema → Is schema text related → reading schema text ≡ Ok related

-- the answer is each value that is related, unless memory ran out
abbrev pub AnswersRelated : {A : Type 0} → Result A Refusal → (A → Type 0) → Type 0
AnswersRelated {A} answer Is = (related : A) → Is related → Answers answer (Ok related)
