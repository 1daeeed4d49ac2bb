-- Rows that are inserted one after another.
use Rattle.std.specs.Prelude.{ℕ, zero, suc, ◌≡◌, ◌<◌, ◌⊎◌, Bool, true, false, List, [], ◌∷◌, ◌++◌, drop, length, Option, None, Some}
use Rattle.sw_query.specs.declared.reply.Reply.{Reply}
use Rattle.sw_query.specs.declared.reply.Reply.TheVariants as reply
use Rattle.sw_query.specs.declared.refusal.Refusal.{Refusal}
use Rattle.sw_arrays.specs.Columns.{are_rows, insert_at}
use Rattle.sw_arrays.specs.declared.columns.Cells.{Cells}
use Rattle.sw_solo.specs.Called.{RefusesCall, SoloState, reply_in, with_call}
use Rattle.sideways_c.specs.Codes.{code_of}
use Rattle.sideways_c.specs.Shown.{Shown, has_session}
use Rattle.sideways_c.specs.declared.codes.TheConstants.{BAD_CELL, MISUSE, NO_SESSION, OK}

-- the history with the inserts of the first rows of columns at its end, one an entry, each with its reply
abbrev pub with_inserts : ℕ → List Cells → ℕ → SoloState → SoloState
with_inserts session columns zero s = s
with_inserts session columns (suc many) s =
    with_call session (insert_at columns many) (with_inserts session columns many s)

-- the key that is told of a reply, 0 where there was no room
abbrev pub key_told : Reply → ℕ
key_told (reply.Inserted key) = key
key_told r = 0

abbrev pub key_of : ℕ → List Cells → ℕ → SoloState → ℕ
key_of session columns row s = key_told (reply_in (with_inserts session columns row s) (insert_at columns row))

-- the keys of the first rows
abbrev pub keys_of : ℕ → List Cells → ℕ → SoloState → List ℕ
keys_of session columns zero s = []
keys_of session columns (suc many) s = keys_of session columns many s ++ key_of session columns many s ∷ []

-- why no more rows stand: there are none, or the next one is refused
abbrev pub EndsRows : ℕ → ℕ → SoloState → ℕ → Type 0
EndsRows rows many s code =
    ((many ≡ rows) × (code ≡ OK)) ⊎ ((many < rows) × ((e : Refusal) × RefusesCall s e × (code ≡ code_of e)))

-- so many rows stand, whose keys are told: all of them, or those before the one that is refused
abbrev pub InsertsRows : ℕ → List Cells → SoloState → SoloState → List ℕ → List ℕ → ℕ → ℕ → Type 0
InsertsRows session columns old new was keys many code =
    (new ≡ with_inserts session columns many old)
    × (keys ≡ keys_of session columns many old ++ drop many was)
    × EndsRows (length was) many new code

-- none stands
abbrev pub InsertsNone : {A : Type 0} → ℕ → A → A → List ℕ → List ℕ → ℕ → ℕ → Type 0
InsertsNone told old new was keys many code = (code ≡ told) × (new ≡ old) × (keys ≡ was) × (many ≡ 0)

-- as many rows of columns as keys are told; where a cell is none, none stands
abbrev pub InsertsWhere : Bool → Bool → ℕ → List Cells → SoloState → Option SoloState → List ℕ → List ℕ → ℕ → ℕ → Type 0
InsertsWhere false are session columns s new was keys many code = InsertsNone NO_SESSION (Some s) new was keys many code
InsertsWhere true false session columns s new was keys many code = InsertsNone BAD_CELL (Some s) new was keys many code
InsertsWhere true true session columns s new was keys many code =
    (t : SoloState) × (new ≡ Some t) × InsertsRows session columns s t was keys many code

abbrev pub InsertsOver : ℕ → List Cells → Option SoloState → Option SoloState → List ℕ → List ℕ → ℕ → ℕ → Type 0
InsertsOver session columns None new was keys many code = InsertsNone MISUSE None new was keys many code
InsertsOver session columns (Some s) new was keys many code =
    InsertsWhere (has_session session s) (are_rows s.history.columns columns (length was)) session columns s new was keys many code

-- the same of a handle
abbrev pub InsertsHandle : ℕ → List Cells → Option Shown → Option Shown → List ℕ → List ℕ → ℕ → ℕ → Type 0
InsertsHandle session columns None new was keys many code = InsertsNone MISUSE None new was keys many code
InsertsHandle session columns (Some h) new was keys many code =
    (t : Option SoloState) × InsertsOver session columns h.engine t was keys many code
    × (new ≡ Some (record h { engine = t }))
