-- A text of few bytes and its code, in four words.
use Rattle.std.specs.Prelude.{◌≡◌, ◌-◌, ◌++◌, ◌∷◌, [], if◌then◌else◌, All, IfSome, List, Option, Some, drop, length, nat_le, take, ℕ}
use Rattle.std.specs.Int.{to_le_bytes, w64}
use Rattle.sw_rows.specs.Texts.{code_of}
use Rattle.sw_rows.specs.declared.schema.slot.Slot.{Slot}
use Rattle.sw_rows.specs.declared.schema.slots.Ends.{Ends}

-- the eight bytes of a word, the lowest first
abbrev pub bytes_of : ℕ → List ℕ
bytes_of = to_le_bytes w64

-- the text of a slot: of eight bytes and more the last word has the end, of four and more the first word both ends
abbrev pub text_in : Slot → List ℕ
text_in s =
    if nat_le 8 s.many then take (s.many - 8) (bytes_of s.first ++ bytes_of s.middle) ++ bytes_of s.last
    else if nat_le 4 s.many then take (s.many - 4) (bytes_of s.first) ++ drop 4 (bytes_of s.first)
    else take s.many (bytes_of s.first)

-- a slot has this text and this code
abbrev pub IsSlotOf : List ℕ → ℕ → Slot → Type 0
IsSlotOf text code s = (text_in s ≡ text) × (s.code ≡ code)

-- a slot has one of these texts with its code
abbrev pub IsTrueOf : List (List ℕ) → Slot → Type 0
IsTrueOf texts s = code_of texts (text_in s) ≡ Some s.code

-- where all slots have texts with their codes, what is found is the code of this text
abbrev pub TellsCode : List Slot → List ℕ → Option ℕ → Type 0
TellsCode slots text found = (texts : List (List ℕ)) → All (IsTrueOf texts) slots → IfSome found (λ code. code_of texts text ≡ Some code)

-- the slot of the words, the length and the code at one place
abbrev pub slot_by : Ends → ℕ → ℕ → ℕ → Slot
slot_by ends middle many code = record { first = ends.first; middle = middle; last = ends.last; many = many; code = code }

-- the slots of columns
unfoldable pub slots_in : List Ends → List ℕ → List ℕ → List ℕ → List Slot
slots_in (e ∷ es) (m ∷ ms) (n ∷ ns) (c ∷ cs) = slot_by e m n c ∷ slots_in es ms ns cs
slots_in (e ∷ es) (m ∷ ms) (n ∷ ns) [] = []
slots_in (e ∷ es) (m ∷ ms) [] cs = []
slots_in (e ∷ es) [] ns cs = []
slots_in [] ms ns cs = []

-- columns of one length
pub record AreInStep (es : List Ends) (ms ns cs : List ℕ) : Type 0 where
  pub middles : length ms ≡ length es
  pub lens : length ns ≡ length es
  pub codes : length cs ≡ length es
