-- The text that cuts heads, read from left to right, with the first fault that is met.
use Rattle.std.specs.Prelude.{◌+◌, ℕ, ℤ, Bool, List, [], ◌∷◌, ◌++◌, length, take, drop, replicate, position, int_lt, nat_lt, slice_set, ◌==◌, Option, Some, None, Result, Ok, Err, if◌then◌else◌}
use Rattle.std.specs.List.{list_all, slice_split}
use Rattle.sw_rows.specs.Header.{Column}
use Rattle.sw_rows.specs.Domains.{Domain}
use Rattle.sw_query.specs.declared.refusal.Why.TheVariants as why
use Rattle.sw_lang.specs.declared.reading.cuts.TheConstants.{MOST_CUTS}
use Rattle.sw_lang.specs.declared.fault.Fault.{Fault}
use Rattle.sw_lang.specs.declared.fault.Fault.TheVariants.{Bad, Excess}
use Rattle.sw_lang.specs.Cuts.{CutLists, cuts_on}
use Rattle.sw_lang.specs.Replies.{kind_at}
use Rattle.sw_lang.specs.Reading.{◌>>=◌, attr_of, word_value}

-- an attribute has at most 15 cuts
unfoldable pub with_room : CutLists → ℕ → Result ℕ Fault
with_room cuts a = if nat_lt (length (cuts_on cuts a)) MOST_CUTS then Ok a else Err (Excess MOST_CUTS)

-- the attribute that is cut
unfoldable pub cut_name : List Column → CutLists → List ℕ → Result ℕ Fault
cut_name schema cuts name = attr_of schema why.Cuts name >>= with_room cuts

abbrev pub cut_valued : Option ℤ → Result ℤ Fault
cut_valued (Some z) = Ok z
cut_valued None = Err (Bad why.Cuts)

-- the value that follows a name's '=', if there is one
unfoldable pub cut_value : Domain → List ℕ → Option ℕ → Result ℤ Fault
cut_value kind part None = Err (Bad why.Cuts)
cut_value kind part (Some equals) = cut_valued (word_value kind (drop (equals + 1) part))

-- the cuts of an attribute rise
unfoldable pub with_cut : CutLists → ℕ → ℤ → Result CutLists Fault
with_cut cuts a z =
    if list_all (λ y. int_lt y z) (cuts_on cuts a) then Ok (slice_set cuts a (cuts_on cuts a ++ z ∷ []))
    else Err (Bad why.Cuts)

-- the bytes before '=', or all of them
abbrev pub before : List ℕ → Option ℕ → List ℕ
before part None = part
before part (Some equals) = take equals part

-- the cuts with that of a name and a value at which '=' stands here
unfoldable pub cut_split : List Column → CutLists → List ℕ → Option ℕ → Result CutLists Fault
cut_split schema cuts part equals = do
  a ← cut_name schema cuts (before part equals)
  z ← cut_value (kind_at schema a) part equals
  with_cut cuts a z

abbrev pub equals_at : List ℕ → Option ℕ
equals_at part = position (λ b. b == 61) part

-- the cuts with those of further parts
abbrev pub cuts_after : List Column → CutLists → List (List ℕ) → Result CutLists Fault
cuts_after schema cuts [] = Ok cuts
cuts_after schema cuts (part ∷ parts) =
    cut_split schema cuts part (equals_at part) >>= λ more. cuts_after schema more parts

abbrev pub is_divider : ℕ → Bool
is_divider b = b == 59

-- the parts of what follows a divider, where there is one
abbrev pub parts_after : Option (List ℕ) → List (List ℕ)
parts_after None = []
parts_after (Some rest) = slice_split is_divider rest

abbrev pub no_cuts : List Column → CutLists
no_cuts schema = replicate (length schema) []

-- an empty text has no cuts; any other is parts divided by ';'
unfoldable pub cuts_at : List Column → List ℕ → Result CutLists Fault
cuts_at schema [] = Ok (no_cuts schema)
cuts_at schema (b ∷ bs) = cuts_after schema (no_cuts schema) (slice_split is_divider (b ∷ bs))
