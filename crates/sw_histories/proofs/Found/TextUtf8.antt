-- The text of a value whose strings are UTF-8 is UTF-8.
use Rattle.std.proofs.Common.{refl, Bool, true, false, [], ◌∷◌, ◌++◌, IsUtf8}
use Rattle.std.specs.Prelude.{⊤}
use Rattle.std.proofs.lemmas.Str.{IsUtf8-append, IsUtf8-nil}
use Rattle.json.proofs.Printed.Utf8.{IsUtf8-are_ascii, IsUtf8-boolean, IsUtf8-quoted}
use Rattle.serde_json.specs.Data.{Num, unsigned, negative, float, Data, null, boolean, number, string, array, object, Items, no_items, item, Members, no_members, member}
use Rattle.serde_json.specs.Written.{comma_if, compact_text, items_text, members_text, number_text}
use Rattle.sw_spine.proofs.PrintedLemmas.{decimal_shown, line_utf8, signed_shown}

-- the strings of a value and its keys are UTF-8
abbrev mutual
  -- each string in the value, and each key in it, is UTF-8
  pub HasTexts : Data → Type 0
  HasTexts null = ⊤
  HasTexts (boolean b) = ⊤
  HasTexts (number n) = ⊤
  HasTexts (string s) = IsUtf8 s
  HasTexts (array ds) = HaveTexts ds
  HasTexts (object ms) = NameTexts ms

  -- it is so in each of the items
  pub HaveTexts : Items → Type 0
  HaveTexts no_items = ⊤
  HaveTexts (item d ds) = HasTexts d × HaveTexts ds

  -- the key of each member is UTF-8, and it is so in its value
  pub NameTexts : Members → Type 0
  NameTexts no_members = ⊤
  NameTexts (member k d ms) = IsUtf8 k × HasTexts d × NameTexts ms

number_utf8 : (n : Num) → IsUtf8 (number_text n)
number_utf8 (unsigned n) = line_utf8 (number_text (unsigned n)) (decimal_shown n)
number_utf8 (negative z) = line_utf8 (number_text (negative z)) (signed_shown z)
number_utf8 (float x) = IsUtf8-nil

comma_utf8 : (later : Bool) → IsUtf8 (comma_if later)
comma_utf8 true = IsUtf8-are_ascii (44 ∷ []) refl
comma_utf8 false = IsUtf8-nil

mutual
  -- the compact text of such a value is UTF-8
  pub text_utf8 : (d : Data) → HasTexts d → IsUtf8 (compact_text d)
  text_utf8 null h = IsUtf8-are_ascii (compact_text null) refl
  text_utf8 (boolean b) h = IsUtf8-boolean b
  text_utf8 (number n) h = number_utf8 n
  text_utf8 (string s) h = IsUtf8-quoted s h
  text_utf8 (array ds) h = IsUtf8-append (91 ∷ []) (items_text false ds) (IsUtf8-are_ascii (91 ∷ []) refl) (items_utf8 false ds h)
  text_utf8 (object ms) h = IsUtf8-append (123 ∷ []) (members_text false ms) (IsUtf8-are_ascii (123 ∷ []) refl) (members_utf8 false ms h)

  items_utf8 : (later : Bool) (ds : Items) → HaveTexts ds → IsUtf8 (items_text later ds)
  items_utf8 later no_items h = IsUtf8-are_ascii (93 ∷ []) refl
  items_utf8 later (item d ds) h =
      IsUtf8-append (comma_if later) (compact_text d ++ items_text true ds) (comma_utf8 later)
      (IsUtf8-append (compact_text d) (items_text true ds) (text_utf8 d h.0) (items_utf8 true ds h.1))

  members_utf8 : (later : Bool) (ms : Members) → NameTexts ms → IsUtf8 (members_text later ms)
  members_utf8 later no_members h = IsUtf8-are_ascii (125 ∷ []) refl
  members_utf8 later (member k d ms) h =
      let after = IsUtf8-append (compact_text d) (members_text true ms) (text_utf8 d h.1) (members_utf8 true ms h.2) in
      let colon = IsUtf8-append (58 ∷ []) (compact_text d ++ members_text true ms) (IsUtf8-are_ascii (58 ∷ []) refl) after in
      IsUtf8-append (comma_if later) _ (comma_utf8 later) (IsUtf8-append _ (58 ∷ (compact_text d ++ members_text true ms)) (IsUtf8-quoted k h.0) colon)
