-- A JSON value without floats, its numbers in range and its keys in order, is read back from its compact text.
use Rattle.std.proofs.Common.{◌≡◌, ◌∙◌, sym, ap, ap₂, refl, pos, negsuc, suc, max, ◌<◌, ◌≤◌, ◌^◌, List, [], ◌∷◌, ◌++◌, append-nil, append_assoc, arith, subst, Option, Some}
use Rattle.std.specs.Prelude.{⊤, option_and_then, option_map}
use Rattle.json.specs.Token.{Token}
use Rattle.json.specs.Json as json
use Rattle.json.specs.Lex.{tokens}
use Rattle.json.specs.Print.{ArePrintable}
use Rattle.json.specs.Tree as tree
use Rattle.json.specs.Tree.{json_tokens, items_tokens, members_tokens}
use Rattle.json.proofs.Printed.Decimals.{IsNumber-decimal, IsNumber-signed_decimal}
use Rattle.json.proofs.Printed.Tokens.{tokens-print}
use Rattle.json.proofs.Printed.Trees.{value-json_tokens}
use Rattle.serde_json.specs.Data.{Num, unsigned, negative, float, Data, null, boolean, number, string, array, object, Items, no_items, item, Members, no_members, member, depth, items_depth, members_depth, put}
use Rattle.serde_json.specs.Read.{number_of, of_items, of_json, of_members, read}
use Rattle.serde_json.specs.Written.{compact_text, items_outline, members_outline, number_text, outline}
use Rattle.serde_json.proofs.Numbers.{number_of-decimal, number_of-negative}
use Rattle.serde_json.proofs.Texts.{print-outline}

-- the members that are there once more are put in
abbrev pub put_all : Members → Members → Members
put_all no_members found = found
put_all (member k d ms) found = put_all ms (put k d found)

-- a number that is no float
abbrev pub IsWhole : Num → Type 0
IsWhole (unsigned n) = n < 2 ^ 64
IsWhole (negative (pos n)) = ⊥
IsWhole (negative (negsuc n)) = n < 2 ^ 63
IsWhole (float x) = ⊥

-- numbers are whole and in range, and keys stand in order
abbrev mutual
  -- each number in the value is whole and in range, and the keys of each object in it stand in order
  pub IsPlain : Data → Type 0
  IsPlain null = ⊤
  IsPlain (boolean b) = ⊤
  IsPlain (number n) = IsWhole n
  IsPlain (string s) = ⊤
  IsPlain (array ds) = ArePlain ds
  IsPlain (object ms) = HavePlain ms × (put_all ms no_members ≡ ms)

  -- each of the items is plain
  pub ArePlain : Items → Type 0
  ArePlain no_items = ⊤
  ArePlain (item d ds) = IsPlain d × ArePlain ds

  -- the value of each member is plain
  pub HavePlain : Members → Type 0
  HavePlain no_members = ⊤
  HavePlain (member k d ms) = IsPlain d × HavePlain ms

number_back : (n : Num) → IsWhole n → number_of (number_text n) ≡ Some n
number_back (unsigned n) h = number_of-decimal n h
number_back (negative (pos n)) h = absurd h
number_back (negative (negsuc n)) h = number_of-negative n h
number_back (float x) h = absurd h

mutual
  json_back : (d : Data) → IsPlain d → of_json (outline d) ≡ Some d
  json_back null h = refl
  json_back (boolean b) h = refl
  json_back (number n) h = ap (option_map (λ m. number m)) (number_back n h)
  json_back (string s) h = refl
  json_back (array ds) h = ap (option_map (λ es. array es)) (items_back ds h)
  json_back (object ms) h = ap (option_map (λ es. object es)) (members_back ms no_members h.0 ∙ ap (λ es. Some es) h.1)

  items_back : (ds : Items) → ArePlain ds → of_items (items_outline ds) ≡ Some ds
  items_back no_items h = refl
  items_back (item d ds) h =
      ap (option_and_then (λ e. option_map (λ es. item e es) (of_items (items_outline ds)))) (json_back d h.0)
      ∙ ap (option_map (λ es. item d es)) (items_back ds h.1)

  members_back : (ms found : Members) → HavePlain ms → of_members (members_outline ms) found ≡ Some (put_all ms found)
  members_back no_members found h = refl
  members_back (member k d ms) found h =
      ap (option_and_then (λ e. of_members (members_outline ms) (put k e found))) (json_back d h.0)
      ∙ members_back ms (put k d found) h.1

number_printable : (n : Num) → IsWhole n → (ts : List Token) → ArePrintable ts → ArePrintable (Token.number (number_text n) ∷ ts)
unfolding ArePrintable
number_printable (unsigned n) h ts p = (IsNumber-decimal n h, p)
number_printable (negative (pos n)) h ts p = absurd h
number_printable (negative (negsuc n)) h ts p = (IsNumber-signed_decimal (negsuc n) (omega (arith, h)), p)
number_printable (float x) h ts p = absurd h

mutual
  unfolding ArePrintable

  json_printable : (d : Data) → IsPlain d → (ts : List Token) → ArePrintable ts → ArePrintable (json_tokens (outline d) ++ ts)
  json_printable null h ts p = (tt, p)
  json_printable (boolean b) h ts p = (tt, p)
  json_printable (number n) h ts p = number_printable n h ts p
  json_printable (string s) h ts p = (tt, p)
  json_printable (array ds) h ts p = (tt, items_printable ds h ts p)
  json_printable (object ms) h ts p = (tt, members_printable ms h.0 ts p)

  items_printable : (ds : Items) → ArePlain ds → (ts : List Token) → ArePrintable ts → ArePrintable (items_tokens (items_outline ds) ++ ts)
  items_printable no_items h ts p = (tt, p)
  items_printable (item d ds) h ts p =
      subst ArePrintable (sym (append_assoc (json_tokens (outline d)) (items_tokens (items_outline ds)) ts))
      (json_printable d h.0 (items_tokens (items_outline ds) ++ ts) (items_printable ds h.1 ts p))

  members_printable : (ms : Members) → HavePlain ms → (ts : List Token) → ArePrintable ts → ArePrintable (members_tokens (members_outline ms) ++ ts)
  members_printable no_members h ts p = (tt, p)
  members_printable (member k d ms) h ts p = (
    tt,
    subst ArePrintable (sym (append_assoc (json_tokens (outline d)) (members_tokens (members_outline ms)) ts))
        (json_printable d h.0 (members_tokens (members_outline ms) ++ ts) (members_printable ms h.1 ts p)),
  )

mutual
  same_depth : (d : Data) → tree.depth (outline d) ≡ depth d
  same_depth null = refl
  same_depth (boolean b) = refl
  same_depth (number n) = refl
  same_depth (string s) = refl
  same_depth (array ds) = ap suc (items_same_depth ds)
  same_depth (object ms) = ap suc (members_same_depth ms)

  items_same_depth : (ds : Items) → tree.items_depth (items_outline ds) ≡ items_depth ds
  items_same_depth no_items = refl
  items_same_depth (item d ds) = ap₂ (λ a b. max a b) (same_depth d) (items_same_depth ds)

  members_same_depth : (ms : Members) → tree.members_depth (members_outline ms) ≡ members_depth ms
  members_same_depth no_members = refl
  members_same_depth (member k d ms) = ap₂ (λ a b. max a b) (same_depth d) (members_same_depth ms)

nothing_after : ArePrintable []
unfolding ArePrintable
nothing_after = tt

abbrev whole : Option (json.Json × List Token) → Option Data
whole o = option_and_then of_json (option_and_then (λ p. json.if_last p.0 p.1) o)

-- the round trip of a value
pub text_read_back : (d : Data) → IsPlain d → depth d ≤ 127 → read (compact_text d) ≡ Some d
text_read_back d h shallow =
    let ts = json_tokens (outline d) in
    let printed = subst ArePrintable (append-nil ts) (json_printable d h [] nothing_after) in
    let same : tokens (compact_text d) ≡ ts = ap tokens (sym (print-outline d)) ∙ tokens-print ts printed in
    ap whole (ap (json.value 127) (same ∙ sym (append-nil ts)) ∙ value-json_tokens (outline d) 127 [] (subst (λ n. n ≤ 127) (sym (same_depth d)) shallow))
    ∙ json_back d h
