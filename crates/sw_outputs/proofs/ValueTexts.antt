-- The text of a JSON value is what `json` prints for its tokens, and reads as the value.
use Rattle.std.proofs.Common.{◌≡◌, ◌∙◌, ap, sym, ℕ, ◌≤◌, Bool, true, false, List, [], ◌∷◌, ◌++◌, Some, append_assoc, append-nil, refl}
use Rattle.json.specs.Token.{Token}
use Rattle.json.specs.Print.{print, print_from, quoted}
use Rattle.json.specs.Json.{Json, null, boolean, number, string, array, object, Items, no_items, item, Members, no_members, member, document, max_depth}
use Rattle.json.specs.Tree.{HasNumbers, depth, json_tokens, items_tokens, members_tokens}
use Rattle.json.proofs.Printed.Trees.{document-print}
use Rattle.sw_outputs.specs.Texts.{comma_if, items_text, members_text, value_text}

regroup : (q a b c : List ℕ) → (q ++ 58 ∷ []) ++ (a ++ (b ++ c)) ≡ (q ++ 58 ∷ (a ++ b)) ++ c
regroup q a b c = append_assoc q _ _ ∙ sym (append_assoc q _ c ∙ ap (λ s. q ++ 58 ∷ s) (append_assoc a b c))

regroup_item : (q a b c : List ℕ) → q ++ (a ++ (b ++ c)) ≡ (q ++ (a ++ b)) ++ c
regroup_item q a b c = simp append_assoc

print_member : (k : List ℕ) (j : Json) (ms : Members) (ts : List Token)
    → print_from false (json_tokens j ++ (members_tokens ms ++ ts)) ≡ value_text j ++ print_from true (members_tokens ms ++ ts)
    → print_from true (members_tokens ms ++ ts) ≡ members_text true ms ++ print_from true ts
    → (quoted k ++ 58 ∷ []) ++ print_from false ((json_tokens j ++ members_tokens ms) ++ ts) ≡ (quoted k ++ 58 ∷ (value_text j ++ members_text true ms)) ++ print_from true ts
print_member k j ms ts value rest =
    let whole = ap (print_from false) (append_assoc (json_tokens j) (members_tokens ms) ts) ∙ value in
    ap (λ s. (quoted k ++ 58 ∷ []) ++ s) (whole ∙ ap (λ s. value_text j ++ s) rest) ∙ regroup (quoted k) (value_text j) (members_text true ms) (print_from true ts)

mutual
  unfolding print_from

  print_value : (later : Bool) (j : Json) (ts : List Token) → print_from later (json_tokens j ++ ts) ≡ comma_if later ++ (value_text j ++ print_from true ts)
  print_value true null ts = refl
  print_value false null ts = refl
  print_value true (boolean true) ts = refl
  print_value true (boolean false) ts = refl
  print_value false (boolean true) ts = refl
  print_value false (boolean false) ts = refl
  print_value true (number n) ts = refl
  print_value false (number n) ts = refl
  print_value true (string s) ts = refl
  print_value false (string s) ts = refl
  print_value true (array js) ts = ap (λ s. 44 ∷ 91 ∷ s) (print_items false js ts)
  print_value false (array js) ts = ap (λ s. 91 ∷ s) (print_items false js ts)
  print_value true (object ms) ts = ap (λ s. 44 ∷ 123 ∷ s) (print_members false ms ts)
  print_value false (object ms) ts = ap (λ s. 123 ∷ s) (print_members false ms ts)

  print_items : (later : Bool) (js : Items) (ts : List Token) → print_from later (items_tokens js ++ ts) ≡ items_text later js ++ print_from true ts
  print_items true no_items ts = refl
  print_items false no_items ts = refl
  print_items later (item j js) ts =
      let rest = items_tokens js in
      ap (print_from later) (append_assoc (json_tokens j) rest ts) ∙ print_value later j (rest ++ ts) ∙ ap (λ s. comma_if later ++ (value_text j ++ s)) (print_items true js ts)
      ∙ regroup_item (comma_if later) (value_text j) (items_text true js) (print_from true ts)

  print_members : (later : Bool) (ms : Members) (ts : List Token) → print_from later (members_tokens ms ++ ts) ≡ members_text later ms ++ print_from true ts
  print_members true no_members ts = refl
  print_members false no_members ts = refl
  print_members true (member k j ms) ts = ap (λ s. 44 ∷ s) (print_member k j ms ts (print_value false j (members_tokens ms ++ ts)) (print_members true ms ts))
  print_members false (member k j ms) ts = print_member k j ms ts (print_value false j (members_tokens ms ++ ts)) (print_members true ms ts)

-- what `json` prints for a value's tokens is its text
pub value_printed : (j : Json) → print (json_tokens j) ≡ value_text j
unfolding print_from
value_printed j = ap print (sym (append-nil (json_tokens j))) ∙ print_value false j [] ∙ append-nil (value_text j)

-- the text reads as the value
pub value_read : (j : Json) → HasNumbers j → depth j ≤ max_depth → document (value_text j) ≡ Some j
value_read j numbers shallow = ap document (sym (value_printed j)) ∙ document-print j numbers shallow
