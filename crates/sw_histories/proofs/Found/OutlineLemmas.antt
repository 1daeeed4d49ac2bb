-- A file's object without its entries and its rows, and where they stand.
use Rattle.std.proofs.Common.{◌≡◌, ◌∙◌, sym, ap, refl, subst, ℕ, zero, suc, ◌+◌, ◌<◌, ◌≤◌, Bool, true, false, cond, List, [], ◌∷◌, ◌++◌, length, arith, Option, Some, None, length-append, bytes_eq, true≢false}
use Rattle.std.specs.Prelude.{option_and_then, option_map}
use Rattle.std.specs.Cmp.Lexicographic.{slice_cmp}
use Rattle.std.specs.Ordering.{match_ordering}
use Rattle.std.proofs.lemmas.Slice.Eq.{bytes_eq-Decides}
use Rattle.std.proofs.lemmas.Map.Text.{is_eq-slice_cmp}
use Rattle.std.proofs.Common.{Ordering, Less, Equal, Greater, is_eq, nat_cmp}
use Rattle.std.proofs.lemmas.Option.{same_Some}
use Rattle.serde_json.proofs.Views.{get_member-put, get_member-put_other}
use Rattle.serde_json.specs.Data.{Data, Items, Members, array, boolean, member, no_members, null, number, object, put, string}
use Rattle.serde_json.specs.Events.{members_len}
use Rattle.serde_json.specs.Find.{as_array, as_object, get_member}
use Rattle.serde_json.specs.View.{items_view}
use Rattle.serde_json.specs.declared.value.Value.{Value}
use Rattle.json.specs.Token.{Token}
use Rattle.json.specs.Json.{items, members, parse_map, read_key, skip_value, value}
use Rattle.json.specs.Json as json
use Rattle.json.specs.Lex.{tokens}
use Rattle.json.proofs.Grammar.{value_is}
use Rattle.serde_json.specs.Data.{Num}
use Rattle.serde_json.specs.Read.{converted, number_of, of_items, of_json, of_members, read}
use Rattle.sw_rows.proofs.Options.{then_some}
use Rattle.sw_spine.specs.declared.spine.TheConstants.{MOST_ENTRIES}
use Rattle.sw_histories.specs.FromTokens.{IsCount}
use Rattle.sw_histories.specs.RecordReading.{array_at, items_list}
use Rattle.sw_histories.specs.Outlines.{Counts, NoObject, Stands, after_brace, after_bracket, after_key, after_member, after_members, counted_at, emptied, outline_at, outline_of, standing, values_in}
use Rattle.sw_histories.specs.declared.reading.outline.ItemsAt.{ItemsAt}
use Rattle.sw_histories.proofs.Found.ValueReading.{converted-array, converted-object, converted_some, whole}

-- ---- counts

-- as many items as values
pub list_long : (vs : List Value) → length (items_list (items_view vs)) ≡ length vs
list_long [] = refl
list_long (v ∷ vs) = ap suc (list_long vs)

-- one more item counts
pub count_more : (count : ℕ) (vs : List Value) (v : Value) → IsCount count (length vs) → count ≤ MOST_ENTRIES → IsCount (count + 1) (length (vs ++ v ∷ []))
count_more count vs v h few =
    let same : count ≡ length vs = h.0 few in
    let long : length (vs ++ v ∷ []) ≡ length vs + 1 = length-append vs (v ∷ []) in
    (λ g. omega (arith, same, long), λ g. omega (arith, same, long, g))

-- past the most no more counts
pub count_kept : (count : ℕ) (vs : List Value) (v : Value) → IsCount count (length vs) → MOST_ENTRIES < count → IsCount count (length (vs ++ v ∷ []))
count_kept count vs v h many =
    let most : MOST_ENTRIES < length vs = h.1 many in
    let long : length (vs ++ v ∷ []) ≡ length vs + 1 = length-append vs (v ∷ []) in
    (λ g. absurd (omega (arith, many, g)), λ g. omega (arith, most, long))

-- ---- members

outline_same : (k l : List ℕ) (d : Data) → k ≡ l → outline_at k d ≡ outline_at l d
outline_same k l d e = ap (λ m. outline_at m d) e

equal_keys : (k l : List ℕ) → slice_cmp nat_cmp k l ≡ Equal → k ≡ l
equal_keys k l is = (bytes_eq-Decides k l).0 (sym (is_eq-slice_cmp k l) ∙ ap is_eq is)

outline_put_at : (o : Ordering) (k l : List ℕ) (d e : Data) (ms : Members) → slice_cmp nat_cmp k l ≡ o → outline_of (put k d ms) ≡ put k (outline_at k d) (outline_of ms)
    → outline_of (match_ordering o (member k d (member l e ms)) (member l d ms) (member l e (put k d ms)))
    ≡ match_ordering o (member k (outline_at k d) (member l (outline_at l e) (outline_of ms))) (member l (outline_at k d) (outline_of ms)) (member l (outline_at l e) (put k (outline_at k d) (outline_of ms)))
outline_put_at Less k l d e ms is more = refl
outline_put_at Equal k l d e ms is more = ap (λ x. member l x (outline_of ms)) (outline_same l k d (sym (equal_keys k l is)))
outline_put_at Greater k l d e ms is more = ap (member l (outline_at l e)) more

-- a member is put into the outline as into the members
pub outline_put : (k : List ℕ) (d : Data) (ms : Members) → outline_of (put k d ms) ≡ put k (outline_at k d) (outline_of ms)
outline_put k d no_members = refl
outline_put k d (member l e ms) = outline_put_at (slice_cmp nat_cmp k l) k l d e ms refl (outline_put k d ms)

-- an outline has as many members
pub outline_long : (ms : Members) → members_len (outline_of ms) ≡ members_len ms
outline_long no_members = refl
outline_long (member k d ms) = ap suc (outline_long ms)

found_at : (o : Ordering) (f : Data → Data) (e : Data) (rest more : Option Data) → more ≡ option_map f rest → match_ordering o more (Some (f e)) more ≡ option_map f (match_ordering o rest (Some e) rest)
found_at Less f e rest more is = is
found_at Equal f e rest more is = refl
found_at Greater f e rest more is = is

match_equal : (o : Ordering) (a b c : Option Data) → (o ≡ Equal → b ≡ c) → match_ordering o a b a ≡ match_ordering o a c a
match_equal Less a b c h = refl
match_equal Equal a b c h = h refl
match_equal Greater a b c h = refl

-- what stands at a key of the outline
pub outline_get : (k : List ℕ) (ms : Members) → get_member k (outline_of ms) ≡ option_map (outline_at k) (get_member k ms)
outline_get k no_members = refl
outline_get k (member l e ms) =
    let o = slice_cmp nat_cmp k l in
    let more = get_member k (outline_of ms) in
    match_equal o more (Some (outline_at l e)) (Some (outline_at k e)) (λ is. ap (λ x. Some x) (outline_same l k e (sym (equal_keys k l is))))
    ∙ found_at o (outline_at k) e (get_member k ms) more (outline_get k ms)

-- ---- tokens

some_fst : {A B : Type 0} (a b : A) (r s : B) → ◌≡◌ {A = Option (A × B)} (Some (a, r)) (Some (b, s)) → a ≡ b
some_fst a b r s e = grind (arith, e)

numbers : (ts r : List Token) (d : Data) (o : Option Num) → option_map {U = Data × List Token} (λ b. (b, ts)) (option_map number o) ≡ Some (d, r) → as_array d ≡ None
numbers ts r d None e = absurd cc
numbers ts r d (Some n) e = ap as_array (sym (some_fst (number n) d ts r e))

objects : (r : List Token) (d : Data) (o : Option (Members × List Token)) → parse_map object o ≡ Some (d, r) → as_array d ≡ None
objects r d None e = absurd cc
objects r d (Some p) e = ap as_array (sym (some_fst (object p.0) d p.1 r e))

-- a value that begins with no bracket is no array
pub not_array : (depth : ℕ) (t : Token) (ts r : List Token) (d : Data) → after_bracket (t ∷ ts) ≡ None → converted of_json (value (suc depth) (t ∷ ts)) ≡ Some (d, r) → as_array d ≡ None
unfolding value
not_array depth Token.begin_object ts r d apart e =
    let inner = members (value depth) (length ts) ts in
    objects r d (converted (λ ms. of_members ms no_members) inner) (sym (converted-object inner) ∙ e)
not_array depth Token.end_object ts r d apart e = absurd cc
not_array depth Token.begin_array ts r d apart e = absurd cc
not_array depth Token.end_array ts r d apart e = absurd cc
not_array depth (Token.key s) ts r d apart e = absurd cc
not_array depth (Token.string s) ts r d apart e = ap as_array (sym (some_fst (string s) d ts r e))
not_array depth (Token.number s) ts r d apart e = numbers ts r d (number_of s) e
not_array depth (Token.boolean b) ts r d apart e = ap as_array (sym (some_fst (boolean b) d ts r e))
not_array depth Token.null ts r d apart e = ap as_array (sym (some_fst null d ts r e))
not_array depth Token.bad ts r d apart e = absurd cc

-- what is no array stays as it is
pub kept : (d : Data) → as_array d ≡ None → emptied d ≡ d
kept null none = refl
kept (boolean b) none = refl
kept (number n) none = refl
kept (string s) none = refl
kept (array ds) none = absurd cc
kept (object ms) none = refl

-- ---- where items stand

-- the tokens begin with this key, and these come behind it
abbrev pub here : List Token → List ℕ → List Token → Type 0
here us k s = read_key us ≡ Some (Some k, s)

-- a key is passed
pub key_passed : (us s : List Token) (k : List ℕ) → here us k s → after_key us ≡ Some s
key_passed us s k e = ap (option_and_then (λ p. option_map (λ k. p.1) p.0)) e

-- a member is passed
pub member_passed : (us s r : List Token) (k : List ℕ) (d : Data) → here us k s → converted of_json (value 126 s) ≡ Some (d, r) → after_member us ≡ Some r
member_passed us s r k d e is =
    let j = converted_some of_json (value 126 s) d r is in
    ap (option_and_then (skip_value 126)) (key_passed us s k e) ∙ ap (option_map (λ p. p.1)) j.1

-- one more member is passed
pub members_passed : (n : ℕ) (ts us r : List Token) → after_members n ts ≡ Some us → after_member us ≡ Some r → after_members (n + 1) ts ≡ Some r
members_passed zero ts us r is more =
    let same : ts ≡ us = same_Some ts us is in
    ap (option_and_then (after_members 0)) (ap after_member same ∙ more)
members_passed (suc n) ts us r is more =
    let first = then_some {A = List Token} {B = List Token} (after_members n) (after_member ts) us is in
    let grown : suc n + 1 ≡ suc (n + 1) = omega arith in
    ap (λ m. after_members m ts) grown ∙ ap (option_and_then (after_members (n + 1))) first.1 ∙ members_passed n first.0 us r first.2 more

array_put : (sought name : List ℕ) (d : Data) (ms : Members) → name ≡ sought → array_at sought (object (put name d ms)) ≡ option_map items_list (as_array d)
array_put sought name d ms is =
    ap (λ o. option_map items_list (option_and_then as_array o)) (ap (λ k. get_member k (put name d ms)) (sym is) ∙ get_member-put name d ms)

stands_here : (sought name : List ℕ) (counted : Option ℕ) (place : ℕ) (d : Data) (ms : Members) (ts us s : List Token)
    → after_members place ts ≡ Some us → here us name s → name ≡ sought → Counts counted d s
    → Stands sought (counted_at place counted) (put name d ms) ts
stands_here sought name None place d ms ts us s passed key is counts = array_put sought name d ms is ∙ ap (option_map items_list) counts
stands_here sought name (Some n) place d ms ts us s passed key is counts =
    let at =
    ap (λ o. option_and_then values_in (option_and_then after_bracket (option_and_then after_key o))) passed
    ∙ ap (λ o. option_and_then values_in (option_and_then after_bracket o)) (key_passed us s name key) in
    (counts.0, array_put sought name d ms is ∙ counts.1, at ∙ counts.2, counts.3)

array_kept : (sought name : List ℕ) (d : Data) (ms : Members) → (sought ≡ name → ⊥) → array_at sought (object (put name d ms)) ≡ array_at sought (object ms)
array_kept sought name d ms other = ap (λ o. option_map items_list (option_and_then as_array o)) (get_member-put_other sought name d ms other)

stands_else : (sought : List ℕ) (before : Option ItemsAt) (name : List ℕ) (d : Data) (ms : Members) (ts : List Token)
    → (sought ≡ name → ⊥) → Stands sought before ms ts → Stands sought before (put name d ms) ts
stands_else sought None name d ms ts other stands = array_kept sought name d ms other ∙ stands
stands_else sought (Some i) name d ms ts other stands = (stands.0, array_kept sought name d ms other ∙ stands.1, stands.2, stands.3)

stands_at : (b : Bool) (sought : List ℕ) (before : Option ItemsAt) (name : List ℕ) (counted : Option ℕ) (place : ℕ) (d : Data) (ms : Members) (ts us s : List Token)
    → bytes_eq name sought ≡ b → after_members place ts ≡ Some us → here us name s → (name ≡ sought → Counts counted d s)
    → Stands sought before ms ts → Stands sought (cond b (counted_at place counted) before) (put name d ms) ts
stands_at true sought before name counted place d ms ts us s is passed key counts stands =
    let same : name ≡ sought = (bytes_eq-Decides name sought).0 is in
    stands_here sought name counted place d ms ts us s passed key same (counts same)
stands_at false sought before name counted place d ms ts us s is passed key counts stands =
    stands_else sought before name d ms ts (λ same. true≢false (sym ((bytes_eq-Decides name sought).1 (sym same)) ∙ is)) stands

-- what is sought stands there, or was met before
pub stands_more : (sought : List ℕ) (before : Option ItemsAt) (name : List ℕ) (counted : Option ℕ) (place : ℕ) (d : Data) (ms : Members) (ts us s : List Token)
    → after_members place ts ≡ Some us → here us name s → (name ≡ sought → Counts counted d s)
    → Stands sought before ms ts → Stands sought (standing sought before name place counted) (put name d ms) ts
stands_more sought before name counted place d ms ts us s passed key counts stands =
    stands_at (bytes_eq name sought) sought before name counted place d ms ts us s refl passed key counts stands

-- a value that begins with no brace is no object
pub not_object : (depth : ℕ) (t : Token) (ts r : List Token) (d : Data) → after_brace (t ∷ ts) ≡ None → converted of_json (value (suc depth) (t ∷ ts)) ≡ Some (d, r) → as_object d ≡ None
unfolding value
not_object depth Token.begin_object ts r d apart e = absurd cc
not_object depth Token.end_object ts r d apart e = absurd cc
not_object depth Token.begin_array ts r d apart e =
    let inner = items (value depth) (length ts) ts in
    arrays r d (converted of_items inner) (sym (converted-array inner) ∙ e)
  where
    arrays : (r : List Token) (d : Data) (o : Option (Items × List Token)) → parse_map array o ≡ Some (d, r) → as_object d ≡ None
    arrays r d None e = absurd cc
    arrays r d (Some p) e = ap as_object (sym (some_fst (array p.0) d p.1 r e))
not_object depth Token.end_array ts r d apart e = absurd cc
not_object depth (Token.key s) ts r d apart e = absurd cc
not_object depth (Token.string s) ts r d apart e = ap as_object (sym (some_fst (string s) d ts r e))
not_object depth (Token.number s) ts r d apart e = numbers (number_of s) e
  where
    numbers : (o : Option Num) → option_map {U = Data × List Token} (λ b. (b, ts)) (option_map number o) ≡ Some (d, r) → as_object d ≡ None
    numbers None e = absurd cc
    numbers (Some n) e = ap as_object (sym (some_fst (number n) d ts r e))
not_object depth (Token.boolean b) ts r d apart e = ap as_object (sym (some_fst (boolean b) d ts r e))
not_object depth Token.null ts r d apart e = ap as_object (sym (some_fst null d ts r e))
not_object depth Token.bad ts r d apart e = absurd cc

-- ---- the whole text

whole_other : (o : Option (json.Json × List Token)) → ((d : Data) (r : List Token) → converted of_json o ≡ Some (d, r) → as_object d ≡ None) → NoObject (whole o)
whole_other None h = tt
whole_other (Some (j, [])) h = alone (of_json j) refl
  where
    alone : (x : Option Data) → of_json j ≡ x → NoObject x
    alone None e = tt
    alone (Some d) e = h d [] (ap (option_map {U = Data × List Token} (λ b. (b, []))) e)
whole_other (Some (j, t ∷ r)) h = tt

-- a text that begins with no brace is no object
pub no_brace : (text : List ℕ) → after_brace (tokens text) ≡ None → NoObject (read text)
no_brace text apart = whole_other (value 127 (tokens text)) (at (tokens text) apart)
  where
    at : (ts : List Token) → after_brace ts ≡ None → (d : Data) (r : List Token) → converted of_json (value 127 ts) ≡ Some (d, r) → as_object d ≡ None
    at [] apart d r e = absurd (empty d r e)
      where
        empty : (d : Data) (r : List Token) → converted of_json (value 127 []) ≡ Some (d, r) → ⊥
        empty d r e = let none : converted of_json (value 127 []) ≡ None = ap (converted of_json) (value_is 127 []) in absurd cc
    at (t ∷ ts) apart d r e = not_object 126 t ts r d apart e

-- no value is no object
pub none_of : (o : Option Data) → o ≡ None → NoObject o
none_of o e = subst NoObject (sym e) tt
