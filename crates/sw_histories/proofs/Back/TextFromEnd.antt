-- A record's text is made from its end: items are put before it, the last one first.
use Rattle.std.proofs.Common.{◌≡◌, ◌∙◌, sym, ap, refl, ℕ, Bool, true, false, not, List, [], ◌∷◌, ◌++◌, ◌==◌, append_assoc, arith, codes, decimal, length, map}
use Rattle.std.proofs.lemmas.Bool.Decides.{nat_tests}
use Rattle.serde_json.specs.Data.{Data}
use Rattle.serde_json.specs.View.{items_of}
use Rattle.serde_json.specs.Written.{comma_if, compact_text, items_text}
use Rattle.sw_rows.specs.Header.{kinds_of}
use Rattle.sw_spine.specs.History.{History}
use Rattle.sw_histories.specs.RecordText.{attributes_data, before_text, behind_text, closing_text, entries_data, entry_data, format_of, item_text, items_then, list_data, numbers_text, opening_text, record_text, rows_data}
use Rattle.sw_histories.proofs.Back.RecordTextLemmas.{whole_text}

-- behind an item each is a later one
later_more : {A : Type 0} (f : A → Data) (xs : List A) (x : A) (after : List ℕ) → items_then true (map f (xs ++ x ∷ [])) after ≡ items_then true (map f xs) (item_text true (f x) ++ after)
later_more f [] x after = refl
later_more f (y ∷ xs) x after = ap (λ t. item_text true (f y) ++ t) (later_more f xs x after)

-- an item is a later one where there are others before it
last_item : {A : Type 0} (f : A → Data) (xs : List A) (x : A) (after : List ℕ) → items_then false (map f (xs ++ x ∷ [])) after ≡ items_then false (map f xs) (item_text (not (length xs == 0)) (f x) ++ after)
last_item f [] x after = refl
last_item f (y ∷ xs) x after =
    let some : not (length (y ∷ xs) == 0) ≡ true = grind (arith, nat_tests) in
    ap (λ t. item_text false (f y) ++ t) (later_more f xs x after)
    ∙ ap (λ b. item_text false (f y) ++ items_then true (map f xs) (item_text b (f x) ++ after)) (sym some)

-- the last item of a list is put before a text
pub one_taken : {A : Type 0} (f : A → Data) (all left : List A) (x : A) (is_later : Bool) (old new : List ℕ) → all ≡ left ++ x ∷ [] → is_later ≡ not (length left == 0) → new ≡ item_text is_later (f x) ++ old → items_then false (map f left) new ≡ items_then false (map f all) old
one_taken f all left x is_later old new split later put =
    ap (items_then false (map f left)) (put ∙ ap (λ b. item_text b (f x) ++ old) later)
    ∙ sym (last_item f left x old)
    ∙ ap (λ l. items_then false (map f l) old) (sym split)

-- items before a bracket
items_closed : (is_later : Bool) (ds : List Data) (after : List ℕ) → items_then is_later ds (93 ∷ after) ≡ items_text is_later (items_of ds) ++ after
items_closed is_later [] after = refl
items_closed is_later (d ∷ ds) after =
    let rest = items_text true (items_of ds) in
    ap (λ t. item_text is_later d ++ t) (items_closed true ds after)
    ∙ append_assoc (comma_if is_later) (compact_text d) (rest ++ after)
    ∙ ap (λ t. comma_if is_later ++ t) (sym (append_assoc (compact_text d) rest after))
    ∙ sym (append_assoc (comma_if is_later) (compact_text d ++ rest) after)

-- items between brackets are an array
array_closed : (ds : List Data) (after : List ℕ) → 91 ∷ items_then false ds (93 ∷ after) ≡ compact_text (list_data ds) ++ after
array_closed ds after = ap (λ t. 91 ∷ t) (items_closed false ds after)

around : (x a y e z f u l w r end : List ℕ) → ((x ++ a) ++ y) ++ (e ++ ((((((z ++ f) ++ u) ++ l) ++ w) ++ r) ++ end)) ≡ x ++ (a ++ (y ++ (e ++ (z ++ (f ++ (u ++ (l ++ (w ++ (r ++ end)))))))))
around x a y e z f u l w r end =
    let behind = append_assoc ((((z ++ f) ++ u) ++ l) ++ w) r end
    ∙ append_assoc (((z ++ f) ++ u) ++ l) w (r ++ end)
    ∙ append_assoc ((z ++ f) ++ u) l (w ++ (r ++ end))
    ∙ append_assoc (z ++ f) u (l ++ (w ++ (r ++ end)))
    ∙ append_assoc z f (u ++ (l ++ (w ++ (r ++ end)))) in
    ap (λ t. ((x ++ a) ++ y) ++ (e ++ t)) behind
    ∙ append_assoc (x ++ a) y (e ++ (z ++ (f ++ (u ++ (l ++ (w ++ (r ++ end)))))))
    ∙ append_assoc x a (y ++ (e ++ (z ++ (f ++ (u ++ (l ++ (w ++ (r ++ end))))))))

-- the text of a record, whose entries' items were put before what stands behind them
pub record_from_end : (h : History) → before_text h.columns ++ items_then false (map (entry_data h.columns) h.entries) (behind_text (format_of h.columns h.entries) h) ≡ record_text h
unfolding record_text
record_from_end h =
    let a = attributes_data h.columns in
    let e = entries_data h.columns h.entries in
    let r = rows_data (kinds_of h.columns) h.rows in
    let f = format_of h.columns h.entries in
    let ds = map (entry_data h.columns) h.entries in
    let behind = closing_text (numbers_text [] f h.limit) h.columns h.rows in
    append_assoc (opening_text [] h.columns) (91 ∷ []) (items_then false ds (93 ∷ behind))
    ∙ ap (λ t. opening_text [] h.columns ++ t) (array_closed ds behind)
    ∙ around (codes "{\"attributes\":") (compact_text a) (codes ",\"entries\":") (compact_text e) (codes ",\"format\":") (decimal f) (codes ",\"limit\":") (decimal h.limit) (codes ",\"rows\":") (compact_text r) (codes "}")
    ∙ sym (whole_text a e r f h.limit)
