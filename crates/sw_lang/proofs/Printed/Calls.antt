-- The texts of calls, as the writers put them together.
use Rattle.std.proofs.Common.{◌≡◌, ◌∙◌, ap, sym, refl, ℕ, ℤ, ◌≤◌, Bool, true, false, ◌||◌, List, [], ◌∷◌, ◌++◌, length, map, take, codes, Option, Some, None, is_some, arith, append_assoc, append-nil, if◌then◌else◌}
use Rattle.std.specs.List.{flat_map}
use Rattle.std.proofs.lemmas.Bool.Decides.{Decides-int_eq}
use Rattle.std.proofs.lemmas.List.Concat.{flat_map-cons}
use Rattle.std.specs.Ordering.{int_eq}
use Rattle.sw_rows.specs.Domains.{is_of_texts}
use Rattle.sw_rows.specs.Header.{Column, kinds_of}
use Rattle.sw_query.specs.declared.bound.Bound.{Bound}
use Rattle.sw_query.specs.declared.bound.Bound.TheVariants.{Before, After}
use Rattle.sw_query.specs.declared.query.Cond.{Cond}
use Rattle.sw_lang.specs.PrintedCalls.{comparison, cond_terms, equal_terms, joiner, lower_terms, more_names, terms_text, text_terms, upper_terms, where_text}
use Rattle.sw_lang.specs.Replies.{kind_at}

-- the first of some further names
pub names_first : {X : Type 0} (f : X → List ℕ) (x : X) (xs all : List X) → all ≡ x ∷ xs → more_names (map f all) ≡ (codes ", " ++ f x) ++ more_names (map f xs)
names_first f x xs all e = ap (λ l. more_names (map f l)) e ∙ flat_map-cons (λ n. codes ", " ++ n) (f x) (map f xs)

are_some : List (List ℕ) → Bool
are_some [] = false
are_some (t ∷ ts) = true

terms_append : (s : Bool) (xs ys : List (List ℕ)) → terms_text s (xs ++ ys) ≡ terms_text s xs ++ terms_text (s || are_some xs) ys
unfolding are_some
terms_append true [] ys = refl
terms_append false [] ys = refl
terms_append true (x ∷ xs) ys = ap (λ w. (joiner true ++ x) ++ w) (terms_append true xs ys) ∙ sym (append_assoc (joiner true ++ x) (terms_text true xs) (terms_text true ys))
terms_append false (x ∷ xs) ys = ap (λ w. (joiner false ++ x) ++ w) (terms_append true xs ys) ∙ sym (append_assoc (joiner false ++ x) (terms_text true xs) (terms_text true ys))

some_lower : (columns : List Column) (a : ℕ) (o : Option Bound) → are_some (lower_terms columns a o) ≡ is_some o
unfolding are_some
some_lower columns a None = refl
some_lower columns a (Some (Before v)) = refl
some_lower columns a (Some (After v)) = refl

some_upper : (columns : List Column) (a : ℕ) (o : Option Bound) → are_some (upper_terms columns a o) ≡ is_some o
unfolding are_some
some_upper columns a None = refl
some_upper columns a (Some (Before v)) = refl
some_upper columns a (Some (After v)) = refl

some_append : (xs ys : List (List ℕ)) → are_some (xs ++ ys) ≡ (are_some xs || are_some ys)
unfolding are_some
some_append [] ys = refl
some_append (x ∷ xs) ys = refl

some_bounds : (columns : List Column) (a : ℕ) (lower upper : Option Bound) → are_some (lower_terms columns a lower ++ upper_terms columns a upper) ≡ (is_some lower || is_some upper)
some_bounds columns a lower upper =
    some_append (lower_terms columns a lower) (upper_terms columns a upper)
    ∙ ap (λ b. b || are_some (upper_terms columns a upper)) (some_lower columns a lower)
    ∙ ap (λ b. is_some lower || b) (some_upper columns a upper)

some_equal : (v : Bool) (columns : List Column) (a : ℕ) (x y : ℤ) → int_eq x y ≡ v → are_some (equal_terms columns a x y) ≡ true
unfolding are_some
some_equal true columns a x y e = rw e refl
some_equal false columns a x y e = rw e refl

some_text : (columns : List Column) (a : ℕ) (lower upper : Option Bound) → are_some (text_terms columns a lower upper) ≡ (is_some lower || is_some upper)
unfolding are_some
some_text columns a None upper = some_upper columns a upper
some_text columns a (Some (After v)) upper = refl
some_text columns a (Some (Before v)) None = refl
some_text columns a (Some (Before v)) (Some (Before w)) = refl
some_text columns a (Some (Before v)) (Some (After w)) = some_equal (int_eq v w) columns a v w refl

some_cond-by : (v : Bool) (columns : List Column) (c : Cond) → is_of_texts (kind_at columns c.attr) ≡ v → are_some (cond_terms columns c) ≡ (is_some c.lower || is_some c.upper)
some_cond-by true columns c e = rw e (some_text columns c.attr c.lower c.upper)
some_cond-by false columns c e = rw e (some_bounds columns c.attr c.lower c.upper)

some_cond : (columns : List Column) (c : Cond) → are_some (cond_terms columns c) ≡ (is_some c.lower || is_some c.upper)
some_cond columns c = some_cond-by (is_of_texts (kind_at columns c.attr)) columns c refl

-- bounds that are not those of equality
abbrev pub AreOther : Option Bound → Option Bound → Type 0
AreOther None upper = Unit {0}
AreOther (Some (After v)) upper = Unit {0}
AreOther (Some (Before v)) None = Unit {0}
AreOther (Some (Before v)) (Some (Before w)) = Unit {0}
AreOther (Some (Before v)) (Some (After w)) = ⊥

-- of them the comparisons are as for numbers
pub other_text : (columns : List Column) (a : ℕ) (lower upper : Option Bound) → AreOther lower upper → text_terms columns a lower upper ≡ lower_terms columns a lower ++ upper_terms columns a upper
other_text columns a None upper h = refl
other_text columns a (Some (After v)) upper h = refl
other_text columns a (Some (Before v)) None h = refl
other_text columns a (Some (Before v)) (Some (Before w)) h = refl
other_text columns a (Some (Before v)) (Some (After w)) h = absurd h

-- comparisons of bounds are that of the lower one and that of the upper one
pub bounds_split : (columns : List Column) (s : Bool) (c : Cond) → terms_text s (lower_terms columns c.attr c.lower ++ upper_terms columns c.attr c.upper) ≡ terms_text s (lower_terms columns c.attr c.lower) ++ terms_text (s || is_some c.lower) (upper_terms columns c.attr c.upper)
bounds_split columns s c =
    terms_append s (lower_terms columns c.attr c.lower) (upper_terms columns c.attr c.upper)
    ∙ ap (λ b. terms_text s (lower_terms columns c.attr c.lower) ++ terms_text (s || b) (upper_terms columns c.attr c.upper)) (some_lower columns c.attr c.lower)

-- the comparison with a first text, and perhaps that with another
abbrev equal_more : (columns : List Column) (a : ℕ) (v w : ℤ) → List (List ℕ)
equal_more columns a v w = if int_eq v w then [] else comparison columns a (codes " = ") w ∷ []

equal_by : (b : Bool) (columns : List Column) (s : Bool) (a : ℕ) (v w : ℤ) → int_eq v w ≡ b → terms_text s (equal_terms columns a v w) ≡ (joiner s ++ comparison columns a (codes " = ") v) ++ terms_text true (equal_more columns a v w)
equal_by true columns s a v w e = rw e refl
equal_by false columns s a v w e = rw e refl

-- an equality with one bound or two begins with the comparison by =
pub equal_first : (columns : List Column) (s : Bool) (a : ℕ) (v w : ℤ) → terms_text s (equal_terms columns a v w) ≡ (joiner s ++ comparison columns a (codes " = ") v) ++ terms_text true (equal_more columns a v w)
equal_first columns s a v w = equal_by (int_eq v w) columns s a v w refl

apart : (b : Bool) (v w : ℤ) → int_eq v w ≡ b → (v ≡ w → ⊥) → b ≡ false
apart true v w e other = absurd (other ((Decides-int_eq v w).0 e))
apart false v w e other = refl

-- with two bounds that differ it is two comparisons
pub equal_two : (columns : List Column) (s : Bool) (a : ℕ) (v w : ℤ) → (v ≡ w → ⊥) → terms_text s (equal_terms columns a v w) ≡ (joiner s ++ comparison columns a (codes " = ") v) ++ (joiner true ++ comparison columns a (codes " = ") w)
equal_two columns s a v w other = rw (apart (int_eq v w) v w refl other) (ap (λ l. (joiner s ++ comparison columns a (codes " = ") v) ++ l) (append-nil (joiner true ++ comparison columns a (codes " = ") w)))

-- the first of some conditions
pub conds_first : (columns : List Column) (s : Bool) (c : Cond) (cs all : List Cond) → all ≡ c ∷ cs → where_text columns s all ≡ terms_text s (cond_terms columns c) ++ where_text columns (s || (is_some c.lower || is_some c.upper)) cs
conds_first columns s c cs all e =
    ap (λ l. where_text columns s l) e
    ∙ ap (terms_text s) (flat_map-cons (cond_terms columns) c cs)
    ∙ terms_append s (cond_terms columns c) (flat_map (cond_terms columns) cs)
    ∙ ap (λ b. terms_text s (cond_terms columns c) ++ terms_text (s || b) (flat_map (cond_terms columns) cs)) (some_cond columns c)

-- the kinds of the attributes 0, 1, 2 and so on are those of the columns
pub kinds_all : (columns : List Column) → length columns ≤ 8 → map (kind_at columns) (take (length columns) (0 ∷ 1 ∷ 2 ∷ 3 ∷ 4 ∷ 5 ∷ 6 ∷ 7 ∷ [])) ≡ kinds_of columns
kinds_all [] h = refl
kinds_all (a ∷ []) h = refl
kinds_all (a ∷ b ∷ []) h = refl
kinds_all (a ∷ b ∷ c ∷ []) h = refl
kinds_all (a ∷ b ∷ c ∷ d ∷ []) h = refl
kinds_all (a ∷ b ∷ c ∷ d ∷ e ∷ []) h = refl
kinds_all (a ∷ b ∷ c ∷ d ∷ e ∷ f ∷ []) h = refl
kinds_all (a ∷ b ∷ c ∷ d ∷ e ∷ f ∷ g ∷ []) h = refl
kinds_all (a ∷ b ∷ c ∷ d ∷ e ∷ f ∷ g ∷ i ∷ []) h = refl
kinds_all (a ∷ b ∷ c ∷ d ∷ e ∷ f ∷ g ∷ i ∷ j ∷ cs) h = absurd (omega arith)
