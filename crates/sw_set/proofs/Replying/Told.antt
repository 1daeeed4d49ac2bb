-- What is chosen of a column is the column of what is chosen; truth values of a test; ranges.
use Rattle.std.proofs.Common.{◌≡◌, ◌∙◌, ap, sym, refl, ℕ, zero, suc, ◌+◌, ◌-◌, ◌<◌, ◌≤◌, Bool, true, false, cond, ◌&&◌, List, [], ◌∷◌, map, replicate, length, get_or, take, drop, slice_range, count_by, ℤ, pos, Option, Some, None, Result, Ok, Err, MatchResult, IfOk, arith}
use Rattle.std.proofs.lemmas.List.{length-map, get_or-map, get_or-drop, length-drop, length-take}
use Rattle.std.proofs.lemmas.List.Sums.{sum_by-append}
use Rattle.std.proofs.lemmas.List.Folds.{list_all_more}
use Rattle.sw_query.specs.declared.query.Cond.{Cond}
use Rattle.sw_table.specs.declared.row.Row.{Row}
use Rattle.sw_query.specs.Bounds.{is_within}
use Rattle.sw_query.specs.Scan.{cell_of, column, meets, meets_all}
use Rattle.sw_table.specs.Kept.{kept}
use Rattle.sw_set.specs.Choice.{chosen, count_chosen, further, AreFor, AreOf}

kept-map : {A B : Type 0} (f : A → B) (bs : List Bool) (xs : List A) → kept bs (map f xs) ≡ map f (kept bs xs)
kept-map f [] xs = refl
kept-map f (b ∷ bs) [] = refl
kept-map f (true ∷ bs) (x ∷ xs) = ap (λ v. f x ∷ v) (kept-map f bs xs)
kept-map f (false ∷ bs) (x ∷ xs) = kept-map f bs xs

-- what is chosen of a mapped list is what is chosen of the list, mapped
pub chosen-map : {A B : Type 0} (f : A → B) (o : Option (List Bool)) (xs : List A) → chosen o (map f xs) ≡ map f (chosen o xs)
chosen-map f None xs = refl
chosen-map f (Some bs) xs = kept-map f bs xs

kept-count : {A : Type 0} (bs : List Bool) (xs : List A) → length bs ≡ length xs → count_by (λ b. b) bs ≡ length (kept bs xs)
kept-count [] [] e = refl
kept-count [] (x ∷ xs) e = let no : 0 ≡ suc (length xs) = e in absurd (omega arith)
kept-count (b ∷ bs) [] e = let no : suc (length bs) ≡ 0 = e in absurd (omega arith)
kept-count (true ∷ bs) (x ∷ xs) e =
    let h = kept-count bs xs (omega arith) in
    let parts : count_by (λ (b : Bool). b) (true ∷ bs) ≡ 1 + count_by (λ (b : Bool). b) bs = sum_by-append (λ (b : Bool). cond b 1 0) (true ∷ []) bs in
    parts ∙ (let q : 1 + count_by (λ (b : Bool). b) bs ≡ suc (length (kept bs xs)) = omega (arith, h) in q)
kept-count (false ∷ bs) (x ∷ xs) e =
    let h = kept-count bs xs (omega arith) in
    let parts : count_by (λ (b : Bool). b) (false ∷ bs) ≡ 0 + count_by (λ (b : Bool). b) bs = sum_by-append (λ (b : Bool). cond b 1 0) (false ∷ []) bs in
    parts ∙ (let q : 0 + count_by (λ (b : Bool). b) bs ≡ length (kept bs xs) = omega (arith, h) in q)

-- as many items are chosen as are counted
pub chosen-count : {A : Type 0} (o : Option (List Bool)) (xs : List A) → AreFor (length xs) o → count_chosen o (length xs) ≡ length (chosen o xs)
chosen-count None xs h = refl
chosen-count (Some bs) xs h = kept-count bs xs h

-- a range within a list has as many items as there are places from its start up to below its end
pub range-long : {A : Type 0} (xs : List A) (from upto : ℕ) → from ≤ upto → upto ≤ length xs → length (slice_range xs from upto) ≡ upto - from
range-long xs from upto le within = omega (arith, length-take (upto - from) (drop from xs), length-drop from xs)

-- the item at a place of a range stands that far behind the range's start in the list
pub range-at : {A : Type 0} (xs : List A) (from upto j : ℕ) (d : A) → j < upto - from → get_or (slice_range xs from upto) j d ≡ get_or xs (from + j) d
range-at xs from upto j d lt = taken (drop from xs) (upto - from) j d lt ∙ get_or-drop from xs j d
  where
    taken : {A : Type 0} (ys : List A) (n j : ℕ) (d : A) → j < n → get_or (take n ys) j d ≡ get_or ys j d
    taken ys zero j d lt = absurd (omega arith)
    taken [] (suc n) j d lt = refl
    taken (y ∷ ys) (suc n) zero d lt = refl
    taken (y ∷ ys) (suc n) (suc j) d lt = taken ys n j d (omega arith)

-- the truth values of a test over items are as many as the items, if there are any
pub are-for : {A : Type 0} (q : A → Bool) (xs : List A) (o : Option (List Bool)) → AreOf q xs o → AreFor (length xs) o
are-for q xs None h = tt
are-for q xs (Some bs) h = ap length h ∙ length-map xs q

-- ---- truth values, condition by condition

-- lists of truth values that are as long as each other and alike at each place are the same
pub same-list : (xs ys : List Bool) → length xs ≡ length ys → ((k : ℕ) → k < length xs → get_or xs k false ≡ get_or ys k false) → xs ≡ ys
same-list [] [] e h = refl
same-list [] (y ∷ ys) e h = let no : 0 ≡ suc (length ys) = e in absurd (omega arith)
same-list (x ∷ xs) [] e h = let no : suc (length xs) ≡ 0 = e in absurd (omega arith)
same-list (x ∷ xs) (y ∷ ys) e h =
    let first = h 0 (omega arith) in
    let rest = same-list xs ys (omega arith) (λ k l. h (suc k) (omega arith)) in
    cc

-- as many truth values that are true as there are items are those of a test that each passes
pub all-true : {A : Type 0} (xs : List A) (n : ℕ) → n ≡ length xs → replicate n true ≡ map (λ _. true) xs
all-true [] n e = ap (λ (k : ℕ). replicate k true) e
all-true (x ∷ xs) n e = ap (λ (k : ℕ). replicate k true) e ∙ ap (λ v. true ∷ v) (all-true xs (length xs) refl)

-- truth values of some conditions, refined by the next one, are those of one condition more
pub refined-step : (range : List Row) (conds : List Cond) (i : ℕ) (c e : Cond) (old new : List Bool) (cells : List ℤ) → i < length conds → c ≡ get_or conds i e → old ≡ map (meets_all (take i conds)) range → cells ≡ column c.attr range → length new ≡ length old → ((k : ℕ) → k < length old → get_or new k false ≡ (get_or old k false && is_within c.lower c.upper (get_or cells k (pos 0)))) → new ≡ map (meets_all (take (i + 1) conds)) range
refined-step range conds i c e old new cells lt at was are long each =
    let many : length old ≡ length range = ap length was ∙ length-map range (meets_all (take i conds)) in
    let goal_long : length (map (meets_all (take (i + 1) conds)) range) ≡ length range = length-map range (meets_all (take (i + 1) conds)) in
    same-list new (map (meets_all (take (i + 1) conds)) range) (omega (arith, many, goal_long, long)) (λ k l. at-row (record { key = 0; cells = [] }) k (omega (arith, long)) many)
  where
    at-row : (d : Row) (k : ℕ) → k < length old → length old ≡ length range → get_or new k false ≡ get_or (map (meets_all (take (i + 1) conds)) range) k false
    at-row d k l many =
        let in_range : k < length range = omega (arith, many) in
        let r = get_or range k d in
        let a : get_or old k false ≡ meets_all (take i conds) r = ap (λ (v : List Bool). get_or v k false) was ∙ get_or-map (meets_all (take i conds)) range k d false in_range in
        let b : get_or cells k (pos 0) ≡ cell_of c.attr r = ap (λ (v : List ℤ). get_or v k (pos 0)) are ∙ get_or-map (cell_of c.attr) range k d (pos 0) in_range in
        each k l ∙ ap (λ (v : Bool). v && is_within c.lower c.upper (get_or cells k (pos 0))) a ∙ ap (λ (z : ℤ). meets_all (take i conds) r && is_within c.lower c.upper z) b ∙ ap (λ (v : Cond). meets_all (take i conds) r && meets r v) at ∙ sym (list_all_more (meets r) conds i e lt) ∙ sym (get_or-map (meets_all (take (i + 1) conds)) range k d false in_range)

-- where a call was done, what follows is told of it; where it was refused, what was told before
pub weaker : {A E : Type 0} (P Q : A → Type 0) (R : E → Type 0) (r : Result A E) → ((x : A) → P x → Q x) → MatchResult r P R → MatchResult r Q R
weaker P Q R (Ok x) f h = f x h
weaker P Q R (Err e) f h = h

-- where a call was done, what follows from what was told holds
pub if-ok : {A E : Type 0} (P Q : A → Type 0) (R : E → Type 0) (r : Result A E) → ((x : A) → P x → Q x) → MatchResult r P R → IfOk r Q
if-ok P Q R (Ok x) f h = f x h
if-ok P Q R (Err e) f h = tt

-- of fewer than two conditions none comes after the first
pub none-further : (cs : List Cond) → length cs < 2 → further cs ≡ []
none-further [] l = refl
none-further (c ∷ []) l = refl
none-further (c ∷ (d ∷ cs)) l = absurd (omega arith)

-- the conditions but for the first are those after the first
pub dropped-further : (cs : List Cond) → drop 1 cs ≡ further cs
dropped-further [] = refl
dropped-further (c ∷ cs) = refl
