-- What is chosen of a list, with one more item looked at, and where the truth values are those of a test.
use Rattle.std.proofs.Common.{◌≡◌, ◌∙◌, ap, sym, refl, ℕ, ◌+◌, ◌<◌, Bool, true, false, cond, List, [], ◌∷◌, ◌++◌, length, get_or, take, ℤ, pos, ◌+ℤ◌, Option, Some, None, append-nil, arith}
use Rattle.std.proofs.lemmas.List.{take_more}
use Rattle.std.proofs.lemmas.List.Sums.{fold-append}
use Rattle.std.proofs.lemmas.Int.{ints}
use Rattle.std.specs.Int.{int_max, int_min}
use Rattle.sw_query.specs.Scan.{total, least, greatest}
use Rattle.sw_table.proofs.LiveLaws.{kept-nil, kept-step}
use Rattle.sw_set.proofs.Replying.Least.{greatest-both, least-both}
use Rattle.sw_set.specs.Choice.{chosen, either_or, is_chosen}

-- what is chosen of one item more ends with that item, if it is chosen
pub chosen-more : {X : Type 0} (o : Option (List Bool)) (xs : List X) (i : ℕ) (d : X) → i < length xs → chosen o (take (i + 1) xs) ≡ chosen o (take i xs) ++ cond (is_chosen o i) (get_or xs i d ∷ []) []
chosen-more None xs i d lt = take_more xs i d lt
chosen-more (Some bs) xs i d lt = kept-step bs xs i d lt

-- ---- one more value of a sum, of the least, of the greatest

total-if : (zs : List ℤ) (b : Bool) (z : ℤ) → total (zs ++ cond b (z ∷ []) []) ≡ cond b (total zs +ℤ z) (total zs)
total-if zs true z = fold-append ◌+ℤ◌ (pos 0) zs (z ∷ [])
total-if zs false z = ap total (append-nil zs)

-- the sum of what is chosen grows by one more value, if it is chosen
pub total_more : (o : Option (List Bool)) (xs : List ℤ) (i : ℕ) (d : ℤ) → i < length xs → total (chosen o (take (i + 1) xs)) ≡ cond (is_chosen o i) (total (chosen o (take i xs)) +ℤ get_or xs i d) (total (chosen o (take i xs)))
total_more o xs i d lt = ap total (chosen-more o xs i d lt) ∙ total-if (chosen o (take i xs)) (is_chosen o i) (get_or xs i d)

-- the sum of one value more is the sum of those before and that value
pub total_next : (xs : List ℤ) (i : ℕ) (d : ℤ) → i < length xs → total (take (i + 1) xs) ≡ total (take i xs) +ℤ get_or xs i d
total_next xs i d lt = total_more None xs i d lt

least-if : (zs : List ℤ) (b : Bool) (z : ℤ) → least (zs ++ cond b (z ∷ []) []) ≡ cond b (either_or int_min (least zs) (Some z)) (least zs)
least-if zs true z = sym (least-both zs (z ∷ []))
least-if zs false z = ap least (append-nil zs)

greatest-if : (zs : List ℤ) (b : Bool) (z : ℤ) → greatest (zs ++ cond b (z ∷ []) []) ≡ cond b (either_or int_max (greatest zs) (Some z)) (greatest zs)
greatest-if zs true z = sym (greatest-both zs (z ∷ []))
greatest-if zs false z = ap greatest (append-nil zs)

-- the least of what is chosen takes in one more value, if it is chosen
pub least_more : (o : Option (List Bool)) (xs : List ℤ) (i : ℕ) (d : ℤ) → i < length xs → least (chosen o (take (i + 1) xs)) ≡ cond (is_chosen o i) (either_or int_min (least (chosen o (take i xs))) (Some (get_or xs i d))) (least (chosen o (take i xs)))
least_more o xs i d lt = ap least (chosen-more o xs i d lt) ∙ least-if (chosen o (take i xs)) (is_chosen o i) (get_or xs i d)

-- the greatest of what is chosen takes in one more value, if it is chosen
pub greatest_more : (o : Option (List Bool)) (xs : List ℤ) (i : ℕ) (d : ℤ) → i < length xs → greatest (chosen o (take (i + 1) xs)) ≡ cond (is_chosen o i) (either_or int_max (greatest (chosen o (take i xs))) (Some (get_or xs i d))) (greatest (chosen o (take i xs)))
greatest_more o xs i d lt = ap greatest (chosen-more o xs i d lt) ∙ greatest-if (chosen o (take i xs)) (is_chosen o i) (get_or xs i d)

-- of no items none is chosen
pub chosen_nil : {X : Type 0} (o : Option (List Bool)) → chosen o (let e : List X = [] in e) ≡ []
chosen_nil None = refl
chosen_nil (Some bs) = kept-nil bs

-- a step of each loop, where the place is chosen and where it isn't
picks : {A : Type 0} (b c : Bool) (x y : A) → b ≡ c → cond b x y ≡ cond c x y
picks b c x y e = ap (λ v. cond v x y) e

module _ (o : Option (List Bool)) (xs : List ℤ) (i : ℕ) (lt : i < length xs) where
  -- a value at a chosen place is added to the sum
  pub total_yes : (s z : ℤ) → is_chosen o i ≡ true → z ≡ get_or xs i (pos 0) → s ≡ total (chosen o (take i xs)) → s +ℤ z ≡ total (chosen o (take (i + 1) xs))
  total_yes s z is_in is so_far = ap (λ v. v +ℤ z) so_far ∙ ap (λ v. total (chosen o (take i xs)) +ℤ v) is ∙ sym (total_more o xs i (pos 0) lt ∙ picks (is_chosen o i) true _ _ is_in)

  -- a value at a place that isn't chosen leaves the sum
  pub total_no : (s : ℤ) → is_chosen o i ≡ false → s ≡ total (chosen o (take i xs)) → s ≡ total (chosen o (take (i + 1) xs))
  total_no s is_out so_far = so_far ∙ sym (total_more o xs i (pos 0) lt ∙ picks (is_chosen o i) false _ _ is_out)

  -- the value where its place is chosen, else zero, is added to the sum
  pub total_masked : (s z v : ℤ) (b : Bool) → is_chosen o i ≡ b → v ≡ cond b z (pos 0) → z ≡ get_or xs i (pos 0) → s ≡ total (chosen o (take i xs)) → s +ℤ v ≡ total (chosen o (take (i + 1) xs))
  total_masked s z v true is_in e is so_far = total_yes s v is_in (e ∙ is) so_far
  total_masked s z v false is_out e is so_far = ap (λ w. s +ℤ w) e ∙ (let none : s +ℤ pos 0 ≡ s = omega (arith, ints) in none) ∙ total_no s is_out so_far

  -- a value at a chosen place is taken into the least
  pub least_yes : (f : Option ℤ) (z : ℤ) → is_chosen o i ≡ true → z ≡ get_or xs i (pos 0) → f ≡ least (chosen o (take i xs)) → either_or int_min f (Some z) ≡ least (chosen o (take (i + 1) xs))
  least_yes f z is_in is so_far = ap (λ v. either_or int_min v (Some z)) so_far ∙ ap (λ v. either_or int_min (least (chosen o (take i xs))) (Some v)) is ∙ sym (least_more o xs i (pos 0) lt ∙ picks (is_chosen o i) true _ _ is_in)

  -- a value at a place that isn't chosen leaves the least
  pub least_no : (f : Option ℤ) → is_chosen o i ≡ false → f ≡ least (chosen o (take i xs)) → f ≡ least (chosen o (take (i + 1) xs))
  least_no f is_out so_far = so_far ∙ sym (least_more o xs i (pos 0) lt ∙ picks (is_chosen o i) false _ _ is_out)

  -- a value at a chosen place is taken into the greatest
  pub greatest_yes : (f : Option ℤ) (z : ℤ) → is_chosen o i ≡ true → z ≡ get_or xs i (pos 0) → f ≡ greatest (chosen o (take i xs)) → either_or int_max f (Some z) ≡ greatest (chosen o (take (i + 1) xs))
  greatest_yes f z is_in is so_far = ap (λ v. either_or int_max v (Some z)) so_far ∙ ap (λ v. either_or int_max (greatest (chosen o (take i xs))) (Some v)) is ∙ sym (greatest_more o xs i (pos 0) lt ∙ picks (is_chosen o i) true _ _ is_in)

  -- a value at a place that isn't chosen leaves the greatest
  pub greatest_no : (f : Option ℤ) → is_chosen o i ≡ false → f ≡ greatest (chosen o (take i xs)) → f ≡ greatest (chosen o (take (i + 1) xs))
  greatest_no f is_out so_far = so_far ∙ sym (greatest_more o xs i (pos 0) lt ∙ picks (is_chosen o i) false _ _ is_out)

module _ {X : Type 0} (o : Option (List Bool)) (xs : List X) (i : ℕ) (lt : i < length xs) where
  -- an item at a chosen place comes behind those chosen before it
  pub chosen_yes : (ys : List X) (x : X) → is_chosen o i ≡ true → x ≡ get_or xs i x → ys ≡ chosen o (take i xs) → ys ++ x ∷ [] ≡ chosen o (take (i + 1) xs)
  chosen_yes ys x is_in is so_far = ap (λ v. v ++ x ∷ []) so_far ∙ ap (λ v. chosen o (take i xs) ++ v ∷ []) is ∙ sym (chosen-more o xs i x lt ∙ ap (λ b. chosen o (take i xs) ++ cond b (get_or xs i x ∷ []) []) is_in)

  -- an item at a place that isn't chosen leaves those chosen
  pub chosen_no : (ys : List X) (d : X) → is_chosen o i ≡ false → ys ≡ chosen o (take i xs) → ys ≡ chosen o (take (i + 1) xs)
  chosen_no ys d is_out so_far = so_far ∙ sym (append-nil _) ∙ sym (chosen-more o xs i d lt ∙ ap (λ b. chosen o (take i xs) ++ cond b (get_or xs i d ∷ []) []) is_out)
