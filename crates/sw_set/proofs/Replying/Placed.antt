-- Numbers with their places.
use Rattle.std.proofs.Common.{◌≡◌, ℕ, zero, suc, ◌+◌, ◌<◌, ℤ, pos, Bool, true, false, List, [], ◌∷◌, ◌++◌, length, get_or, take, Option, refl, ap, sym, ◌∙◌, arith, unsigned_abs}
use Rattle.sw_set.specs.Choice.{chosen, is_chosen, placed}
use Rattle.sw_set.proofs.Replying.Choosing.{chosen_yes, chosen_no}

-- there are as many numbers with their places as there are numbers
pub length-placed : (n : ℕ) (ks : List ℤ) → length (placed n ks) ≡ length ks
length-placed n [] = refl
length-placed n (k ∷ ks) = ap suc (length-placed (suc n) ks)

-- at a place stands the number without its sign, and beside it that place, counted from the first one's
pub get_or-placed : (n : ℕ) (ks : List ℤ) (i : ℕ) (d : ℕ × ℤ) (p : ℕ × ℕ) → i < length ks → get_or (placed n ks) i p ≡ (unsigned_abs (get_or ks i (pos 0)), n + i)
get_or-placed n [] i d p lt = let no : i < 0 = lt in absurd (omega arith)
get_or-placed n (k ∷ ks) zero d p lt = ap (λ (m : ℕ). (unsigned_abs k, m)) (let e : n ≡ n + 0 = omega arith in e)
get_or-placed n (k ∷ ks) (suc i) d p lt = get_or-placed (suc n) ks i d p (omega arith) ∙ ap (λ (m : ℕ). (unsigned_abs (get_or ks i (pos 0)), m)) (let e : suc n + i ≡ n + suc i = omega arith in e)

module _ (o : Option (List Bool)) (n : ℕ) (ks : List ℤ) (i : ℕ) (lt : i < length ks) where
  -- a number at a chosen place, without its sign and with that place, comes behind those found before it
  pub found_yes : (old new : List (ℕ × ℕ)) (key place : ℕ) → is_chosen o i ≡ true → key ≡ unsigned_abs (get_or ks i (pos 0)) → place ≡ n + i → old ≡ chosen o (take i (placed n ks)) → new ≡ old ++ (key, place) ∷ [] → new ≡ chosen o (take (i + 1) (placed n ks))
  found_yes old new key place is_in is_key is_place so_far now =
      let many : i < length (placed n ks) = omega (arith, length-placed n ks) in
      let one = get_or-placed n ks i (0, pos 0) (key, place) lt in
      let pair : (let p : ℕ × ℕ = (key, place) in p) ≡ (unsigned_abs (get_or ks i (pos 0)), n + i) = cc in
      now ∙ chosen_yes o (placed n ks) i many old (key, place) is_in (pair ∙ sym one) so_far

  -- a number at a place that isn't chosen leaves those found
  pub found_no : (old : List (ℕ × ℕ)) → is_chosen o i ≡ false → old ≡ chosen o (take i (placed n ks)) → old ≡ chosen o (take (i + 1) (placed n ks))
  found_no old is_out so_far =
      let many : i < length (placed n ks) = omega (arith, length-placed n ks) in
      chosen_no o (placed n ks) i many old (0, 0) is_out so_far
