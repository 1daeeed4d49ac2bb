-- Rows whose keys rise.
use Rattle.std.proofs.Common.{◌≡◌, ◌≢◌, ℕ, zero, suc, ◌<◌, ◌≤◌, List, [], ◌∷◌, inl, inr, length, get_or, All, arith, subst}
use Rattle.std.proofs.lemmas.Bool.{cases_order}
use Rattle.sw_table.specs.declared.row.Row.{Row}
use Rattle.sw_table.specs.Live.{Rises, key_of}
use Rattle.sw_table.proofs.KeyFinds.{above-at}

-- the key of a later row is above
pub rises-lt : (xs : List Row) → Rises key_of xs → (i j : ℕ) (d : Row) → i < j → j < length xs → (get_or xs i d).key < (get_or xs j d).key
rises-lt [] r i j d lt in_list = absurd (omega (arith, in_list))
rises-lt (x ∷ xs) r i zero d lt in_list = absurd (omega (arith, lt))
rises-lt (x ∷ xs) r zero (suc j) d lt in_list = above-at key_of x.key xs j d r.0 (omega (arith, in_list))
rises-lt (x ∷ xs) r (suc i) (suc j) d lt in_list = rises-lt xs r.1 i j d (omega (arith, lt)) (omega (arith, in_list))

-- and that of one that is not earlier is not below
pub rises-le : (xs : List Row) → Rises key_of xs → (i j : ℕ) (d : Row) → i ≤ j → j < length xs → (get_or xs i d).key ≤ (get_or xs j d).key
rises-le xs r i j d le in_list = elim (cases_order i j) [
  | inl same ↦ subst (λ (n : ℕ). (get_or xs i d).key ≤ (get_or xs n d).key) same (omega arith)
  | inr other ↦ elim other [
    | inl low ↦ let h = rises-lt xs r i j d low in_list in omega (arith, h)
    | inr high ↦ absurd (omega (arith, le, high))
  ]
]

-- a key that the row has not that would have it is that of no row
pub key-absent : (k : ℕ) (xs : List Row) (p : ℕ) → Rises key_of xs → ((i : ℕ) (d : Row) → i < p → (get_or xs i d).key < k) → ((i : ℕ) (d : Row) → p ≤ i → i < length xs → k ≤ (get_or xs i d).key) → ((d : Row) → p < length xs → (get_or xs p d).key ≢ k) → All (λ (x : Row). x.key ≢ k) xs
key-absent k xs p r below above other i d lt is = elim (cases_order i p) [
  | inl same ↦ other d (omega (arith, same, lt)) (subst (λ (n : ℕ). (get_or xs n d).key ≡ k) same is)
  | inr apart ↦ elim apart [
    | inl low ↦ let h = below i d low in absurd (omega (arith, h, is))
    | inr high ↦
        let h = above p d (omega arith) (omega (arith, high, lt)) in
        let g = rises-lt xs r p i d high lt in absurd (omega (arith, h, g, is))
  ]
]
