-- The truth values of a list of words.
use Rattle.std.specs.Prelude.{◌≡◌, ℕ, zero, suc, ◌+◌, ◌*◌, ◌^◌, ◌/◌, ◌%◌, ◌<◌, ◌≤◌, Bool, true, false, eqb, List, [], ◌∷◌, length, slice_index}
use Rattle.std.specs.Int.{bit_at}

-- place i is true where bit i % 64 of word i / 64 is 1
abbrev pub holds : List ℕ → ℕ → Bool
holds words i = eqb (bit_at (slice_index words (i / 64)) (i % 64)) 1

-- the n places from a on
abbrev pub places : List ℕ → ℕ → ℕ → List Bool
places words a zero = []
places words a (suc n) = holds words a ∷ places words (suc a) n

-- just as many words as n places take, n being a number of a machine's word, and no place past them is true
pub record AreWords (words : List ℕ) (n : ℕ) : Type 0 where
  pub fits : n < 2 ^ 64
  pub enough : n ≤ 64 * length words
  pub no_more : 64 * length words < n + 64
  pub unused : (i : ℕ) → n ≤ i → holds words i ≡ false

-- the words of n true places
pub record AreOnes (words : List ℕ) (n : ℕ) : Type 0 where
  pub fitting : AreWords words n
  pub ones : (i : ℕ) → i < n → holds words i ≡ true
