-- A table after one row more, one less, and when its dead rows are dropped.
use Rattle.std.proofs.Common.{◌≡◌, refl, ◌∙◌, ap, sym, ℕ, zero, suc, ◌+◌, ◌<◌, ◌≤◌, Bool, true, false, List, [], ◌∷◌, ◌++◌, length, get_or, replicate, slice_set, take, length-set, arith}
use Rattle.std.proofs.lemmas.List.{length_push, length-replicate}
use Rattle.std.specs.List.{AllByRecursion}
use Rattle.sw_table.specs.declared.row.Row.{Row}
use Rattle.sw_table.specs.Kept.{kept}
use Rattle.sw_table.specs.Live.{IsStanding, Rises, RisesFrom, key_of, last_key}
use Rattle.sw_table.proofs.LiveFlags.{false-fresh, false-more, false-removed}

-- ---- one row more

below-more : (m n : ℕ) (xs : List Row) → m ≤ n → AllByRecursion (λ (r : Row). r.key ≤ m) xs → AllByRecursion (λ (r : Row). r.key ≤ n) xs
below-more m n [] le a = tt
below-more m n (x ∷ xs) le a = (let h = a.0 in omega (arith, h, le), below-more m n xs le a.1)

all-pushed : (P : Row → Type 0) (xs : List Row) (r : Row) → AllByRecursion P xs → P r → AllByRecursion P (xs ++ r ∷ [])
all-pushed P [] r a p = (p, tt)
all-pushed P (x ∷ xs) r a p = (a.0, all-pushed P xs r a.1 p)

rises-pushed : (n : ℕ) (xs : List Row) (r : Row) → Rises key_of xs → AllByRecursion (λ (x : Row). x.key ≤ n) xs → n < r.key → Rises key_of (xs ++ r ∷ [])
rises-pushed n [] r up below lt = (tt, tt)
rises-pushed n (x ∷ xs) r up below lt = (all-pushed (λ (y : Row). key_of x < key_of y) xs r up.0 (let h = below.0 in omega (arith, h, lt)), rises-pushed n xs r up.1 below.1 lt)

-- one more row, live and of a key above all, comes behind the others, and no more of them are dead
pub standing-pushed : (n : ℕ) (xs : List Row) (fs : List Bool) (dead : ℕ) (r : Row) → IsStanding n xs fs dead → n < r.key → IsStanding r.key (xs ++ r ∷ []) (fs ++ true ∷ []) dead
standing-pushed n xs fs dead r s lt = record {
  many = length_push fs true ∙ ap (λ m. m + 1) s.many ∙ sym (length_push xs r);
  rise = rises-pushed n xs r s.rise s.below lt;
  below = all-pushed (λ (x : Row). x.key ≤ r.key) xs r (below-more n r.key xs (omega (arith, lt)) s.below) (omega arith);
  gone = let h = false-more fs true in omega (arith, h, s.gone);
}

-- ---- one row less

-- where a live row's flag turns false, one more row is dead
pub standing-removed : (n : ℕ) (xs : List Row) (fs : List Bool) (dead p : ℕ) → IsStanding n xs fs dead → get_or fs p false ≡ true → IsStanding n xs (slice_set fs p false) (dead + 1)
standing-removed n xs fs dead p s on = record {
  many = length-set fs p false ∙ s.many;
  rise = s.rise;
  below = s.below;
  gone = ap (λ m. m + 1) s.gone ∙ sym (false-removed fs p on);
}

-- ---- the dead rows dropped

all-kept : (P : Row → Type 0) (fs : List Bool) (xs : List Row) → AllByRecursion P xs → AllByRecursion P (kept fs xs)
all-kept P [] xs a = tt
all-kept P (b ∷ fs) [] a = tt
all-kept P (true ∷ fs) (x ∷ xs) a = (a.0, all-kept P fs xs a.1)
all-kept P (false ∷ fs) (x ∷ xs) a = all-kept P fs xs a.1

rises-kept : (fs : List Bool) (xs : List Row) → Rises key_of xs → Rises key_of (kept fs xs)
rises-kept [] xs up = tt
rises-kept (b ∷ fs) [] up = tt
rises-kept (true ∷ fs) (x ∷ xs) up = (all-kept (λ (y : Row). key_of x < key_of y) fs xs up.0, rises-kept fs xs up.1)
rises-kept (false ∷ fs) (x ∷ xs) up = rises-kept fs xs up.1

-- where the dead rows are dropped, the others stand as before, and all are live
pub standing-compact : (n : ℕ) (xs : List Row) (fs : List Bool) (dead many : ℕ) → IsStanding n xs fs dead → many ≡ length (kept fs xs) → IsStanding n (kept fs xs) (replicate many true) 0
standing-compact n xs fs dead many s is = record {
  many = length-replicate many true ∙ is;
  rise = rises-kept fs xs s.rise;
  below = all-kept (λ (r : Row). r.key ≤ n) fs xs s.below;
  gone = sym (false-fresh many);
}

-- ---- rows whose keys rise

-- where keys rise from above n, the last key before a place, n for none, is below the key there
pub last-less : (n : ℕ) (rs : List Row) (i : ℕ) (d : Row) → RisesFrom n rs → i < length rs → last_key n (take i rs) < (get_or rs i d).key
last-less n [] i d up lt = absurd (omega (arith, lt))
last-less n (r ∷ rs) zero d up lt = up.0
last-less n (r ∷ rs) (suc i) d up lt = last-less r.key rs i d up.1 (omega (arith, lt))

last-suc : (n : ℕ) (rs : List Row) (i : ℕ) (d : Row) → i < length rs → last_key n (take (suc i) rs) ≡ (get_or rs i d).key
last-suc n [] i d lt = absurd (omega (arith, lt))
last-suc n (r ∷ rs) zero d lt = refl
last-suc n (r ∷ rs) (suc i) d lt = last-suc r.key rs i d (omega (arith, lt))

-- the last key of the first i + 1 rows is that of the row at i
pub last-more : (n : ℕ) (rs : List Row) (i : ℕ) (d : Row) → i < length rs → last_key n (take (i + 1) rs) ≡ (get_or rs i d).key
last-more n rs i d lt = ap (λ k. last_key n (take k rs)) (let e : i + 1 ≡ suc i = omega arith in e) ∙ last-suc n rs i d lt
