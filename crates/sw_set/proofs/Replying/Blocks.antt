-- Blocks of values.
use Rattle.std.proofs.Common.{◌≡◌, ℕ, ◌+◌, ◌-◌, ◌≤◌, ℤ, pos, ◌+ℤ◌, List, [], ◌∷◌, ◌++◌, fold, length, take, drop, slice_range, ap, ap₂, sym, ◌∙◌, arith}
use Rattle.std.proofs.Math.Seq.{take-add}
use Rattle.std.proofs.lemmas.Int.{ints}
use Rattle.std.proofs.lemmas.List.{drop-drop, drop-take, length-take-le, take-take, take_at}
use Rattle.std.proofs.lemmas.List.Sums.{fold-append}
use Rattle.sw_query.specs.Scan.{total}
use Rattle.sw_set.specs.Choice.{IsSumOf}
use Rattle.sw_set.proofs.Replying.Told.{range-long}

few-back : (p m : ℕ) → p + m - p ≡ m
few-back p m = omega arith

-- a part of a part
pub part-of : {A : Type 0} (xs : List A) (f n p m : ℕ) → p + m ≤ n → slice_range (slice_range xs f (f + n)) p (p + m) ≡ slice_range xs (f + p) (f + p + m)
part-of {A = A} xs f n p m le =
    let split : n ≡ p + (n - p) = omega (arith, le) in
    ap₂ (λ (j k : ℕ). take j (drop p (take k (drop f xs)))) (few-back p m) (few-back f n ∙ split)
    ∙ ap (take m) (drop-take p (n - p) (drop f xs))
    ∙ take-take m (n - p) (drop p (drop f xs)) (omega (arith, le))
    ∙ ap₂ (λ (j : ℕ) (ys : List A). take j ys) (sym (few-back (f + p) m)) (drop-drop p f xs)

-- the items up to a place, and the block behind it
pub one-block : {A : Type 0} (xs : List A) (p m : ℕ) → take (p + m) xs ≡ take p xs ++ slice_range xs p (p + m)
one-block xs p m = take-add p m xs ∙ ap (λ (k : ℕ). take p xs ++ take k (drop p xs)) (sym (few-back p m))

-- a block that was read into the front of a longer one
pub block-read : {A : Type 0} (xs block part : List A) (p m : ℕ) → m ≤ length block → p + m ≤ length xs → part ≡ slice_range xs p (p + length (take m block)) → take m (part ++ drop m block) ≡ slice_range xs p (p + m)
block-read xs block part p m few many is =
    let taken : length (take m block) ≡ m = length-take-le m block few in
    let same : part ≡ slice_range xs p (p + m) = is ∙ ap (λ (k : ℕ). slice_range xs p (p + k)) taken in
    let long : length part ≡ m = ap length same ∙ range-long xs p (p + m) (omega arith) many ∙ few-back p m in
    take_at part (drop m block) m long ∙ same

total-from : (z : ℤ) (ys : List ℤ) → fold ◌+ℤ◌ z ys ≡ z +ℤ total ys
total-from z [] = omega (arith, ints)
total-from z (y ∷ ys) =
    let first = total-from (z +ℤ y) ys in
    let rest = total-from (pos 0 +ℤ y) ys in
    first ∙ (let e : z +ℤ y +ℤ total ys ≡ z +ℤ (pos 0 +ℤ y +ℤ total ys) = omega (arith, ints) in e) ∙ ap (λ v. z +ℤ v) (sym rest)

-- what so many cells may sum to and what others may sum to is, added, what both may sum to
pub sum-of-both : (p m : ℕ) (s z : ℤ) → IsSumOf p s → IsSumOf m z → IsSumOf (p + m) (s +ℤ z)
sum-of-both p m s z a b = (omega (arith, ints, a.0, b.0), omega (arith, ints, a.1, b.1))

-- the sum with one more block
pub total-block : (xs : List ℤ) (p m : ℕ) (s z : ℤ) → s ≡ total (take p xs) → z ≡ total (slice_range xs p (p + m)) → s +ℤ z ≡ total (take (p + m) xs)
total-block xs p m s z so_far is =
    ap₂ (λ (a b : ℤ). a +ℤ b) so_far is ∙ sym (total-from (total (take p xs)) (slice_range xs p (p + m))) ∙ sym (fold-append ◌+ℤ◌ (pos 0) (take p xs) (slice_range xs p (p + m))) ∙ ap total (sym (one-block xs p m))

-- what is gathered of the items up to a place, and of one more block
pub fold-block : {A B : Type 0} (f : B → A → B) (b s z : B) (xs : List A) (p m : ℕ) → s ≡ fold f b (take p xs) → z ≡ fold f s (slice_range xs p (p + m)) → z ≡ fold f b (take (p + m) xs)
fold-block f b s z xs p m so_far is =
    is ∙ ap (λ v. fold f v (slice_range xs p (p + m))) so_far ∙ sym (fold-append f b (take p xs) (slice_range xs p (p + m))) ∙ ap (fold f b) (sym (one-block xs p m))
