-- Marks in order lie within the list, and none lies before an earlier one.
use Rattle.std.proofs.Common.{ℕ, suc, zero, ◌<◌, ◌≤◌, List, [], ◌∷◌, length, get_or, All, arith}
use Rattle.sw_kernel.specs.declared.mark.Mark.{Mark}
use Rattle.sw_kernel.specs.Flat.{InOrder}

-- where marks stand in order from i on and within n items, i is n at most
pub order-end : (i n : ℕ) (ms : List Mark) → InOrder i n ms → i ≤ n
order-end i n [] o = o
order-end i n (m ∷ ms) o = let h = order-end m.at n ms o.1 in omega (arith, o.0)

order-from : (i n : ℕ) (ms : List Mark) (k : ℕ) (d : Mark) → InOrder i n ms → k < length ms → i ≤ (get_or ms k d).at
order-from i n [] k d o lt = absurd (omega (arith, lt))
order-from i n (m ∷ ms) zero d o lt = o.0
order-from i n (m ∷ ms) (suc k) d o lt = let h = order-from m.at n ms k d o.1 (omega (arith, lt)) in omega (arith, h, o.0)

-- no mark in order stands past the n items
pub order-within : (i n : ℕ) (ms : List Mark) (k : ℕ) (d : Mark) → InOrder i n ms → k < length ms → (get_or ms k d).at ≤ n
order-within i n [] k d o lt = absurd (omega (arith, lt))
order-within i n (m ∷ ms) zero d o lt = order-end m.at n ms o.1
order-within i n (m ∷ ms) (suc k) d o lt = order-within m.at n ms k d o.1 (omega (arith, lt))

-- of marks in order a later one stands no earlier
pub order-mono : (i n : ℕ) (ms : List Mark) (j k : ℕ) (d : Mark) → InOrder i n ms → j ≤ k → k < length ms → (get_or ms j d).at ≤ (get_or ms k d).at
order-mono i n [] j k d o le lt = absurd (omega (arith, lt))
order-mono i n (m ∷ ms) zero zero d o le lt = omega arith
order-mono i n (m ∷ ms) zero (suc k) d o le lt = order-from m.at n ms k d o.1 (omega (arith, lt))
order-mono i n (m ∷ ms) (suc j) zero d o le lt = absurd (omega (arith, le))
order-mono i n (m ∷ ms) (suc j) (suc k) d o le lt = order-mono m.at n ms j k d o.1 (omega (arith, le)) (omega (arith, lt))

-- all marks lie within a list that is no shorter
pub order-all : (n n' : ℕ) (ms : List Mark) → InOrder 0 n ms → n ≤ n' → All (λ (m : Mark). m.at ≤ n') ms
order-all n n' ms o le k d lt = let h = order-within 0 n ms k d o lt in omega (arith, h, le)

-- marks in order within n items all stand below any greater number
pub order-below : (n n' : ℕ) (ms : List Mark) → InOrder 0 n ms → n < n' → All (λ (m : Mark). m.at < n') ms
order-below n n' ms o le k d lt = let h = order-within 0 n ms k d o lt in omega (arith, h, le)
