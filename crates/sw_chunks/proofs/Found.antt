-- The place beside a key, in a list that rises by key.
use Rattle.std.proofs.Common.{◌≡◌, ◌≢◌, ◌<◌, ◌≤◌, ◌==◌, ◌+◌, ℕ, zero, suc, ℤ, pos, true, false, List, [], ◌∷◌, length, get_or, All, arith, refl, subst, Option, None, Some}
use Rattle.std.specs.List.Sorted.{IsPartitionPoint}
use Rattle.std.proofs.Math.Dec.{ltb}
use Rattle.std.proofs.lemmas.Bool.Decides.{nat_tests}
use Rattle.sw_table.proofs.KeyFinds.{above-at, key-nowhere}
use Rattle.sw_set.specs.Shelf.{Rises}
use Rattle.sw_chunks.specs.Cuts.{Interval, intervals, intervals_from}
use Rattle.sw_chunks.specs.Places.{find_place}

-- the key of a row that is kept with its area
abbrev pub its-key : ℕ × ℕ → ℕ
its-key o = o.0

same-key : (j k : ℕ) → j ≡ k → (j == k) ≡ true
same-key j k e = grind (arith, nat_tests, e)

not-same : (j k : ℕ) → j ≢ k → (j == k) ≡ false
not-same j k ne = grind (arith, nat_tests, ne)

-- in a list that rises by key, what stands beside a key is the place to be found for it
pub found-at : (k : ℕ) (os : List (ℕ × ℕ)) (at : ℕ) (d : ℕ × ℕ) → Rises its-key os → at < length os → (get_or os at d).0 ≡ k → (get_or os at d).1 ≡ find_place k os
found-at k [] at d r lt e = absurd (omega (arith, lt))
found-at k (o ∷ os) zero d r lt e = rw (same-key o.0 k e) refl
found-at k (o ∷ os) (suc at) d r lt e =
    let above = above-at its-key o.0 os at d r.0 (omega (arith, lt)) in
    rw (not-same o.0 k (λ q. absurd (omega (arith, above, e, q)))) (found-at k os at d r.1 (omega (arith, lt)) e)

none-found : (k : ℕ) (os : List (ℕ × ℕ)) → All (λ (o : ℕ × ℕ). o.0 ≢ k) os → 0 ≡ find_place k os
none-found k [] h = refl
none-found k (o ∷ os) h = rw (not-same o.0 k (h 0 o (omega arith))) (none-found k os (λ i d lt. h (suc i) d (omega (arith, lt))))

-- where a search in a rising list does not meet the key, the place to be found for it is 0
pub no-place : (k : ℕ) (xs : List (ℕ × ℕ)) (p : ℕ) → Rises its-key xs → p ≤ length xs → IsPartitionPoint (λ (o : ℕ × ℕ). ltb o.0 k ≡ true) (λ (o : ℕ × ℕ). ltb o.0 k ≡ false) xs p → ((d : ℕ × ℕ) → p < length xs → (get_or xs p d).0 ≢ k) → 0 ≡ find_place k xs
no-place k xs p r le at absent = none-found k xs (key-nowhere its-key k xs p r le at absent)

-- ---- where the interval at a place begins and ends
first-start : (from : Option ℤ) (cuts : List ℤ) (i : Interval) → (get_or (intervals_from from cuts) 0 i).0 ≡ from
first-start from [] i = refl
first-start from (c ∷ cs) i = refl

start-from : (from : Option ℤ) (cuts : List ℤ) (k : ℕ) (i : Interval) → k < length cuts → (get_or (intervals_from from cuts) (suc k) i).0 ≡ Some (get_or cuts k (pos 0))
start-from from [] k i lt = absurd (omega (arith, lt))
start-from from (c ∷ cs) zero i lt = first-start (Some c) cs i
start-from from (c ∷ cs) (suc k) i lt = start-from (Some c) cs k i (omega (arith, lt))

end-from : (from : Option ℤ) (cuts : List ℤ) (k : ℕ) (i : Interval) → k < length cuts → (get_or (intervals_from from cuts) k i).1 ≡ Some (get_or cuts k (pos 0))
end-from from [] k i lt = absurd (omega (arith, lt))
end-from from (c ∷ cs) zero i lt = refl
end-from from (c ∷ cs) (suc k) i lt = end-from (Some c) cs k i (omega (arith, lt))

last-end : (from : Option ℤ) (cuts : List ℤ) (k : ℕ) (i : Interval) → k ≡ length cuts → (get_or (intervals_from from cuts) k i).1 ≡ None
last-end from [] zero i e = refl
last-end from [] (suc k) i e = absurd (omega (arith, e))
last-end from (c ∷ cs) zero i e = absurd (omega (arith, e))
last-end from (c ∷ cs) (suc k) i e = last-end (Some c) cs k i (omega (arith, e))

-- the interval behind a cut starts with it
pub starts-at : (cuts : List ℤ) (k : ℕ) (i : Interval) → k < length cuts → (get_or (intervals cuts) (k + 1) i).0 ≡ Some (get_or cuts k (pos 0))
starts-at cuts k i lt = subst (λ (n : ℕ). (get_or (intervals cuts) n i).0 ≡ Some (get_or cuts k (pos 0))) (next k) (start-from None cuts k i lt)
  where
    next : (k : ℕ) → suc k ≡ k + 1
    next k = omega arith

-- the first interval has no start
pub starts-none : (cuts : List ℤ) (i : Interval) → (get_or (intervals cuts) 0 i).0 ≡ None
starts-none cuts i = first-start None cuts i

-- the interval before a cut ends below it
pub ends-at : (cuts : List ℤ) (k : ℕ) (i : Interval) → k < length cuts → (get_or (intervals cuts) k i).1 ≡ Some (get_or cuts k (pos 0))
ends-at cuts k i lt = end-from None cuts k i lt

-- the last interval has no end
pub ends-none : (cuts : List ℤ) (k : ℕ) (i : Interval) → k ≡ length cuts → (get_or (intervals cuts) k i).1 ≡ None
ends-none cuts k i e = last-end None cuts k i e
