-- What sessions and times ask of an order, of each call with each later one.
use Rattle.std.proofs.Common.{◌≡◌, ◌≢◌, ◌∙◌, ◌<◌, ◌++◌, ◌⊎◌, inl, inr, sym, ap, refl, subst, ℕ, zero, suc, true, List, ◌∷◌, length, Some, arith, get_or}
use Rattle.std.specs.List.{AllByRecursion, slice_get}
use Rattle.std.proofs.lemmas.Option.{get_or_from_slice_get, same_Some, slice_get-get_or, slice_get_within}
use Rattle.sw_logs.specs.Orders.{AreNumbersOf, KeepsBy, KeepsSessions, StandOnce, StandsAt, is_known}
use Rattle.sw_logs.specs.declared.logged.Logged.{Logged}
use Rattle.sw_logs.specs.declared.order.By.{By}
use Rattle.sw_logs.specs.declared.order.By.TheVariants as by
use Rattle.sw_order_laws.specs.Beginnings.{IsIn, IsInTime, MayComeNext, MayPrecede}
use Rattle.sw_order_laws.proofs.Numbers.{Pairs, all_at, all_given, all_join, all_split, all_weaker, in_either, in_front, in_left, in_right, pairs_at, pairs_cross, pairs_exchanged, pairs_first, pairs_given, pairs_join, pairs_last, pairs_moved}

-- a call may stand before a later one, which is another
pub record MayStand (keeping : By) (calls : List Logged) (i j : ℕ) : Type 0 where
  pub other : i ≢ j
  pub precedes : (c d : Logged) → slice_get calls i ≡ Some c → slice_get calls j ≡ Some d → is_known d ≡ true → MayPrecede keeping i c j d

-- numbers of calls, each of which may stand before each later one
pub record AreInOrder (keeping : By) (calls : List Logged) (places : List ℕ) : Type 0 where
  pub numbers : AllByRecursion (λ (i : ℕ). i < length calls) places
  pub pairs : Pairs (MayStand keeping calls) places

-- ---- by places, and by recursion

-- what orders keep, of each call with each later one
pub in_order : (keeping : By) (calls : List Logged) (places : List ℕ) → AreNumbersOf calls places → StandOnce places → KeepsSessions calls places → KeepsBy keeping calls places → AreInOrder keeping calls places
in_order keeping calls places numbers once sessions times = record {
  numbers = all_given (λ (i : ℕ). i < length calls) places (λ p i e. subst (λ (n : ℕ). n < length calls) (get_or_from_slice_get places p i 0 e) (numbers p (slice_get_within places p i e)));
  pairs = pairs_given (MayStand keeping calls) places (λ p q i j lt a b. record {
    other = λ (e : i ≡ j). let same : p ≡ q = once p q j (a ∙ ap (λ (n : ℕ). Some n) e) b in absurd (omega (arith, same, lt));
    precedes = λ c d sc sd kd. record { earlier = λ same. sessions p q i j c d lt (a, sc) (b, sd) same kd; time = in_time keeping times p q i j c d lt (a, sc) (b, sd) kd };
  });
}
  where
    in_time : (keeping : By) → KeepsBy keeping calls places → (p q i j : ℕ) (c d : Logged) → p < q → StandsAt calls places p i c → StandsAt calls places q j d → is_known d ≡ true → IsInTime keeping c d
    in_time (by.Times slack) times p q i j c d lt s t kd = times p q i j c d lt s t kd
    in_time by.Sessions times p q i j c d lt s t kd = tt

numbers_are : (calls : List Logged) (places : List ℕ) → AllByRecursion (λ (i : ℕ). i < length calls) places → AreNumbersOf calls places
numbers_are calls places all = λ k lt. all_at (λ (i : ℕ). i < length calls) places all k (get_or places k 0) (slice_get-get_or places k 0 lt)

order_of : (p q : ℕ) → (p < q) ⊎ ((p ≡ q) ⊎ (q < p))
order_of zero zero = inr (inl refl)
order_of zero (suc q) = inl (omega arith)
order_of (suc p) zero = inr (inr (omega arith))
order_of (suc p) (suc q) = later (order_of p q)
  where
    later : (p < q) ⊎ ((p ≡ q) ⊎ (q < p)) → (suc p < suc q) ⊎ ((suc p ≡ suc q) ⊎ (suc q < suc p))
    later (inl a) = inl (omega (arith, a))
    later (inr (inl b)) = inr (inl (omega (arith, b)))
    later (inr (inr d)) = inr (inr (omega (arith, d)))

stand_once : (keeping : By) (calls : List Logged) (places : List ℕ) → Pairs (MayStand keeping calls) places → StandOnce places
stand_once keeping calls places pairs = λ p q i a b. by_order p q i (order_of p q) a b
  where
    by_order : (p q i : ℕ) → (p < q) ⊎ ((p ≡ q) ⊎ (q < p)) → slice_get places p ≡ Some i → slice_get places q ≡ Some i → p ≡ q
    by_order p q i (inl lt) a b = absurd ((pairs_at (MayStand keeping calls) places pairs p q i i lt a b).other refl)
    by_order p q i (inr (inl e)) a b = e
    by_order p q i (inr (inr lt)) a b = absurd ((pairs_at (MayStand keeping calls) places pairs q p i i lt b a).other refl)

keeps_sessions : (keeping : By) (calls : List Logged) (places : List ℕ) → Pairs (MayStand keeping calls) places → KeepsSessions calls places
keeps_sessions keeping calls places pairs = λ p q i j c d lt s t same kd. ((pairs_at (MayStand keeping calls) places pairs p q i j lt s.0 t.0).precedes c d s.1 t.1 kd).earlier same

keeps_by : (keeping : By) (calls : List Logged) (places : List ℕ) → Pairs (MayStand keeping calls) places → KeepsBy keeping calls places
keeps_by (by.Times slack) calls places pairs = λ p q i j c d lt s t kd. ((pairs_at (MayStand (by.Times slack) calls) places pairs p q i j lt s.0 t.0).precedes c d s.1 t.1 kd).time
keeps_by by.Sessions calls places pairs = tt

-- what is asked of the places of an order, but that it has all calls of known outcome
pub record KeepsOrder (keeping : By) (calls : List Logged) (places : List ℕ) : Type 0 where
  pub numbers : AreNumbersOf calls places
  pub once : StandOnce places
  pub sessions : KeepsSessions calls places
  pub times : KeepsBy keeping calls places

-- and back
pub keeps_order : (keeping : By) (calls : List Logged) (places : List ℕ) → AreInOrder keeping calls places → KeepsOrder keeping calls places
keeps_order keeping calls places o = record {
  numbers = numbers_are calls places o.numbers;
  once = stand_once keeping calls places o.pairs;
  sessions = keeps_sessions keeping calls places o.pairs;
  times = keeps_by keeping calls places o.pairs;
}

-- ---- one call is moved

-- a call that may come next may stand before each of those between
may_stand : (keeping : By) (calls : List Logged) (placed between rest : List ℕ) (i : ℕ) (c : Logged) → MayComeNext keeping calls placed i c → Pairs (MayStand keeping calls) (placed ++ (between ++ i ∷ rest)) → AllByRecursion (MayStand keeping calls i) between
may_stand keeping calls placed between rest i c next pairs = all_given (MayStand keeping calls i) between (λ p j e. record {
  other = λ (same : i ≡ j). behind p j e (sym same);
  precedes = λ x d sx sd kd. subst (λ (y : Logged). MayPrecede keeping i y j d) (same_Some c x (sym next.there ∙ sx)) (next.first j d sd kd (λ h. elsewhere p j e h.0 h.1) (behind p j e));
})
  where
    behind : (p j : ℕ) → slice_get between p ≡ Some j → j ≢ i
    behind p j e = (all_at (λ x. AllByRecursion (MayStand keeping calls x) (i ∷ rest)) between (pairs_cross (MayStand keeping calls) between (i ∷ rest) (pairs_last (MayStand keeping calls) placed (between ++ i ∷ rest) pairs)) p j e).0.other

    elsewhere : (p j : ℕ) → slice_get between p ≡ Some j → (q : ℕ) → slice_get placed q ≡ Some j → ⊥
    elsewhere p j e q f = (all_at (MayStand keeping calls j) between (all_split (MayStand keeping calls j) between (i ∷ rest) (all_at (λ x. AllByRecursion (MayStand keeping calls x) (between ++ i ∷ rest)) placed (pairs_cross (MayStand keeping calls) placed (between ++ i ∷ rest) pairs) q j f)).0 p j e).other refl

moved_numbers : (P : ℕ → Type 0) (placed between rest : List ℕ) (i : ℕ) → AllByRecursion P (placed ++ (between ++ i ∷ rest)) → AllByRecursion P (placed ++ i ∷ (between ++ rest))
moved_numbers P placed between rest i all =
    let a = all_split P placed (between ++ i ∷ rest) all in
    let b = all_split P between (i ∷ rest) a.1 in
    all_join P placed (i ∷ (between ++ rest)) a.0 (b.1.0, all_join P between rest b.0 b.1.1)

-- a call moves to the front of those that may stand behind it
pub order_moved_by : (keeping : By) (calls : List Logged) (placed between rest : List ℕ) (i : ℕ) → AllByRecursion (MayStand keeping calls i) between → AreInOrder keeping calls (placed ++ (between ++ i ∷ rest)) → AreInOrder keeping calls (placed ++ i ∷ (between ++ rest))
order_moved_by keeping calls placed between rest i may o = record {
  numbers = moved_numbers (λ (n : ℕ). n < length calls) placed between rest i o.numbers;
  pairs = pairs_moved (MayStand keeping calls) placed between rest i o.pairs may;
}

-- a call that may come next comes next
pub order_moved : (keeping : By) (calls : List Logged) (placed between rest : List ℕ) (i : ℕ) (c : Logged) → MayComeNext keeping calls placed i c → AreInOrder keeping calls (placed ++ (between ++ i ∷ rest)) → AreInOrder keeping calls (placed ++ i ∷ (between ++ rest))
order_moved keeping calls placed between rest i c next o = order_moved_by keeping calls placed between rest i (may_stand keeping calls placed between rest i c next o.pairs) o

-- the same numbers stand in it
pub moved_in : (placed between rest : List ℕ) (i n : ℕ) → IsIn (placed ++ (between ++ i ∷ rest)) n → IsIn (placed ++ i ∷ (between ++ rest)) n
moved_in placed between rest i n h = first (in_either placed (between ++ i ∷ rest) n h)
  where
    third : IsIn (i ∷ rest) n → (p : ℕ) → slice_get (i ∷ rest) p ≡ Some n → IsIn (placed ++ i ∷ (between ++ rest)) n
    third h zero e = in_right placed (i ∷ (between ++ rest)) n (0, e)
    third h (suc p) e = in_right placed (i ∷ (between ++ rest)) n (in_front i (between ++ rest) n (in_right between rest n (p, e)))

    second : IsIn between n ⊎ IsIn (i ∷ rest) n → IsIn (placed ++ i ∷ (between ++ rest)) n
    second (inl a) = in_right placed (i ∷ (between ++ rest)) n (in_front i (between ++ rest) n (in_left between rest n a))
    second (inr b) = third b b.0 b.1

    first : IsIn placed n ⊎ IsIn (between ++ i ∷ rest) n → IsIn (placed ++ i ∷ (between ++ rest)) n
    first (inl a) = in_left placed (i ∷ (between ++ rest)) n a
    first (inr b) = second (in_either between (i ∷ rest) n b)

-- ---- one call is left out

-- one call less is in order
pub order_without : (keeping : By) (calls : List Logged) (placed rest : List ℕ) (i : ℕ) → AreInOrder keeping calls (placed ++ i ∷ rest) → AreInOrder keeping calls (placed ++ rest)
order_without keeping calls placed rest i o =
    let numbers = all_split (λ (n : ℕ). n < length calls) placed (i ∷ rest) o.numbers in
    record {
      numbers = all_join (λ (n : ℕ). n < length calls) placed rest numbers.0 numbers.1.1;
      pairs = pairs_join (MayStand keeping calls) placed rest (pairs_first (MayStand keeping calls) placed (i ∷ rest) o.pairs) (pairs_last (MayStand keeping calls) placed (i ∷ rest) o.pairs).1 (all_weaker (λ x. AllByRecursion (MayStand keeping calls x) (i ∷ rest)) (λ x. AllByRecursion (MayStand keeping calls x) rest) placed (λ x a. a.1) (pairs_cross (MayStand keeping calls) placed (i ∷ rest) o.pairs));
    }

-- what stands elsewhere is still there
pub without_in : (placed rest : List ℕ) (i n : ℕ) → (i ≡ n → ⊥) → IsIn (placed ++ i ∷ rest) n → IsIn (placed ++ rest) n
without_in placed rest i n other h = first (in_either placed (i ∷ rest) n h)
  where
    later : (p : ℕ) → slice_get (i ∷ rest) p ≡ Some n → IsIn (placed ++ rest) n
    later zero e = absurd (other (same_Some i n e))
    later (suc p) e = in_right placed rest n (p, e)

    first : IsIn placed n ⊎ IsIn (i ∷ rest) n → IsIn (placed ++ rest) n
    first (inl a) = in_left placed rest n a
    first (inr b) = later b.0 b.1

-- ---- a beginning changes places with another of the same calls

-- a beginning with the same calls may stand in its place
pub order_exchanged : (keeping : By) (calls : List Logged) (one other rest : List ℕ) → ((i : ℕ) → IsIn other i → IsIn one i) → AreInOrder keeping calls other → AreInOrder keeping calls (one ++ rest) → AreInOrder keeping calls (other ++ rest)
order_exchanged keeping calls one other rest within own o = record {
  numbers = all_join (λ (n : ℕ). n < length calls) other rest own.numbers (all_split (λ (n : ℕ). n < length calls) one rest o.numbers).1;
  pairs = pairs_exchanged (MayStand keeping calls) one other rest within own.pairs o.pairs;
}

-- the whole has the same numbers then
pub exchanged_in : (one other rest : List ℕ) (n : ℕ) → (IsIn one n → IsIn other n) → IsIn (one ++ rest) n → IsIn (other ++ rest) n
exchanged_in one other rest n within h = either (in_either one rest n h)
  where
    either : IsIn one n ⊎ IsIn rest n → IsIn (other ++ rest) n
    either (inl a) = in_left other rest n (within a)
    either (inr b) = in_right other rest n b
