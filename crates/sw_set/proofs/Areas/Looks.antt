-- What looks over boxes say of what the boxes hold; what a range does to the tape.
use Rattle.std.proofs.Common.{◌≡◌, ℕ, ◌<◌, false, List, length, get_or, map, arith, subst, All, Contains, MatchOption, IfSome, Option, Some, None}
use Rattle.std.proofs.lemmas.List.{length-map}
use Rattle.sw_map.specs.declared.tail.Tail.{Tail}
use Rattle.sw_map.specs.Held.{Held}
use Rattle.sw_set.specs.Boxed.{IsFree}
use Rattle.sw_set.proofs.Areas.Boxes.{held-at, held-all}

-- a place of a box at which something holds of what it holds is such a place among what they hold
pub some-at : {X : Type 0} (h : X → Held) (P : Held → Type 0) (ys : List X) (ms : List Held) (i : ℕ) → map h ys ≡ ms → i < length ys → ((d : X) → P (h (get_or ys i d))) → (i < length ms) × ((d : Held) → P (get_or ms i d))
some-at h P ys ms i is lt p = subst (λ (v : List Held). (i < length v) × ((d : Held) → P (get_or v i d))) is (let many = length-map ys h in (omega arith, λ d. held-at h P ys i lt p d))

-- what holds of what each box holds holds of all in the list that they hold
pub all-of : {X : Type 0} (h : X → Held) (P : Held → Type 0) (ys : List X) (ms : List Held) → map h ys ≡ ms → All (λ m. P (h m)) ys → All P ms
all-of h P ys ms is all = subst (All P) is (held-all h P ys all)

-- a place that a look over boxes finds, if it finds one, is one in the list of what they hold
pub look-some : {X : Type 0} (h : X → Held) (P : Held → Type 0) (r : Option ℕ) (ys : List X) (ms : List Held) → map h ys ≡ ms → IfSome r (λ i. (i < length ys) × ((d : X) → P (h (get_or ys i d)))) → IfSome r (λ i. (i < length ms) × ((d : Held) → P (get_or ms i d)))
look-some h P None ys ms is w = w
look-some h P (Some i) ys ms is w = some-at h P ys ms i is w.0 w.1

-- what a look over boxes finds, a place or none, it finds in the list of what they hold
pub look : {X : Type 0} (h : X → Held) (N P : Held → Type 0) (r : Option ℕ) (ys : List X) (ms : List Held) → map h ys ≡ ms → MatchOption r (All (λ m. N (h m)) ys) (λ i. (i < length ys) × ((d : X) → P (h (get_or ys i d)))) → MatchOption r (All N ms) (λ i. (i < length ms) × ((d : Held) → P (get_or ms i d)))
look h N P None ys ms is w = all-of h N ys ms is w
look h N P (Some i) ys ms is w = some-at h P ys ms i is w.0 w.1

-- where all boxes have maps, a look finds one that may be taken, or each map is needed
pub look-free : {X : Type 0} (h : X → Held) (tails : List Tail) (r : Option ℕ) (ys : List X) (ms : List Held) → map h ys ≡ ms → All (λ m. (h m).is_blank ≡ false) ys → MatchOption r (All (λ m. Contains tails (h m).tail) ys) (λ i. (i < length ys) × ((d : X) → ¬ Contains tails (h (get_or ys i d)).tail)) → MatchOption r (All (λ m. (m.is_blank ≡ false) × Contains tails m.tail) ms) (λ i. (i < length ms) × ((d : Held) → IsFree tails (get_or ms i d)))
look-free h tails None ys ms is b w = all-of h (λ m. (m.is_blank ≡ false) × Contains tails m.tail) ys ms is (λ k d l. (b k d l, w k d l))
look-free h tails (Some i) ys ms is b w = some-at h (IsFree tails) ys ms i is w.0 (λ d _. w.1 d)
