-- A step on items and then showing them is showing them and then the step: steps depend on head values alone.
use Rattle.std.proofs.Common.{◌≡◌, ℕ, suc, zero, ◌-◌, ℤ, true, false, cond, List, [], ◌∷◌, ◌++◌, length, map, reverse, Option, None, Some, nat_lt, refl, sym, ap, ap₂, ◌∙◌, subst}
use Rattle.std.proofs.lemmas.List.{map-append, length-map}
use Rattle.sw_query.specs.declared.bound.Bound.{Bound}
use Rattle.sw_query.specs.Bounds.{same_bound, bound_below}
use Rattle.sw_kernel.specs.Partition.{left_part, right_part, goes_left}
use Rattle.sw_kernel.specs.Arrangement.{Arrangement, last, piece, crack, first_to_end, last_to_front, take_out, each_piece, ripple_insert, ripple_remove}
use Rattle.sw_kernel.specs.Replay.{crack_at, Step, loaded, inserted, removed, ranged, load, step, replay_from, shown, shown_step}
use Rattle.sw_kernel.proofs.Parts.{left-map, right-map, map-reverse}

-- a crack on items and then showing them is showing them and then the crack
pub shown-crack : {A B : Type 0} (f : A → B) (value : B → ℤ) (b : Bound) (a : Arrangement A) → shown f (crack (λ x. value (f x)) b a) ≡ crack value b (shown f a)
shown-crack f value b (last xs) = ap₂ (λ l r. piece l b (last r)) (left-map f (goes_left value b) xs) (right-map f (goes_left value b) xs)
shown-crack {A} {B} f value b (piece xs c rest) =
    let v : A → ℤ = λ x. value (f x) in
    let inner : shown f (cond (bound_below b c) (piece (left_part (goes_left v b) xs) b (piece (right_part (goes_left v b) xs) c rest)) (piece xs c (crack v b rest)))
    ≡ cond (bound_below b c) (piece (left_part (goes_left value b) (map f xs)) b (piece (right_part (goes_left value b) (map f xs)) c (shown f rest))) (piece (map f xs) c (crack value b (shown f rest))) =
    elim (bound_below b c) as (λ t. shown f (cond t (piece (left_part (goes_left v b) xs) b (piece (right_part (goes_left v b) xs) c rest)) (piece xs c (crack v b rest)))
    ≡ cond t (piece (left_part (goes_left value b) (map f xs)) b (piece (right_part (goes_left value b) (map f xs)) c (shown f rest))) (piece (map f xs) c (crack value b (shown f rest)))) [
      | true ↦ ap₂ (λ l r. piece l b (piece r c (shown f rest))) (left-map f (goes_left value b) xs) (right-map f (goes_left value b) xs)
      | false ↦ ap (λ r. piece (map f xs) c r) (shown-crack f value b rest)
    ] in
    elim (same_bound b c) as (λ t. shown f (cond t (piece xs c rest) (cond (bound_below b c) (piece (left_part (goes_left v b) xs) b (piece (right_part (goes_left v b) xs) c rest)) (piece xs c (crack v b rest))))
    ≡ cond t (piece (map f xs) c (shown f rest)) (cond (bound_below b c) (piece (left_part (goes_left value b) (map f xs)) b (piece (right_part (goes_left value b) (map f xs)) c (shown f rest))) (piece (map f xs) c (crack value b (shown f rest))))) [
      | true ↦ refl
      | false ↦ inner
    ]

-- a crack at a bound that may be missing and then showing is showing and then the crack
pub shown-crack_at : {A B : Type 0} (f : A → B) (value : B → ℤ) (o : Option Bound) (a : Arrangement A) → shown f (crack_at (λ x. value (f x)) o a) ≡ crack_at value o (shown f a)
shown-crack_at f value None a = refl
shown-crack_at f value (Some b) a = shown-crack f value b a

-- loading items and then showing all is showing all and then loading them
pub shown-load : {A B : Type 0} (f : A → B) (ys : List A) (a : Arrangement A) → shown f (load ys a) ≡ load (map f ys) (shown f a)
shown-load f ys (last xs) = ap last (map-append f xs ys)
shown-load f ys (piece xs b rest) = ap (λ r. piece (map f xs) b r) (shown-load f ys rest)

map-first_to_end : {A B : Type 0} (f : A → B) (xs : List A) → map f (first_to_end xs) ≡ first_to_end (map f xs)
map-first_to_end f [] = refl
map-first_to_end f (x ∷ xs) = map-append f xs (x ∷ [])

map-last_to_front : {A B : Type 0} (f : A → B) (xs : List A) → map f (last_to_front xs) ≡ last_to_front (map f xs)
map-last_to_front f xs = map-reverse f (first_to_end (reverse xs)) ∙ ap reverse (map-first_to_end f (reverse xs) ∙ ap first_to_end (map-reverse f xs))

shown-each : {A B : Type 0} (f : A → B) (g : List A → List A) (h : List B → List B) → ((xs : List A) → map f (g xs) ≡ h (map f xs)) → (a : Arrangement A) → shown f (each_piece g a) ≡ each_piece h (shown f a)
shown-each f g h e (last xs) = ap last (e xs)
shown-each f g h e (piece xs b rest) = ap₂ (λ l r. piece l b r) (e xs) (shown-each f g h e rest)

-- an insertion and then showing is showing and then the insertion of the shown item
pub shown-insert : {A B : Type 0} (f : A → B) (value : B → ℤ) (x : A) (a : Arrangement A) → shown f (ripple_insert (λ y. value (f y)) x a) ≡ ripple_insert value (f x) (shown f a)
shown-insert f value x (last xs) = ap last (map-append f xs (x ∷ []))
shown-insert {A} f value x (piece xs b rest) =
    let v : A → ℤ = λ y. value (f y) in
    elim (goes_left value b (f x)) as (λ t. shown f (cond t (piece (xs ++ x ∷ []) b (each_piece first_to_end rest)) (piece xs b (ripple_insert v x rest)))
    ≡ cond t (piece (map f xs ++ f x ∷ []) b (each_piece first_to_end (shown f rest))) (piece (map f xs) b (ripple_insert value (f x) (shown f rest)))) [
      | true ↦ ap₂ (λ l r. piece l b r) (map-append f xs (x ∷ [])) (shown-each f first_to_end first_to_end (map-first_to_end f) rest)
      | false ↦ ap (λ r. piece (map f xs) b r) (shown-insert f value x rest)
    ]

map-take_out : {A B : Type 0} (f : A → B) (xs : List A) (n : ℕ) → map f (take_out xs n) ≡ take_out (map f xs) n
map-take_out f [] n = refl
map-take_out f (x ∷ xs) zero = map-last_to_front f xs
map-take_out f (x ∷ xs) (suc n) = ap (λ l. f x ∷ l) (map-take_out f xs n)

-- a removal and then showing is showing and then the removal
pub shown-remove : {A B : Type 0} (f : A → B) (n : ℕ) (a : Arrangement A) → shown f (ripple_remove n a) ≡ ripple_remove n (shown f a)
shown-remove f n (last xs) = ap last (map-take_out f xs n)
shown-remove {A} {B} f n (piece xs b rest) =
    let long : length (map f xs) ≡ length xs = length-map xs f in
    let Is : ℕ → Type 0 = λ m. shown f (cond (nat_lt n (length xs)) (piece (take_out xs n) b (each_piece last_to_front rest)) (piece xs b (ripple_remove (n - length xs) rest)))
    ≡ cond (nat_lt n m) (piece (take_out (map f xs) n) b (each_piece last_to_front (shown f rest))) (piece (map f xs) b (ripple_remove (n - m) (shown f rest))) in
    subst Is (sym long) (elim (nat_lt n (length xs)) as (λ t. shown f (cond t (piece (take_out xs n) b (each_piece last_to_front rest)) (piece xs b (ripple_remove (n - length xs) rest)))
    ≡ cond t (piece (take_out (map f xs) n) b (each_piece last_to_front (shown f rest))) (piece (map f xs) b (ripple_remove (n - length xs) (shown f rest)))) [
      | true ↦ ap₂ (λ l r. piece l b r) (map-take_out f xs n) (shown-each f last_to_front last_to_front (map-last_to_front f) rest)
      | false ↦ ap (λ r. piece (map f xs) b r) (shown-remove f (n - length xs) rest)
    ])

-- the law for each kind of entry
pub shown-step : {A B : Type 0} (f : A → B) (value : B → ℤ) (e : Step A) (a : Arrangement A) → shown f (step (λ x. value (f x)) e a) ≡ step value (shown_step f e) (shown f a)
shown-step f value (loaded ys) a = shown-load f ys a
shown-step f value (inserted x) a = shown-insert f value x a
shown-step f value (removed n) a = shown-remove f n a
shown-step {A} f value (ranged l u) a = shown-crack_at f value u (crack_at (λ (x : A). value (f x)) l a) ∙ ap (crack_at value u) (shown-crack_at f value l a)

-- and for the whole tape
pub shown-replay_from : {A B : Type 0} (f : A → B) (value : B → ℤ) (es : List (Step A)) (a : Arrangement A) → shown f (replay_from (λ x. value (f x)) a es) ≡ replay_from value (shown f a) (map (shown_step f) es)
shown-replay_from f value [] a = refl
shown-replay_from {A} f value (e ∷ es) a =
    shown-replay_from f value es (step (λ (x : A). value (f x)) e a) ∙ ap (λ b. replay_from value b (map (shown_step f) es)) (shown-step f value e a)
