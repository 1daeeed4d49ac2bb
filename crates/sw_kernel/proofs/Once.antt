-- After a tape that brings no key twice each live row is there once, and there are as many items as its steps say.
use Rattle.std.proofs.Common.{◌≡◌, ℕ, zero, suc, ◌+◌, ◌<◌, ℤ, Bool, true, false, not, nat_eq, List, [], ◌∷◌, ◌++◌, length, map, filter, get_or, remove, IsPermutation, ◌⊎◌, refl, ap, sym, ◌∙◌, arith, subst, inl, inr}
use Rattle.std.specs.List.{IsDistinct, AllByRecursion}
use Rattle.std.proofs.lemmas.Bool.Decides.{nat_tests}
use Rattle.std.proofs.lemmas.List.{length-append}
use Rattle.std.proofs.lemmas.List.Edits.{length-remove}
use Rattle.std.proofs.lemmas.List.Sorted.{IsPermutation-sym, IsPermutation-map, length_permutation}
use Rattle.std.proofs.lemmas.Map.Keys.{IsDistinct-IsPermutation}
use Rattle.sw_kernel.specs.Arrangement.{Arrangement, last, joined, ripple_insert, ripple_remove}
use Rattle.sw_kernel.specs.Replay.{Step, loaded, inserted, removed, ranged, step, crack_at, replay_from, replay}
use Rattle.sw_kernel.specs.Tapes.{count_after, count_from, MayFollow, AllFollow, IsTape, without_place, live_after, live_from, live_rows, brought_by, brought, BringsKeysOnce, HoldsOnce}
use Rattle.sw_kernel.proofs.Moves.{insert-moves, remove-moves, crack_at-moves}
use Rattle.sw_kernel.proofs.Members.{Mem, mem-at, mem-permutation, mem-from_contains, contains-from_mem, mem-left, mem-last, mem-either, mem-filter, mem-filtered}

-- `HoldsOnce` with members by recursion
pub record Held {A : Type 0} (key : A → ℕ) (items rows : List A) : Type 0 where
  pub no_more : (x : A) → Mem x items → Mem x rows
  pub no_less : (x : A) → Mem x rows → Mem x items
  pub once : IsDistinct nat_eq (map key items)

-- from members by recursion to members by place
pub once-from_held : {A : Type 0} (key : A → ℕ) (items rows : List A) → Held key items rows → HoldsOnce key items rows
once-from_held key items rows h = record {
  no_more = λ x c. contains-from_mem rows x (h.no_more x (mem-from_contains items x c));
  no_less = λ x c. contains-from_mem items x (h.no_less x (mem-from_contains rows x c));
  once = h.once;
}

-- from members by place to members by recursion
pub held-from_once : {A : Type 0} (key : A → ℕ) (items rows : List A) → HoldsOnce key items rows → Held key items rows
held-from_once key items rows h = record {
  no_more = λ x m. mem-from_contains rows x (h.no_more x (contains-from_mem items x m));
  no_less = λ x m. mem-from_contains items x (h.no_less x (contains-from_mem rows x m));
  once = h.once;
}

eq-flips : (m n : ℕ) → nat_eq m n ≡ nat_eq n m
eq-flips m n = grind (arith, nat_tests)

-- ---- the same items in another order
pub held-moved : {A : Type 0} (key : A → ℕ) (items moved rows : List A) → IsPermutation items moved → Held key items rows → Held key moved rows
held-moved key items moved rows p h = record {
  no_more = λ x m. h.no_more x (mem-permutation moved items (IsPermutation-sym items moved p) x m);
  no_less = λ x m. mem-permutation items moved p x (h.no_less x m);
  once = IsDistinct-IsPermutation nat_eq eq-flips (map key items) (map key moved) (IsPermutation-map key items moved p) h.once;
}

-- ---- one item goes
head-differs : {A : Type 0} (key : A → ℕ) (n : ℕ) (xs : List A) (y : A) → AllByRecursion (λ m. nat_eq n m ≡ false) (map key xs) → Mem y xs → nat_eq n (key y) ≡ false
head-differs key n [] y a m = absurd m
head-differs key n (x ∷ xs) y a (inl e) = subst (λ v. nat_eq n (key v) ≡ false) (sym e) a.0
head-differs key n (x ∷ xs) y a (inr m) = head-differs key n xs y a.1 m

same-key : (m n : ℕ) → m ≡ n → nat_eq m n ≡ false → ⊥
same-key m n e h = grind (arith, nat_tests)

removed-to : {A : Type 0} (key : A → ℕ) (xs : List A) (p : ℕ) (x : A) → x ≡ get_or xs p x → p < length xs → IsDistinct nat_eq (map key xs) → (y : A) → Mem y (remove xs p) → Mem y xs × (nat_eq (key y) (key x) ≡ false)
unfolding IsDistinct
removed-to key [] p x is lt d y m = let no : p < 0 = lt in absurd (omega arith)
removed-to key (z ∷ zs) zero x is lt d y m = (inr m, eq-flips (key y) (key x) ∙ ap (λ v. nat_eq (key v) (key y)) is ∙ head-differs key (key z) zs y d.0 m)
removed-to key (z ∷ zs) (suc p) x is lt d y (inl e) =
    let in_zs = mem-at zs p x (omega arith) (sym is) in
    (inl e, ap (λ v. nat_eq (key v) (key x)) e ∙ head-differs key (key z) zs x d.0 in_zs)
removed-to key (z ∷ zs) (suc p) x is lt d y (inr m) = let r = removed-to key zs p x is (omega arith) d.1 y m in (inr r.0, r.1)

removed-from : {A : Type 0} (key : A → ℕ) (xs : List A) (p : ℕ) (x : A) → x ≡ get_or xs p x → p < length xs → (y : A) → Mem y xs → nat_eq (key y) (key x) ≡ false → Mem y (remove xs p)
removed-from key [] p x is lt y m h = absurd m
removed-from key (z ∷ zs) zero x is lt y (inl e) h = absurd (same-key (key y) (key x) (ap key (e ∙ sym is)) h)
removed-from key (z ∷ zs) zero x is lt y (inr m) h = m
removed-from key (z ∷ zs) (suc p) x is lt y (inl e) h = inl e
removed-from key (z ∷ zs) (suc p) x is lt y (inr m) h = inr (removed-from key zs p x is (omega arith) y m h)

all-remove : {A : Type 0} (key : A → ℕ) (P : ℕ → Type 0) (xs : List A) (p : ℕ) → AllByRecursion P (map key xs) → AllByRecursion P (map key (remove xs p))
all-remove key P [] zero a = tt
all-remove key P [] (suc p) a = tt
all-remove key P (z ∷ zs) zero a = a.1
all-remove key P (z ∷ zs) (suc p) a = (a.0, all-remove key P zs p a.1)

distinct-remove : {A : Type 0} (key : A → ℕ) (xs : List A) (p : ℕ) → IsDistinct nat_eq (map key xs) → IsDistinct nat_eq (map key (remove xs p))
unfolding IsDistinct
distinct-remove key [] zero d = tt
distinct-remove key [] (suc p) d = tt
distinct-remove key (z ∷ zs) zero d = d.1
distinct-remove key (z ∷ zs) (suc p) d = (all-remove key (λ n. nat_eq (key z) n ≡ false) zs p d.0, distinct-remove key zs p d.1)

not-true : (b : Bool) → not b ≡ true → b ≡ false
not-true true h = sym h
not-true false h = refl

-- where an item goes and the rows of its key go, the items are still just the rows
pub held-removed : {A : Type 0} (key : A → ℕ) (items rows : List A) (p : ℕ) (x : A) → x ≡ get_or items p x → p < length items → Held key items rows → Held key (remove items p) (filter (λ r. not (nat_eq (key r) (key x))) rows)
held-removed {A} key items rows p x is lt h =
    let stays : A → Bool = λ r. not (nat_eq (key r) (key x)) in
    record {
      no_more = λ y m. let r = removed-to key items p x is lt h.once y m in mem-filter stays rows y (h.no_more y r.0) (ap not r.1);
      no_less = λ y m. let s = mem-filtered stays rows y m in removed-from key items p x is lt y (h.no_less y s.0) (not-true (nat_eq (key y) (key x)) s.1);
      once = distinct-remove key items p h.once;
    }

-- the item at a place, and the rows without its key
without-is : {A : Type 0} (key : A → ℕ) (xs : List A) (p : ℕ) (rows : List A) → p < length xs → (x : A) × (x ≡ get_or xs p x) × (without_place key xs p rows ≡ filter (λ r. not (nat_eq (key r) (key x))) rows)
without-is key [] p rows lt = let no : p < 0 = lt in absurd (omega arith)
without-is key (x ∷ xs) zero rows lt = (x, refl, refl)
without-is key (x ∷ xs) (suc p) rows lt = without-is key xs p rows (omega arith)

-- where the item at a place goes and so does its key, the items are still just the rows
pub held-without : {A : Type 0} (key : A → ℕ) (items rows : List A) (p : ℕ) → p < length items → Held key items rows → Held key (remove items p) (without_place key items p rows)
held-without {A} key items rows p lt h =
    let w = without-is key items p rows lt in
    subst (λ (l : List A). Held key (remove items p) l) (sym w.2) (held-removed key items rows p w.0 w.1 lt h)

-- taking out the key of a place brings no row that was not there
pub without-less : {A : Type 0} (key : A → ℕ) (items rows : List A) (p : ℕ) → p < length items → (y : A) → Mem y (without_place key items p rows) → Mem y rows
without-less {A} key items rows p lt y m =
    let w = without-is key items p rows lt in
    (mem-filtered (λ (r : A). not (nat_eq (key r) (key w.0))) rows y (subst (λ (l : List A). Mem y l) w.2 m)).0

-- ---- one item comes
mem-carry : {A : Type 0} (xs ys : List A) (r : A) → ((x : A) → Mem x xs → Mem x ys) → (y : A) → (Mem y xs) ⊎ (y ≡ r) → Mem y (ys ++ r ∷ [])
mem-carry xs ys r f y (inl m) = mem-left ys (r ∷ []) y (f y m)
mem-carry xs ys r f y (inr e) = mem-last ys r y e

all-last : {A : Type 0} (key : A → ℕ) (P : ℕ → Type 0) (xs : List A) (r : A) → AllByRecursion P (map key xs) → P (key r) → AllByRecursion P (map key (xs ++ r ∷ []))
all-last key P [] r a p = (p, tt)
all-last key P (x ∷ xs) r a p = (a.0, all-last key P xs r a.1 p)

distinct-last : {A : Type 0} (key : A → ℕ) (xs : List A) (r : A) → IsDistinct nat_eq (map key xs) → ((x : A) → Mem x xs → nat_eq (key x) (key r) ≡ false) → IsDistinct nat_eq (map key (xs ++ r ∷ []))
unfolding IsDistinct
distinct-last key [] r d h = (tt, tt)
distinct-last key (x ∷ xs) r d h = (all-last key (λ n. nat_eq (key x) n ≡ false) xs r d.0 (h x (inl refl)), distinct-last key xs r d.1 (λ y m. h y (inr m)))

-- where a row of a new key comes, the items are still just the rows, no key twice
pub held-inserted : {A : Type 0} (key : A → ℕ) (items rows : List A) (r : A) → ((x : A) → Mem x rows → nat_eq (key x) (key r) ≡ false) → Held key items rows → Held key (items ++ r ∷ []) (rows ++ r ∷ [])
held-inserted key items rows r new h = record {
  no_more = λ y m. mem-carry items rows r h.no_more y (mem-either items r y m);
  no_less = λ y m. mem-carry rows items r h.no_less y (mem-either rows r y m);
  once = distinct-last key items r h.once (λ x m. new x (h.no_more x m));
}

-- ---- a step
-- no row has a key that is yet to come
abbrev pub IsFresh : {A : Type 0} → (A → ℕ) → List A → List A → Type 0
IsFresh {A} key rows coming = (x : A) → Mem x rows → AllByRecursion (λ y. nat_eq (key x) (key y) ≡ false) coming

-- after a step that may follow and brings no key that is there, the items are just the live rows
pub held-step : {A : Type 0} (value : A → ℤ) (key : A → ℕ) (e : Step A) (a : Arrangement A) (rows : List A) → MayFollow (length (joined a)) e → IsFresh key rows (brought_by e) → Held key (joined a) rows → Held key (joined (step value e a)) (live_after key (joined a) e rows)
held-step value key (loaded xs) a rows f new h = absurd f
held-step value key (inserted x) a rows f new h =
    held-moved key (joined a ++ x ∷ []) (joined (ripple_insert value x a)) (rows ++ x ∷ []) (insert-moves value x a) (held-inserted key (joined a) rows x (λ y m. (new y m).0) h)
held-step value key (removed p) a rows f new h =
    held-moved key (remove (joined a) p) (joined (ripple_remove p a)) (without_place key (joined a) p rows) (remove-moves p a) (held-without key (joined a) rows p f h)
held-step value key (ranged l u) a rows f new h =
    let one = held-moved key (joined a) (joined (crack_at value l a)) rows (crack_at-moves value l a) h in
    held-moved key (joined (crack_at value l a)) (joined (crack_at value u (crack_at value l a))) rows (crack_at-moves value u (crack_at value l a)) one

-- ---- how many items there are
pub count-step : {A : Type 0} (value : A → ℤ) (e : Step A) (a : Arrangement A) → MayFollow (length (joined a)) e → length (joined (step value e a)) ≡ count_after (length (joined a)) e
count-step value (loaded xs) a f = absurd f
count-step value (inserted x) a f = length_permutation (joined a ++ x ∷ []) (joined (ripple_insert value x a)) (insert-moves value x a) ∙ length-append (joined a) (x ∷ [])
count-step value (removed p) a f =
    let less : length (remove (joined a) p) + 1 ≡ length (joined a) = length-remove (joined a) p f in
    length_permutation (remove (joined a) p) (joined (ripple_remove p a)) (remove-moves p a) ∙ omega (arith, less)
count-step value (ranged l u) a f =
    length_permutation (joined (crack_at value l a)) (joined (crack_at value u (crack_at value l a))) (crack_at-moves value u (crack_at value l a)) ∙ length_permutation (joined a) (joined (crack_at value l a)) (crack_at-moves value l a)

next-follow : {A : Type 0} (value : A → ℤ) (e : Step A) (es : List (Step A)) (a : Arrangement A) → MayFollow (length (joined a)) e → AllFollow (count_after (length (joined a)) e) es → AllFollow (length (joined (step value e a))) es
next-follow {A} value e es a f fs = subst (λ (n : ℕ). AllFollow n es) (sym (count-step value e a f)) fs

-- after steps that may follow there are as many items as they say
pub count-from : {A : Type 0} (value : A → ℤ) (es : List (Step A)) (a : Arrangement A) → AllFollow (length (joined a)) es → length (joined (replay_from value a es)) ≡ count_from (length (joined a)) es
count-from value [] a f = refl
count-from value (e ∷ es) a f =
    count-from value es (step value e a) (next-follow value e es a f.0 f.1) ∙ ap (λ (n : ℕ). count_from n es) (count-step value e a f.0)

-- after a tape there are as many items as its steps say
pub count-replay : {A : Type 0} (value : A → ℤ) (es : List (Step A)) → IsTape es → length (joined (replay value es)) ≡ count_from 0 es
count-replay value [] t = absurd t
count-replay {A} value (loaded xs ∷ es) t = let z : length xs ≡ 0 + length xs = omega arith in count-from value es (last xs) t ∙ ap (λ (n : ℕ). count_from {A = A} n es) z
count-replay value (inserted x ∷ es) t = absurd t
count-replay value (removed p ∷ es) t = absurd t
count-replay value (ranged l u ∷ es) t = absurd t

-- ---- a whole tape
all-unmap : {A : Type 0} (key : A → ℕ) (n : ℕ) (xs : List A) → AllByRecursion (λ m. nat_eq n m ≡ false) (map key xs) → AllByRecursion (λ y. nat_eq n (key y) ≡ false) xs
all-unmap key n [] h = tt
all-unmap key n (x ∷ xs) h = (h.0, all-unmap key n xs h.1)

fresh-less : {A : Type 0} (key : A → ℕ) (rows rows' coming : List A) → ((y : A) → Mem y rows' → Mem y rows) → IsFresh key rows coming → IsFresh key rows' coming
fresh-less key rows rows' coming less new y m = new y (less y m)

fresh-more : {A : Type 0} (key : A → ℕ) (rows : List A) (x : A) (coming : List A) → IsFresh key rows (x ∷ coming) → IsDistinct nat_eq (map key (x ∷ coming)) → (y : A) → Mem y rows ⊎ (y ≡ x) → AllByRecursion (λ z. nat_eq (key y) (key z) ≡ false) coming
unfolding IsDistinct
fresh-more key rows x coming new d y (inl m) = (new y m).1
fresh-more key rows x coming new d y (inr e) = subst (λ v. AllByRecursion (λ z. nat_eq (key v) (key z) ≡ false) coming) (sym e) (all-unmap key (key x) coming d.0)

-- where all keys that come are new and none comes twice, those of the later steps are new after a step
pub fresh-step : {A : Type 0} (key : A → ℕ) (e : Step A) (es : List (Step A)) (items rows : List A) → MayFollow (length items) e → IsFresh key rows (brought (e ∷ es)) → IsDistinct nat_eq (map key (brought (e ∷ es))) → IsFresh key (live_after key items e rows) (brought es)
fresh-step key (loaded xs) es items rows f new d = absurd f
fresh-step key (inserted x) es items rows f new d = λ y m. fresh-more key rows x (brought es) new d y (mem-either rows x y m)
fresh-step key (removed p) es items rows f new d = fresh-less key rows (without_place key items p rows) (brought es) (without-less key items rows p f) new
fresh-step key (ranged l u) es items rows f new d = new

all-front : {A : Type 0} (P : A → Type 0) (xs ys : List A) → AllByRecursion P (xs ++ ys) → AllByRecursion P xs
all-front P [] ys h = tt
all-front P (x ∷ xs) ys h = (h.0, all-front P xs ys h.1)

fresh-now : {A : Type 0} (key : A → ℕ) (rows : List A) (e : Step A) (es : List (Step A)) → IsFresh key rows (brought (e ∷ es)) → IsFresh key rows (brought_by e)
fresh-now {A} key rows e es new y m = all-front (λ (z : A). nat_eq (key y) (key z) ≡ false) (brought_by e) (brought es) (new y m)

distinct-back : {A : Type 0} (key : A → ℕ) (xs ys : List A) → IsDistinct nat_eq (map key (xs ++ ys)) → IsDistinct nat_eq (map key ys)
unfolding IsDistinct
distinct-back key [] ys d = d
distinct-back key (x ∷ xs) ys d = distinct-back key xs ys d.1

front-unmap : {A : Type 0} (key : A → ℕ) (n : ℕ) (xs ys : List A) → AllByRecursion (λ m. nat_eq n m ≡ false) (map key (xs ++ ys)) → AllByRecursion (λ m. nat_eq n m ≡ false) (map key xs)
front-unmap key n [] ys h = tt
front-unmap key n (x ∷ xs) ys h = (h.0, front-unmap key n xs ys h.1)

back-unmap : {A : Type 0} (key : A → ℕ) (n : ℕ) (xs ys : List A) → AllByRecursion (λ m. nat_eq n m ≡ false) (map key (xs ++ ys)) → AllByRecursion (λ y. nat_eq n (key y) ≡ false) ys
back-unmap key n [] ys h = all-unmap key n ys h
back-unmap key n (x ∷ xs) ys h = back-unmap key n xs ys h.1

distinct-front : {A : Type 0} (key : A → ℕ) (xs ys : List A) → IsDistinct nat_eq (map key (xs ++ ys)) → IsDistinct nat_eq (map key xs)
unfolding IsDistinct
distinct-front key [] ys d = tt
distinct-front key (x ∷ xs) ys d = (front-unmap key (key x) xs ys d.0, distinct-front key xs ys d.1)

distinct-across : {A : Type 0} (key : A → ℕ) (xs ys : List A) → IsDistinct nat_eq (map key (xs ++ ys)) → IsFresh key xs ys
unfolding IsDistinct
distinct-across key [] ys d y m = absurd m
distinct-across key (x ∷ xs) ys d y (inl e) = subst (λ v. AllByRecursion (λ z. nat_eq (key v) (key z) ≡ false) ys) (sym e) (back-unmap key (key x) xs ys d.0)
distinct-across key (x ∷ xs) ys d y (inr m) = distinct-across key xs ys d.1 y m

-- after steps that may follow and bring new keys, none twice, the items are just the live rows
pub held-from : {A : Type 0} (value : A → ℤ) (key : A → ℕ) (es : List (Step A)) (a : Arrangement A) (rows : List A) → AllFollow (length (joined a)) es → IsFresh key rows (brought es) → IsDistinct nat_eq (map key (brought es)) → Held key (joined a) rows → Held key (joined (replay_from value a es)) (live_from value key a es rows)
held-from value key [] a rows f new d h = h
held-from value key (e ∷ es) a rows f new d h =
    held-from value key es (step value e a) (live_after key (joined a) e rows) (next-follow value e es a f.0 f.1) (fresh-step key e es (joined a) rows f.0 new d) (distinct-back key (brought_by e) (brought es) d)
    (held-step value key e a rows f.0 (fresh-now key rows e es new) h)

-- after a tape that brings no key twice the items are just its live rows
pub held-replay : {A : Type 0} (value : A → ℤ) (key : A → ℕ) (es : List (Step A)) → IsTape es → BringsKeysOnce key es → Held key (joined (replay value es)) (live_rows value key es)
held-replay value key [] t d = absurd t
held-replay value key (loaded xs ∷ es) t d =
    held-from value key es (last xs) xs t (distinct-across key xs (brought es) d) (distinct-back key xs (brought es) d) (record { no_more = λ x m. m; no_less = λ x m. m; once = distinct-front key xs (brought es) d })
held-replay value key (inserted x ∷ es) t d = absurd t
held-replay value key (removed p ∷ es) t d = absurd t
held-replay value key (ranged l u ∷ es) t d = absurd t
