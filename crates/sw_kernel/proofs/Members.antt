-- Members of lists, by recursion, and what holds of each.
use Rattle.std.proofs.Common.{◌≡◌, ℕ, zero, suc, ◌<◌, Bool, true, false, cond, List, [], ◌∷◌, ◌++◌, length, filter, get_or, refl, ap, sym, ◌∙◌, arith, subst, Contains, ◌⊎◌, inl, inr, IsPermutation}
use Rattle.std.specs.List.{AllByRecursion}
use Rattle.std.proofs.lemmas.List.Sorted.{Contains-permutation}

-- the item is among those of the list
abbrev pub Mem : {X : Type 0} → X → List X → Type 0
Mem x [] = ⊥
Mem x (y ∷ ys) = (x ≡ y) ⊎ Mem x ys

-- an item that stands at a place of the list is a member
pub mem-at : {X : Type 0} (xs : List X) (k : ℕ) (x : X) → k < length xs → get_or xs k x ≡ x → Mem x xs
mem-at [] k x lt e = let no : k < 0 = lt in absurd (omega arith)
mem-at (y ∷ ys) zero x lt e = inl (sym e)
mem-at (y ∷ ys) (suc k) x lt e = inr (mem-at ys k x (omega arith) e)

-- what a list contains is a member of it
pub mem-from_contains : {X : Type 0} (xs : List X) (x : X) → Contains xs x → Mem x xs
mem-from_contains xs x c = mem-at xs c.0 x c.1 c.2

-- a member stands at some place of the list
pub contains-from_mem : {X : Type 0} (xs : List X) (x : X) → Mem x xs → Contains xs x
contains-from_mem [] x m = absurd m
contains-from_mem (y ∷ ys) x (inl e) = (0, omega arith, sym e)
contains-from_mem (y ∷ ys) x (inr m) = let p = contains-from_mem ys x m in let lt : p.0 < length ys = p.1 in (suc p.0, omega arith, p.2)

-- a member stays one where the items are put in another order
pub mem-permutation : {X : Type 0} (xs ys : List X) → IsPermutation xs ys → (x : X) → Mem x xs → Mem x ys
mem-permutation xs ys p x m = mem-from_contains ys x (Contains-permutation xs ys x p (contains-from_mem xs x m))

-- what holds of all items holds of each member
pub all-mem : {X : Type 0} (P : X → Type 0) (xs : List X) (x : X) → AllByRecursion P xs → Mem x xs → P x
all-mem P [] x a m = absurd m
all-mem P (y ∷ ys) x a (inl e) = subst P (sym e) a.0
all-mem P (y ∷ ys) x a (inr m) = all-mem P ys x a.1 m

-- what holds of each member holds of all items
pub all-from_mem : {X : Type 0} (P : X → Type 0) (xs : List X) → ((x : X) → Mem x xs → P x) → AllByRecursion P xs
all-from_mem P [] h = tt
all-from_mem P (x ∷ xs) h = (h x (inl refl), all-from_mem P xs (λ y m. h y (inr m)))

-- what holds of all items holds of them in another order
pub all-moved : {X : Type 0} (P : X → Type 0) (xs ys : List X) → IsPermutation xs ys → AllByRecursion P ys → AllByRecursion P xs
all-moved P xs ys p a = all-from_mem P xs (λ x m. all-mem P ys x a (mem-permutation xs ys p x m))

-- what follows from something that holds of all items holds of all items
pub all-weaker : {X : Type 0} (P Q : X → Type 0) → ((x : X) → P x → Q x) → (xs : List X) → AllByRecursion P xs → AllByRecursion Q xs
all-weaker P Q f [] a = tt
all-weaker P Q f (x ∷ xs) a = (f x a.0, all-weaker P Q f xs a.1)

-- what holds of all items of two lists holds of all items of both together
pub all-append : {X : Type 0} (P : X → Type 0) (xs ys : List X) → AllByRecursion P xs → AllByRecursion P ys → AllByRecursion P (xs ++ ys)
all-append P [] ys h k = k
all-append P (x ∷ xs) ys h k = (h.0, all-append P xs ys h.1 k)

-- what holds of all items of two lists together holds of the first list's
pub all-front : {X : Type 0} (P : X → Type 0) (xs ys : List X) → AllByRecursion P (xs ++ ys) → AllByRecursion P xs
all-front P [] ys h = tt
all-front P (x ∷ xs) ys h = (h.0, all-front P xs ys h.1)

-- what holds of all items of two lists together holds of the second list's
pub all-back : {X : Type 0} (P : X → Type 0) (xs ys : List X) → AllByRecursion P (xs ++ ys) → AllByRecursion P ys
all-back P [] ys h = h
all-back P (x ∷ xs) ys h = all-back P xs ys h.1

-- a member of the first list is one of both together
pub mem-left : {X : Type 0} (xs ys : List X) (y : X) → Mem y xs → Mem y (xs ++ ys)
mem-left [] ys y m = absurd m
mem-left (x ∷ xs) ys y (inl e) = inl e
mem-left (x ∷ xs) ys y (inr m) = inr (mem-left xs ys y m)

-- an item put at the end is a member
pub mem-last : {X : Type 0} (xs : List X) (r y : X) → y ≡ r → Mem y (xs ++ r ∷ [])
mem-last [] r y e = inl e
mem-last (x ∷ xs) r y e = inr (mem-last xs r y e)

-- a member of a list with one more item at its end is one of the list, or that item
pub mem-either : {X : Type 0} (xs : List X) (r y : X) → Mem y (xs ++ r ∷ []) → Mem y xs ⊎ (y ≡ r)
mem-either [] r y (inl e) = inr e
mem-either [] r y (inr m) = absurd m
mem-either (x ∷ xs) r y (inl e) = inl (inl e)
mem-either (x ∷ xs) r y (inr m) = elim (mem-either xs r y m) [ inl a ↦ inl (inr a) | inr e ↦ inr e ]

mem-keep : {X : Type 0} (p : X → Bool) (z : X) (zs : List X) (x : X) (b : Bool) → p z ≡ b → Mem x (cond b (z ∷ filter p zs) (filter p zs)) → (Mem x (filter p zs) → Mem x zs × (p x ≡ true)) → Mem x (z ∷ zs) × (p x ≡ true)
mem-keep p z zs x true e (inl q) ih = (inl q, ap p q ∙ e)
mem-keep p z zs x true e (inr m) ih = let s = ih m in (inr s.0, s.1)
mem-keep p z zs x false e m ih = let s = ih m in (inr s.0, s.1)

-- what a filter keeps is a member of the list, and passes
pub mem-filtered : {X : Type 0} (p : X → Bool) (xs : List X) (x : X) → Mem x (filter p xs) → Mem x xs × (p x ≡ true)
mem-filtered p [] x m = absurd m
mem-filtered p (z ∷ zs) x m = mem-keep p z zs x (p z) refl m (mem-filtered p zs x)

mem-past : {X : Type 0} (p : X → Bool) (z : X) (zs : List X) (x : X) (b : Bool) → Mem x (filter p zs) → Mem x (cond b (z ∷ filter p zs) (filter p zs))
mem-past p z zs x true m = inr m
mem-past p z zs x false m = m

-- a member that passes is kept by the filter
pub mem-filter : {X : Type 0} (p : X → Bool) (xs : List X) (x : X) → Mem x xs → p x ≡ true → Mem x (filter p xs)
mem-filter p [] x m t = absurd m
mem-filter p (z ∷ zs) x (inl q) t = let pz : p z ≡ true = ap p (sym q) ∙ t in rw pz (inl q)
mem-filter p (z ∷ zs) x (inr m) t = mem-past p z zs x (p z) (mem-filter p zs x m t)
