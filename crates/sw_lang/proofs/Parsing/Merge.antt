-- Terms taken one after another make the conditions that all of them make at once.
use Rattle.std.proofs.Common.{◌≡◌, ◌∙◌, ℕ, Bool, true, false, cond, eqb, ◌||◌, List, [], ◌∷◌, ◌++◌, map, Option, None, refl, sym, ap}
use Rattle.std.specs.List.{list_any}
use Rattle.std.proofs.lemmas.Bool.Decides.{Decides-eqb}
use Rattle.std.proofs.lemmas.Bool.{false≢true}
use Rattle.std.proofs.lemmas.List.{map-append}
use Rattle.sw_query.specs.Bounds.{greater, lesser}
use Rattle.sw_query.specs.declared.bound.Bound.{Bound}
use Rattle.sw_query.specs.declared.query.Cond.{Cond}
use Rattle.sw_lang.specs.declared.reading.term.Term.{Term}
use Rattle.sw_lang.specs.Terms.{add_term, cond_of, lower_of, upper_of, with_attr, attrs_after, lower_after, upper_after, conditions}

-- the conditions after further terms
abbrev pub conds_from : List Cond → List Term → List Cond
conds_from conds [] = conds
conds_from conds (t ∷ ts) = conds_from (add_term conds t) ts

-- a bound of each attribute, or none
abbrev pub Bounds : Type 0
Bounds = ℕ → Option Bound

-- an attribute's condition, where its bounds are these
abbrev pub bounded : Bounds → Bounds → ℕ → Cond
bounded lower upper a = record { attr = a; lower = lower a; upper = upper a }

-- the bounds with those of one more term
abbrev pub lower_with : Bounds → Term → Bounds
lower_with lower t = λ a. cond (eqb t.attr a) (greater (lower a) (lower_of t.op t.value)) (lower a)

-- the upper bounds with that of one more term
abbrev pub upper_with : Bounds → Term → Bounds
upper_with upper t = λ a. cond (eqb t.attr a) (lesser (upper a) (upper_of t.op t.value)) (upper a)

-- whether an attribute is among these
abbrev pub has : List ℕ → ℕ → Bool
has attrs a = list_any (λ b. eqb b a) attrs

-- no attribute stands twice
abbrev pub Distinct : List ℕ → Type 0
Distinct [] = Unit {0}
Distinct (a ∷ xs) = (has xs a ≡ false) × Distinct xs

-- a number equals itself
pub eqb-same : (n : ℕ) → eqb n n ≡ true
eqb-same n = (Decides-eqb n n).1 refl

-- equality of numbers either way round
pub eqb-turned : (v : Bool) (m n : ℕ) → eqb m n ≡ v → eqb n m ≡ v
eqb-turned true m n e = let same : m ≡ n = (Decides-eqb m n).0 e in (Decides-eqb n m).1 (sym same)
eqb-turned false m n e = by_cases (eqb n m) refl
  where
    by_cases : (w : Bool) → eqb n m ≡ w → eqb n m ≡ false
    by_cases true f = let same : n ≡ m = (Decides-eqb n m).0 f in absurd (false≢true (sym e ∙ (Decides-eqb m n).1 (sym same)))
    by_cases false f = f

-- where neither holds, both do not
pub or-false : (p q : Bool) → (p || q) ≡ false → (p ≡ false) × (q ≡ false)
or-false true q h = absurd cc
or-false false q h = (refl, h)

-- a term on none of the attributes changes none of their conditions
others : (lower upper : Bounds) (t : Term) (xs : List ℕ) → has xs t.attr ≡ false → map (bounded (lower_with lower t) (upper_with upper t)) xs ≡ map (bounded lower upper) xs
others lower upper t [] h = refl
others lower upper t (a ∷ xs) h =
    let parts = or-false (eqb a t.attr) (has xs t.attr) h in
    let apart : eqb t.attr a ≡ false = eqb-turned false a t.attr parts.0 in
    rw (apart, others lower upper t xs parts.1) refl

-- a term on an attribute that is there narrows its condition, and one on a new attribute adds one
old-first : (v : Bool) (lower upper : Bounds) (t : Term) (a : ℕ) (xs : List ℕ) → eqb a t.attr ≡ v → Distinct (a ∷ xs) → has (a ∷ xs) t.attr ≡ true
    → (has xs t.attr ≡ true → add_term (map (bounded lower upper) xs) t ≡ map (bounded (lower_with lower t) (upper_with upper t)) xs)
    → add_term (map (bounded lower upper) (a ∷ xs)) t ≡ map (bounded (lower_with lower t) (upper_with upper t)) (a ∷ xs)
old-first true lower upper t a xs e d h more =
    let same : a ≡ t.attr = (Decides-eqb a t.attr).0 e in
    let on : eqb t.attr a ≡ true = eqb-turned true a t.attr e in
    let absent : has xs t.attr ≡ false = ap (has xs) (sym same) ∙ d.0 in
    rw (e, on, others lower upper t xs absent) refl
old-first false lower upper t a xs e d h more =
    let off : eqb t.attr a ≡ false = eqb-turned false a t.attr e in
    let there : has xs t.attr ≡ true = rw e at h in
    rw (e, off, more there) refl

old-step : (lower upper : Bounds) (t : Term) (xs : List ℕ) → Distinct xs → has xs t.attr ≡ true → add_term (map (bounded lower upper) xs) t ≡ map (bounded (lower_with lower t) (upper_with upper t)) xs
old-step lower upper t [] d h = absurd (false≢true h)
old-step lower upper t (a ∷ xs) d h = old-first (eqb a t.attr) lower upper t a xs refl d h (old-step lower upper t xs d.1)

add_new : (lower upper : Bounds) (t : Term) (xs : List ℕ) → has xs t.attr ≡ false → add_term (map (bounded lower upper) xs) t ≡ map (bounded lower upper) xs ++ cond_of t ∷ []
add_new lower upper t [] h = refl
add_new lower upper t (a ∷ xs) h =
    let parts = or-false (eqb a t.attr) (has xs t.attr) h in
    rw (parts.0, add_new lower upper t xs parts.1) refl

new-step : (lower upper : Bounds) (t : Term) (xs : List ℕ) → has xs t.attr ≡ false → lower t.attr ≡ None → upper t.attr ≡ None
    → add_term (map (bounded lower upper) xs) t ≡ map (bounded (lower_with lower t) (upper_with upper t)) (xs ++ t.attr ∷ [])
new-step lower upper t xs h low up =
    add_new lower upper t xs h
    ∙ rw (map-append (bounded (lower_with lower t) (upper_with upper t)) xs (t.attr ∷ []), others lower upper t xs h, eqb-same t.attr, low, up) refl

step-by : (v : Bool) (lower upper : Bounds) (t : Term) (xs : List ℕ) → has xs t.attr ≡ v → Distinct xs → (has xs t.attr ≡ false → (lower t.attr ≡ None) × (upper t.attr ≡ None))
    → add_term (map (bounded lower upper) xs) t ≡ map (bounded (lower_with lower t) (upper_with upper t)) (cond v xs (xs ++ t.attr ∷ []))
step-by true lower upper t xs e d none = old-step lower upper t xs d e
step-by false lower upper t xs e d none = new-step lower upper t xs e (none e).0 (none e).1

-- ---- what holds of the attributes so far goes on

-- an attribute is among a list with one more, or is that one
pub has-last : (xs : List ℕ) (b a : ℕ) → has (xs ++ b ∷ []) a ≡ (has xs a || eqb b a)
has-last [] b a = or-none (eqb b a)
  where
    or-none : (p : Bool) → (p || false) ≡ p
    or-none true = refl
    or-none false = refl
has-last (c ∷ xs) b a = rw (has-last xs b a) (or-assoc (eqb c a) (has xs a) (eqb b a))
  where
    or-assoc : (p q r : Bool) → (p || (q || r)) ≡ ((p || q) || r)
    or-assoc true q r = refl
    or-assoc false q r = refl

distinct-last : (xs : List ℕ) (a : ℕ) → has xs a ≡ false → Distinct xs → Distinct (xs ++ a ∷ [])
distinct-last [] a h d = (refl, tt)
distinct-last (b ∷ xs) a h d =
    let parts = or-false (eqb b a) (has xs a) h in
    let apart : eqb a b ≡ false = eqb-turned false b a parts.0 in
    let absent : has (xs ++ a ∷ []) b ≡ false = has-last xs a b ∙ rw (d.0, apart) refl in
    (absent, distinct-last xs a parts.1 d.1)

distinct-by : (v : Bool) (xs : List ℕ) (a : ℕ) → has xs a ≡ v → Distinct xs → Distinct (cond v xs (xs ++ a ∷ []))
distinct-by true xs a e d = d
distinct-by false xs a e d = distinct-last xs a e d

-- a list of distinct attributes stays so with one more, or the same
pub distinct-more : (xs : List ℕ) (a : ℕ) → Distinct xs → Distinct (with_attr xs a)
distinct-more xs a d = distinct-by (has xs a) xs a refl d

-- attributes that are not there have no bounds
abbrev pub Unbounded : Bounds → Bounds → List ℕ → Type 0
Unbounded lower upper xs = (a : ℕ) → has xs a ≡ false → (lower a ≡ None) × (upper a ≡ None)

still-by : (v : Bool) (lower upper : Bounds) (t : Term) (xs : List ℕ) → has xs t.attr ≡ v → Unbounded lower upper xs → Unbounded (lower_with lower t) (upper_with upper t) (cond v xs (xs ++ t.attr ∷ []))
still-by true lower upper t xs e none = λ a h. by_same a h (eqb t.attr a) refl
  where
    by_same : (a : ℕ) → has xs a ≡ false → (w : Bool) → eqb t.attr a ≡ w → (lower_with lower t a ≡ None) × (upper_with upper t a ≡ None)
    by_same a h true f =
        let same : t.attr ≡ a = (Decides-eqb t.attr a).0 f in
        absurd (false≢true (sym h ∙ ap (has xs) (sym same) ∙ e))
    by_same a h false f = (rw f (none a h).0, rw f (none a h).1)
still-by false lower upper t xs e none = λ a h. let parts = or-false (has xs a) (eqb t.attr a) (sym (has-last xs t.attr a) ∙ h) in (rw parts.1 (none a parts.0).0, rw parts.1 (none a parts.0).1)

-- ---- all terms

-- terms one after another make the conditions of all at once, from any bounds
pub merged : (lower upper : Bounds) (xs : List ℕ) (ts : List Term) → Distinct xs → Unbounded lower upper xs
    → conds_from (map (bounded lower upper) xs) ts ≡ map (λ a. record { attr = a; lower = lower_after a (lower a) ts; upper = upper_after a (upper a) ts }) (attrs_after xs ts)
merged lower upper xs [] d none = refl
merged lower upper xs (t ∷ ts) d none =
    ap (λ cs. conds_from cs ts) (step-by (has xs t.attr) lower upper t xs refl d (none t.attr))
    ∙ merged (lower_with lower t) (upper_with upper t) (with_attr xs t.attr) ts (distinct-more xs t.attr d) (still-by (has xs t.attr) lower upper t xs refl none)

-- the same from no conditions
pub conds_from-conditions : (ts : List Term) → conds_from [] ts ≡ conditions ts
conds_from-conditions ts = merged (λ _. None) (λ _. None) [] ts tt (λ a _. (refl, refl))
