-- What may be received goes on to be so when fewer rows came; lists of rows under a bound.
use Rattle.std.proofs.Common.{◌≡◌, ℕ, zero, suc, ℤ, ◌<◌, ◌==◌, ◌||◌, ◌&&◌, not, Bool, true, false, List, [], ◌∷◌, ◌++◌, fold, refl, ap, sym, ◌∙◌, arith, subst, All, Option}
use Rattle.std.proofs.lemmas.Bool.Decides.{nat_tests}
use Rattle.std.proofs.lemmas.List.Elements.{All-append}
use Rattle.sw_table.specs.declared.row.Row.{Row}
use Rattle.sw_table.specs.declared.row.Update.{Update}
use Rattle.sw_table.specs.declared.row.Update.TheVariants.{Insert, Remove}
use Rattle.sw_table.specs.Updates.{has_key, rows_then, without}
use Rattle.sw_kernel.specs.Tapes.{brought}
use Rattle.sw_set.specs.Shelf.{AreReceivable, AreaState, BringsNoMore, came_then}

-- what holds of an item holds of the list of it alone
pub all-one : {X : Type 0} (P : X → Type 0) (x : X) → P x → All P (x ∷ [])
all-one P x px zero d lt = px
all-one P x px (suc k) d lt = absurd (omega (arith, lt))

-- what holds of all items of two lists together holds of those of the left one
pub all-left : {X : Type 0} (P : X → Type 0) (xs ys : List X) → All P (xs ++ ys) → All P xs
all-left P [] ys h k d lt = let no : k < 0 = lt in absurd (omega arith)
all-left P (x ∷ xs) ys h zero d lt = h 0 d (omega arith)
all-left P (x ∷ xs) ys h (suc k) d lt = all-left P xs ys (λ j e l. h (suc j) e (omega (arith, l))) k d (omega (arith, lt))

-- what holds of all items of two lists together holds of those of the right one
pub all-right : {X : Type 0} (P : X → Type 0) (xs ys : List X) → All P (xs ++ ys) → All P ys
all-right P [] ys h = h
all-right P (x ∷ xs) ys h = all-right P xs ys (λ j e l. h (suc j) e (omega (arith, l)))

-- the keys of all these are below a number
abbrev pub IsBelow : ℕ → List Row → Type 0
IsBelow n rs = All (λ (r : Row). r.key < n) rs

-- one update more on both sides
pub less-then : (xs ys : List Row) (u : Update) → ((n : ℕ) → IsBelow n xs → IsBelow n ys) → (n : ℕ) → IsBelow n (came_then xs u) → IsBelow n (came_then ys u)
less-then xs ys (Insert r) less n h =
    All-append (λ (c : Row). c.key < n) ys (r ∷ []) (less n (all-left (λ (c : Row). c.key < n) xs (r ∷ []) h)) (all-right (λ (c : Row). c.key < n) xs (r ∷ []) h)
less-then xs ys (Remove k) less n h = less n h

-- if no key of one list exceeds all of another, none does after the same updates come to both
pub less-after : (xs ys : List Row) (us : List Update) → ((n : ℕ) → IsBelow n xs → IsBelow n ys) → (n : ℕ) → IsBelow n (fold came_then xs us) → IsBelow n (fold came_then ys us)
less-after xs ys [] less = less
less-after xs ys (u ∷ us) less = less-after (came_then xs u) (came_then ys u) us (less-then xs ys u less)

-- an area with the same inbox, whose tape brought no more
pub brings-less : (x y : AreaState) → y.inbox ≡ x.inbox → ((n : ℕ) → IsBelow n (brought x.tape) → IsBelow n (brought y.tape)) → BringsNoMore x y
brings-less x y same less = λ n h. subst (λ (us : List Update). IsBelow n (fold came_then (brought y.tape) us)) (sym same) (less-after (brought x.tape) (brought y.tape) x.inbox less n h)

-- updates that may be received still may be where the keys that came were no greater
pub receivable-less : (a : ℕ) (f b : Option ℤ) (xs ys live : List Row) (us : List Update) → ((n : ℕ) → IsBelow n xs → IsBelow n ys) → AreReceivable a f b xs live us → AreReceivable a f b ys live us
receivable-less a f b xs ys live [] less w = tt
receivable-less a f b xs ys live (Insert r ∷ us) less w =
    ((less r.key w.0.0, w.0.1, w.0.2), receivable-less a f b (came_then xs (Insert r)) (came_then ys (Insert r)) (rows_then live (Insert r)) us (less-then xs ys (Insert r) less) w.1)
receivable-less a f b xs ys live (Remove k ∷ us) less w = (w.0, receivable-less a f b xs ys (rows_then live (Remove k)) us less w.1)

-- and then more
pub receivable-append : (a : ℕ) (f b : Option ℤ) (came live : List Row) (us vs : List Update) → AreReceivable a f b came live us → AreReceivable a f b (fold came_then came us) (fold rows_then live us) vs → AreReceivable a f b came live (us ++ vs)
receivable-append a f b came live [] vs w after = after
receivable-append a f b came live (u ∷ us) vs w after = (w.0, receivable-append a f b (came_then came u) (rows_then live u) us vs w.1 after)

-- ---- whether there is a row of a key
pub has-last : (k : ℕ) (rows : List Row) (r : Row) → has_key k (rows ++ r ∷ []) ≡ has_key k rows || (k == r.key)
has-last k [] r = or-false (k == r.key)
  where
    or-false : (b : Bool) → b || false ≡ b
    or-false true = refl
    or-false false = refl
has-last k (x ∷ rows) r = ap (λ (b : Bool). (k == x.key) || b) (has-last k rows r) ∙ or-turn (k == x.key) (has_key k rows) (k == r.key)
  where
    or-turn : (s t u : Bool) → s || (t || u) ≡ (s || t) || u
    or-turn true t u = refl
    or-turn false t u = refl

-- a key is among the rows without another key just where it was among them and is not that one
pub has-without : (k j : ℕ) (rows : List Row) → has_key k (without j rows) ≡ has_key k rows && not (j == k)
has-without k j [] = refl
has-without k j (x ∷ rows) = by (x.key == j) (k == x.key) (j == k) refl refl refl (has-without k j rows)
  where
    and-false : (b : Bool) → b && false ≡ false
    and-false true = refl
    and-false false = refl

    clash : (n j k : ℕ) → n == j ≡ true → k == n ≡ true → j == k ≡ false → ⊥
    clash n j k p q r = grind (arith, nat_tests, p, q, r)

    clash' : (n j k : ℕ) → n == j ≡ false → k == n ≡ true → j == k ≡ true → ⊥
    clash' n j k p q r = grind (arith, nat_tests, p, q, r)

    by : (s t u : Bool) → x.key == j ≡ s → k == x.key ≡ t → j == k ≡ u → has_key k (without j rows) ≡ has_key k rows && not (j == k) → has_key k (without j (x ∷ rows)) ≡ has_key k (x ∷ rows) && not (j == k)
    by true true true p q r rest = rw (p, q, r) (rest ∙ rw r (and-false (has_key k rows)))
    by true true false p q r rest = absurd (clash x.key j k p q r)
    by true false u p q r rest = rw (p, q) rest
    by false true true p q r rest = absurd (clash' x.key j k p q r)
    by false true false p q r rest = rw (p, q, r) refl
    by false false u p q r rest = rw (p, q) rest
