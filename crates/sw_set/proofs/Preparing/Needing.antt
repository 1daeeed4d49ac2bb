-- The maps that a query needs hold the columns that it reads.
use Rattle.std.proofs.Common.{◌≡◌, ◌≢◌, ◌∙◌, ap, refl, ℕ, zero, suc, ◌<◌, ◌==◌, ◌&&◌, ◌||◌, not, Bool, true, false, List, [], ◌∷◌, map, filter, length, get_or, All, Any, Contains, inl, inr, arith}
use Rattle.std.specs.List.{list_any}
use Rattle.std.proofs.lemmas.Bool.Decides.{nat_tests}
use Rattle.sw_query.specs.declared.query.Cond.{Cond}
use Rattle.sw_query.specs.declared.query.Want.{Want}
use Rattle.sw_query.specs.declared.query.Want.TheVariants as want
use Rattle.sw_query.specs.declared.query.Query.{Query}
use Rattle.sw_query.specs.Scan.{CondsBelow, WantsBelow}
use Rattle.sw_kernel.specs.Replay.{Step}
use Rattle.sw_table.specs.declared.row.Row.{Row}
use Rattle.sw_kernel.proofs.Members.{Mem, mem-filter, contains-from_mem}
use Rattle.sw_map.specs.declared.tail.Tail.{Tail}
use Rattle.sw_map.specs.declared.tail.Tail.TheVariants.{Key, Cell}
use Rattle.sw_map.specs.Held.{Held}
use Rattle.sw_set.specs.Needs.{attributes, is_tested, is_wanted, needed, needs_cell}
use Rattle.sw_set.specs.Prepared.{IsReady}
use Rattle.sw_set.specs.Choice.{HasCells, HasWanted}

-- each query needs the key map
pub key-needed : (head : ℕ) (q : Query) → Contains (needed head q) Key
key-needed head q = (0, omega arith, refl)

mem-attribute : (b : ℕ) → b < 8 → Mem b attributes
mem-attribute zero l = inl refl
mem-attribute (suc zero) l = inr (inl refl)
mem-attribute (suc (suc zero)) l = inr (inr (inl refl))
mem-attribute (suc (suc (suc zero))) l = inr (inr (inr (inl refl)))
mem-attribute (suc (suc (suc (suc zero)))) l = inr (inr (inr (inr (inl refl))))
mem-attribute (suc (suc (suc (suc (suc zero))))) l = inr (inr (inr (inr (inr (inl refl)))))
mem-attribute (suc (suc (suc (suc (suc (suc zero)))))) l = inr (inr (inr (inr (inr (inr (inl refl))))))
mem-attribute (suc (suc (suc (suc (suc (suc (suc zero))))))) l = inr (inr (inr (inr (inr (inr (inr (inl refl)))))))
mem-attribute (suc (suc (suc (suc (suc (suc (suc (suc b)))))))) l = absurd (omega arith)

-- what a function makes of a member is a member of the mapped list
pub mem-map : {A B : Type 0} (f : A → B) (xs : List A) (x : A) → Mem x xs → Mem (f x) (map f xs)
mem-map f [] x m = absurd m
mem-map f (y ∷ ys) x (inl e) = inl (ap f e)
mem-map f (y ∷ ys) x (inr m) = inr (mem-map f ys x m)

not-equal : (b h : ℕ) → b ≢ h → not (b == h) ≡ true
not-equal b h d = told (b == h) refl
  where
    told : (t : Bool) → (b == h) ≡ t → not t ≡ true
    told true e = absurd (d (same b h e))
      where
        same : (b h : ℕ) → (b == h) ≡ true → b ≡ h
        same b h e = grind (arith, nat_tests)
    told false e = refl

or-left : (b c : Bool) → b ≡ true → (b || c) ≡ true
or-left true c e = refl
or-left false c e = absurd (let n : (false ≡ true) = e in cc)

or-right : (b c : Bool) → c ≡ true → (b || c) ≡ true
or-right true c e = refl
or-right false c e = e

-- a query needs the map of an attribute that is tested or wanted and is not the head
pub cell-needed : (head : ℕ) (q : Query) (b : ℕ) → b < 8 → b ≢ head → (is_tested q.conds b || is_wanted q.want b) ≡ true → Contains (needed head q) (Cell b)
cell-needed head q b l d e =
    let passes : needs_cell head q b ≡ true = ap (λ t. t && (is_tested q.conds b || is_wanted q.want b)) (not-equal b head d) ∙ e in
    contains-from_mem (needed head q) (Cell b) (inr (mem-map Cell (filter (needs_cell head q) attributes) b (mem-filter (needs_cell head q) attributes b (mem-attribute b l) passes)))

equal-true : (n : ℕ) → (n == n) ≡ true
equal-true n = grind (arith, nat_tests)

tested-at : (cs : List Cond) (k : ℕ) (d : Cond) → k < length cs → is_tested cs (get_or cs k d).attr ≡ true
tested-at [] k d l = let no : k < 0 = l in absurd (omega arith)
tested-at (c ∷ cs) zero d l = or-left (c.attr == c.attr) (is_tested cs c.attr) (equal-true c.attr)
tested-at (c ∷ cs) (suc k) d l = or-right (c.attr == (get_or cs k d).attr) (is_tested cs (get_or cs k d).attr) (tested-at cs k d (omega arith))

named-at : (ns : List ℕ) (k : ℕ) (d : ℕ) → k < length ns → list_any (λ n. n == get_or ns k d) ns ≡ true
named-at [] k d l = let no : k < 0 = l in absurd (omega arith)
named-at (n ∷ ns) zero d l = or-left (n == n) (list_any (λ m. m == n) ns) (equal-true n)
named-at (n ∷ ns) (suc k) d l = or-right (n == get_or ns k d) (list_any (λ m. m == get_or ns k d) ns) (named-at ns k d (omega arith))

module _ (head : ℕ) (tape : List (Step Row)) (ms : List Held) where
  -- where each tail that a query needs has a map at the end, each attribute it tests, all below 8, has its cells
  pub conds-held : (cs : List Cond) (w : Want) → CondsBelow 8 cs → ((t : Tail) → Contains (needed head (record { conds = cs; want = w })) t → Any (IsReady t tape) ms) → All (λ (c : Cond). HasCells head tape ms c.attr) cs
  conds-held cs w few maps = λ k d l n. maps (Cell (get_or cs k d).attr) (cell-needed head (record { conds = cs; want = w }) (get_or cs k d).attr (few k d l) n (or-left (is_tested cs (get_or cs k d).attr) (is_wanted w (get_or cs k d).attr) (tested-at cs k d l)))

  -- where each tail that a query needs has a map at the end, what it wants, all below 8, has its cells
  pub want-held : (cs : List Cond) (w : Want) → WantsBelow 8 w → ((t : Tail) → Contains (needed head (record { conds = cs; want = w })) t → Any (IsReady t tape) ms) → HasWanted head tape ms w
  want-held cs (want.Rows names) few maps = λ k d l n. maps (Cell (get_or names k d)) (cell-needed head (record { conds = cs; want = want.Rows names }) (get_or names k d) (few k d l) n (or-right (is_tested cs (get_or names k d)) (is_wanted (want.Rows names) (get_or names k d)) (named-at names k d l)))
  want-held cs want.Count few maps = tt
  want-held cs (want.Sum a) few maps = λ n. maps (Cell a) (cell-needed head (record { conds = cs; want = want.Sum a }) a few n (or-right (is_tested cs a) (a == a) (equal-true a)))
  want-held cs (want.Min a) few maps = λ n. maps (Cell a) (cell-needed head (record { conds = cs; want = want.Min a }) a few n (or-right (is_tested cs a) (a == a) (equal-true a)))
  want-held cs (want.Max a) few maps = λ n. maps (Cell a) (cell-needed head (record { conds = cs; want = want.Max a }) a few n (or-right (is_tested cs a) (a == a) (equal-true a)))
