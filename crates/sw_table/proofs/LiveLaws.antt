-- Rows with a flag each: one more comes, one goes, one is asked for.
use Rattle.std.proofs.Common.{◌≡◌, ◌≢◌, ◌==◌, ◌+◌, ◌<◌, filter, not, ap, sym, refl, ℕ, zero, suc, Bool, true, false, cond, List, [], ◌∷◌, ◌++◌, ◌∙◌, length, get_or, replicate, slice_set, take, All, arith}
use Rattle.std.specs.List.{AllByRecursion}
use Rattle.std.proofs.lemmas.Bool.Decides.{nat_tests}
use Rattle.sw_table.specs.declared.row.Row.{Row}
use Rattle.sw_table.specs.Updates.{has_key, without}
use Rattle.sw_table.specs.Kept.{kept}
use Rattle.sw_table.specs.Live.{Rises, key_of}
use Rattle.sw_table.proofs.KeyFinds.{above-at}

-- ---- more rows

-- of no items none is kept
pub kept-nil : {X : Type 0} (fs : List Bool) → kept fs (let e : List X = [] in e) ≡ []
kept-nil [] = refl
kept-nil (b ∷ fs) = refl

kept-suc : {X : Type 0} (fs : List Bool) (xs : List X) (i : ℕ) (d : X) → i < length xs → kept fs (take (suc i) xs) ≡ kept fs (take i xs) ++ cond (get_or fs i false) (get_or xs i d ∷ []) []
kept-suc [] xs i d lt = refl
kept-suc (b ∷ fs) [] i d lt = let no : i < 0 = lt in absurd (omega arith)
kept-suc (true ∷ fs) (x ∷ xs) zero d lt = ap (λ v. x ∷ v) (kept-nil fs)
kept-suc (false ∷ fs) (x ∷ xs) zero d lt = kept-nil fs
kept-suc (true ∷ fs) (x ∷ xs) (suc i) d lt = ap (λ v. x ∷ v) (kept-suc fs xs i d (omega arith))
kept-suc (false ∷ fs) (x ∷ xs) (suc i) d lt = kept-suc fs xs i d (omega arith)

-- one more place is looked at
pub kept-step : {X : Type 0} (fs : List Bool) (xs : List X) (i : ℕ) (d : X) → i < length xs → kept fs (take (i + 1) xs) ≡ kept fs (take i xs) ++ cond (get_or fs i false) (get_or xs i d ∷ []) []
kept-step fs xs i d lt = ap (λ k. kept fs (take k xs)) (let e : i + 1 ≡ suc i = omega arith in e) ∙ kept-suc fs xs i d lt

kept-appended : {X : Type 0} (fs gs : List Bool) (xs ys : List X) → length fs ≡ length xs → kept (fs ++ gs) (xs ++ ys) ≡ kept fs xs ++ kept gs ys
kept-appended [] gs [] ys e = refl
kept-appended [] gs (x ∷ xs) ys e = absurd (omega (arith, e))
kept-appended (b ∷ fs) gs [] ys e = absurd (omega (arith, e))
kept-appended (true ∷ fs) gs (x ∷ xs) ys e = ap (λ v. x ∷ v) (kept-appended fs gs xs ys (omega (arith, e)))
kept-appended (false ∷ fs) gs (x ∷ xs) ys e = kept-appended fs gs xs ys (omega (arith, e))

-- a live row comes
pub kept-more : {X : Type 0} (fs : List Bool) (xs : List X) (x : X) → length fs ≡ length xs → kept (fs ++ true ∷ []) (xs ++ x ∷ []) ≡ kept fs xs ++ x ∷ []
kept-more fs xs x e = kept-appended fs (true ∷ []) xs (x ∷ []) e

-- all are live
pub kept-fresh : {X : Type 0} (n : ℕ) (xs : List X) → n ≡ length xs → kept (replicate n true) xs ≡ xs
kept-fresh zero [] e = refl
kept-fresh zero (x ∷ xs) e = absurd (omega (arith, e))
kept-fresh (suc n) [] e = refl
kept-fresh (suc n) (x ∷ xs) e = ap (λ v. x ∷ v) (kept-fresh n xs (omega (arith, e)))

-- where all flags are true, all items are kept
pub kept-all : {X : Type 0} (fs : List Bool) (xs : List X) → length fs ≡ length xs → All (λ (b : Bool). b ≡ true) fs → kept fs xs ≡ xs
kept-all [] [] e a = refl
kept-all [] (x ∷ xs) e a = absurd (omega (arith, e))
kept-all (b ∷ fs) [] e a = refl
kept-all (b ∷ fs) (x ∷ xs) e a =
    let is : b ≡ true = a 0 b (omega arith) in
    rw is (ap (λ v. x ∷ v) (kept-all fs xs (omega (arith, e)) (λ k d lt. a (suc k) d (omega (arith, lt)))))

-- how many there are
pub kept-long : {X : Type 0} (fs : List Bool) (xs : List X) → length fs ≡ length xs → length (kept fs xs) + length (filter not fs) ≡ length fs
kept-long [] xs e = refl
kept-long (b ∷ fs) [] e = absurd (omega (arith, e))
kept-long (true ∷ fs) (x ∷ xs) e = let h = kept-long fs xs (omega (arith, e)) in omega (arith, h)
kept-long (false ∷ fs) (x ∷ xs) e = let h = kept-long fs xs (omega (arith, e)) in omega (arith, h)

-- ---- the row of a key

-- no row has the key
abbrev Lacks : ℕ → List Row → Type 0
Lacks k xs = AllByRecursion (λ (r : Row). r.key ≢ k) xs

lacks-all : (k : ℕ) (xs : List Row) → All (λ (r : Row). r.key ≢ k) xs → Lacks k xs
lacks-all k [] a = tt
lacks-all k (x ∷ xs) a = (a 0 x (omega arith), lacks-all k xs (λ j d lt. a (suc j) d (omega (arith, lt))))

lacks-above : (k : ℕ) (xs : List Row) → AllByRecursion (λ (r : Row). k < key_of r) xs → Lacks k xs
lacks-above k [] a = tt
lacks-above k (x ∷ xs) a = (λ (e : x.key ≡ k). let h = a.0 in absurd (omega (arith, h, e)), lacks-above k xs a.1)

lacks-kept : (k : ℕ) (fs : List Bool) (xs : List Row) → Lacks k xs → Lacks k (kept fs xs)
lacks-kept k [] xs a = tt
lacks-kept k (b ∷ fs) [] a = tt
lacks-kept k (true ∷ fs) (x ∷ xs) a = (a.0, lacks-kept k fs xs a.1)
lacks-kept k (false ∷ fs) (x ∷ xs) a = lacks-kept k fs xs a.1

not-same : (j k : ℕ) → j ≢ k → j == k ≡ false
not-same j k h = grind (arith, nat_tests, h)

same-yes : (j k : ℕ) → j ≡ k → j == k ≡ true
same-yes j k h = grind (arith, nat_tests, h)

lacks-without : (k : ℕ) (xs : List Row) → Lacks k xs → without k xs ≡ xs
lacks-without k [] a = refl
lacks-without k (x ∷ xs) a = rw (not-same x.key k a.0) (ap (λ v. x ∷ v) (lacks-without k xs a.1))

-- the rows without a key that none of them has are all of them
pub without-none : (k : ℕ) (xs : List Row) → has_key k xs ≡ false → without k xs ≡ xs
without-none k [] h = refl
without-none k (x ∷ xs) h = grind (arith, nat_tests, h, without-none k xs)

lacks-key : (k : ℕ) (xs : List Row) → Lacks k xs → has_key k xs ≡ false
lacks-key k [] a = refl
lacks-key k (x ∷ xs) a = rw (not-same k x.key (λ e. a.0 (sym e))) (lacks-key k xs a.1)

-- a key that no row has
pub kept-lacks : (k : ℕ) (fs : List Bool) (xs : List Row) → All (λ (r : Row). r.key ≢ k) xs → has_key k (kept fs xs) ≡ false
kept-lacks k fs xs a = lacks-key k (kept fs xs) (lacks-kept k fs xs (lacks-all k xs a))

-- the live rows without a key that no row has are all the live rows
pub without-lacks : (k : ℕ) (fs : List Bool) (xs : List Row) → All (λ (r : Row). r.key ≢ k) xs → without k (kept fs xs) ≡ kept fs xs
without-lacks k fs xs a = lacks-without k (kept fs xs) (lacks-kept k fs xs (lacks-all k xs a))

-- the row before the one of the key has another
head-other : (k : ℕ) (x : Row) (xs : List Row) (p : ℕ) (d : Row) → Rises key_of (x ∷ xs) → p < length xs → (get_or xs p d).key ≡ k → x.key ≢ k
head-other k x xs p d r lt is = let h = above-at key_of x.key xs p d r.0 lt in λ (e : x.key ≡ k). absurd (omega (arith, h, e, is))

module _ (k : ℕ) (d : Row) where
  -- the row of the key goes: its flag turns false
  pub kept-removed : (fs : List Bool) (xs : List Row) (p : ℕ) → length fs ≡ length xs → Rises key_of xs → p < length xs → (get_or xs p d).key ≡ k → kept (slice_set fs p false) xs ≡ without k (kept fs xs)
  kept-removed fs [] p e r lt is = absurd (omega (arith, lt))
  kept-removed [] (x ∷ xs) p e r lt is = absurd (omega (arith, e))
  kept-removed (true ∷ fs) (x ∷ xs) zero e r lt is =
      let same : x.key == k ≡ true = same-yes x.key k is in
      let above : AllByRecursion (λ (y : Row). k < key_of y) xs = rw (← is) r.0 in
      rw same (sym (lacks-without k (kept fs xs) (lacks-kept k fs xs (lacks-above k xs above))))
  kept-removed (false ∷ fs) (x ∷ xs) zero e r lt is =
      let above : AllByRecursion (λ (y : Row). k < key_of y) xs = rw (← is) r.0 in
      sym (lacks-without k (kept fs xs) (lacks-kept k fs xs (lacks-above k xs above)))
  kept-removed (true ∷ fs) (x ∷ xs) (suc p) e r lt is =
      let other : x.key == k ≡ false = not-same x.key k (head-other k x xs p d r (omega (arith, lt)) is) in
      rw other (ap (λ v. x ∷ v) (kept-removed fs xs p (omega (arith, e)) r.1 (omega (arith, lt)) is))
  kept-removed (false ∷ fs) (x ∷ xs) (suc p) e r lt is = kept-removed fs xs p (omega (arith, e)) r.1 (omega (arith, lt)) is

  -- a live row has the key exactly where the flag at its place is true
  pub kept-has : (fs : List Bool) (xs : List Row) (p : ℕ) → length fs ≡ length xs → Rises key_of xs → p < length xs → (get_or xs p d).key ≡ k → has_key k (kept fs xs) ≡ get_or fs p false
  kept-has fs [] p e r lt is = absurd (omega (arith, lt))
  kept-has [] (x ∷ xs) p e r lt is = absurd (omega (arith, e))
  kept-has (true ∷ fs) (x ∷ xs) zero e r lt is = rw (same-yes k x.key (sym is)) refl
  kept-has (false ∷ fs) (x ∷ xs) zero e r lt is =
      let above : AllByRecursion (λ (y : Row). k < key_of y) xs = rw (← is) r.0 in
      lacks-key k (kept fs xs) (lacks-kept k fs xs (lacks-above k xs above))
  kept-has (true ∷ fs) (x ∷ xs) (suc p) e r lt is =
      let other : k == x.key ≡ false = not-same k x.key (λ q. head-other k x xs p d r (omega (arith, lt)) is (sym q)) in
      rw other (kept-has fs xs p (omega (arith, e)) r.1 (omega (arith, lt)) is)
  kept-has (false ∷ fs) (x ∷ xs) (suc p) e r lt is = kept-has fs xs p (omega (arith, e)) r.1 (omega (arith, lt)) is
