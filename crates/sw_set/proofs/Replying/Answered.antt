-- What is told of the chosen rows of a range is the plain answer over the rows in key order.
use Rattle.std.proofs.Common.{◌≡◌, ◌≢◌, ◌∙◌, ap, sym, refl, subst, ℕ, suc, ◌-◌, ◌<◌, ◌&&◌, Bool, true, false, cond, nat_eq, List, [], ◌∷◌, ◌++◌, map, filter, take, drop, slice_range, All, Option, Some, None, inl, inr, append-nil, arith}
use Rattle.std.specs.List.{IsDistinct, AllByRecursion}
use Rattle.std.proofs.lemmas.Bool.Decides.{nat_tests}
use Rattle.std.proofs.lemmas.List.{take-append-drop}
use Rattle.std.proofs.lemmas.List.Elements.{filter-append}
use Rattle.std.proofs.lemmas.List.Folds.{drop_split}
use Rattle.std.proofs.lemmas.List.Sorted.{IsPermutation-refl, IsPermutation-sym, IsPermutation-map}
use Rattle.std.proofs.lemmas.Map.Keys.{IsDistinct-IsPermutation}
use Rattle.sw_query.specs.declared.query.Cond.{Cond}
use Rattle.sw_query.specs.declared.query.Want.{Want}
use Rattle.sw_query.specs.declared.query.Want.TheVariants as want
use Rattle.sw_query.specs.declared.reply.Reply.{Reply}
use Rattle.sw_query.specs.declared.reply.Reply.TheVariants as reply
use Rattle.sw_query.specs.declared.reply.ReplyRow.{ReplyRow}
use Rattle.sw_table.specs.declared.row.Row.{Row}
use Rattle.sw_query.specs.Scan.{answer_over, cell_of, matching, meets, meets_all, projected}
use Rattle.sw_kernel.specs.Tapes.{HoldsOnce}
use Rattle.sw_kernel.proofs.Members.{Mem, mem-filter, mem-filtered, mem-permutation}
use Rattle.sw_set.specs.Shelf.{Rises, key_of}
use Rattle.sw_table.specs.Kept.{kept}
use Rattle.sw_set.specs.Choice.{AreOf, IsRun, chosen, further, meets_first}
use Rattle.sw_set.specs.Collected.{AreInKeyOrder, IsReplyOver}
use Rattle.sw_set.proofs.Replying.Gathered.{Apart, Same, same-once, apart-distinct}
use Rattle.sw_set.proofs.Replying.KeyOrder.{apart-filter, count-same, greatest-same, least-same, rises-filter, rises-sorted, rising-unique, total-same}

-- ---- the range is the rows that meet the first condition

filter-none : {X : Type 0} (p : X → Bool) (xs : List X) → All (λ (x : X). p x ≡ false) xs → filter p xs ≡ []
filter-none p [] h = refl
filter-none p (x ∷ xs) h = let e = h 0 x (omega arith) in rw e (filter-none p xs (λ k d l. h (suc k) d (omega arith)))

filter-whole : {X : Type 0} (p : X → Bool) (xs : List X) → All (λ (x : X). p x ≡ true) xs → filter p xs ≡ xs
filter-whole p [] h = refl
filter-whole p (x ∷ xs) h = let e = h 0 x (omega arith) in rw e (ap (λ v. x ∷ v) (filter-whole p xs (λ k d l. h (suc k) d (omega arith))))

-- the items that pass a test are those of its run
pub filter-run : {X : Type 0} (p : X → Bool) (xs : List X) (from upto : ℕ) → IsRun p xs from upto → filter p xs ≡ slice_range xs from upto
filter-run p xs from upto run =
    let range = slice_range xs from upto in
    let parts : xs ≡ take from xs ++ (range ++ drop upto xs) = sym (take-append-drop from xs) ∙ ap (λ v. take from xs ++ v) (drop_split xs from upto run.ordered) in
    let whole : filter p (take from xs ++ (range ++ drop upto xs)) ≡ filter p (take from xs) ++ (filter p range ++ filter p (drop upto xs)) = filter-append p (take from xs) (range ++ drop upto xs) ∙ ap (λ v. filter p (take from xs) ++ v) (filter-append p range (drop upto xs)) in
    ap (filter p) parts ∙ whole ∙ ap (λ v. v ++ (filter p range ++ filter p (drop upto xs))) (filter-none p (take from xs) run.before) ∙ ap (λ v. v ++ filter p (drop upto xs)) (filter-whole p range run.inside) ∙ ap (λ v. range ++ v) (filter-none p (drop upto xs) run.behind) ∙ append-nil range

kept-test : {X : Type 0} (q : X → Bool) (xs : List X) → kept (map q xs) xs ≡ filter q xs
kept-test q [] = refl
kept-test q (x ∷ xs) = elim (q x) as (λ b. cond b (x ∷ kept (map q xs) xs) (kept (map q xs) xs) ≡ cond b (x ∷ filter q xs) (filter q xs)) [ true ↦ ap (λ v. x ∷ v) (kept-test q xs) | false ↦ kept-test q xs ]

-- what the truth values of a test choose are the items that pass it
pub chosen-test : {X : Type 0} (q : X → Bool) (xs : List X) (o : Option (List Bool)) → AreOf q xs o → chosen o xs ≡ filter q xs
chosen-test q xs None h = sym (filter-whole q xs h)
chosen-test q xs (Some bs) h = ap (λ v. kept v xs) h ∙ kept-test q xs

filter-cond : {X : Type 0} (q : X → Bool) (x : X) (ys zs : List X) (b : Bool) → filter q ys ≡ zs → filter q (cond b (x ∷ ys) ys) ≡ cond (b && q x) (x ∷ zs) zs
filter-cond q x ys zs true e = ap (λ v. cond (q x) (x ∷ v) v) e
filter-cond q x ys zs false e = e

filter-both : {X : Type 0} (p q : X → Bool) (xs : List X) → filter q (filter p xs) ≡ filter (λ x. p x && q x) xs
filter-both p q [] = refl
filter-both p q (x ∷ xs) = filter-cond q x (filter p xs) (filter (λ y. p y && q y) xs) (p x) (filter-both p q xs)

first-further : (cs : List Cond) (xs : List Row) → filter (meets_all (further cs)) (filter (meets_first cs) xs) ≡ filter (meets_all cs) xs
first-further [] xs = filter-both (λ r. true) (meets_all []) xs
first-further (c ∷ cs) xs = filter-both (λ r. meets r c) (meets_all cs) xs

-- of the run of the first condition those that meet the further ones are those that meet all
pub range-matching : (cs : List Cond) (items : List Row) (from upto : ℕ) (o : Option (List Bool)) → IsRun (meets_first cs) items from upto → AreOf (meets_all (further cs)) (slice_range items from upto) o → chosen o (slice_range items from upto) ≡ filter (meets_all cs) items
range-matching cs items from upto o run are =
    chosen-test (meets_all (further cs)) (slice_range items from upto) o are ∙ ap (filter (meets_all (further cs))) (sym (filter-run (meets_first cs) items from upto run)) ∙ first-further cs items

-- ---- rows of a reply

distinct-apart : {X : Type 0} (key : X → ℕ) (xs : List X) → Apart key xs → IsDistinct nat_eq (map key xs)
unfolding IsDistinct
distinct-apart key [] a = tt
distinct-apart key (x ∷ xs) a = (heads key (key x) xs a.0, distinct-apart key xs a.1)
  where
    differs : (m n : ℕ) → m ≢ n → nat_eq n m ≡ false
    differs m n d = told (nat_eq n m) refl
      where
        told : (t : Bool) → nat_eq n m ≡ t → t ≡ false
        told true e = absurd (d (let s : m ≡ n = grind (arith, nat_tests) in s))
        told false e = refl

    heads : {X : Type 0} (key : X → ℕ) (n : ℕ) (xs : List X) → ((y : X) → Mem y xs → key y ≢ n) → AllByRecursion (λ m. nat_eq n m ≡ false) (map key xs)
    heads key n [] h = tt
    heads key n (x ∷ xs) h = (differs (key x) n (h x (inl refl)), heads key n xs (λ y m. h y (inr m)))

keys-projected : (names : List ℕ) (xs : List Row) → map (λ (r : ReplyRow). r.key) (map (projected names) xs) ≡ map key_of xs
keys-projected names [] = refl
keys-projected names (x ∷ xs) = ap (λ v. x.key ∷ v) (keys-projected names xs)

eq-flips : (m n : ℕ) → nat_eq m n ≡ nat_eq n m
eq-flips m n = grind (arith, nat_tests)

mem-projected : (names : List ℕ) (xs : List Row) (r : Row) → Mem r xs → Mem (projected names r) (map (projected names) xs)
mem-projected names [] r m = absurd m
mem-projected names (x ∷ xs) r (inl e) = inl (ap (projected names) e)
mem-projected names (x ∷ xs) r (inr m) = inr (mem-projected names xs r m)

mem-row : (names : List ℕ) (xs : List Row) (y : ReplyRow) → Mem y (map (projected names) xs) → (r : Row) × Mem r xs × (y ≡ projected names r)
mem-row names [] y m = absurd m
mem-row names (x ∷ xs) y (inl e) = (x, inl refl, e)
mem-row names (x ∷ xs) y (inr m) = let s = mem-row names xs y m in (s.0, inr s.1, s.2)

rises-projected : (names : List ℕ) (xs : List Row) → Rises key_of xs → Rises (λ (r : ReplyRow). r.key) (map (projected names) xs)
rises-projected names [] r = tt
rises-projected names (x ∷ xs) r = (heads x.key xs r.0, rises-projected names xs r.1)
  where
    heads : (n : ℕ) (xs : List Row) → AllByRecursion (λ (y : Row). n < key_of y) xs → AllByRecursion (λ (y : ReplyRow). n < y.key) (map (projected names) xs)
    heads n [] a = tt
    heads n (x ∷ xs) a = (a.0, heads n xs a.1)

-- THE LAW of a reply's rows
pub told-rows : (names : List ℕ) (p : Row → Bool) (items rows : List Row) (told : List ReplyRow) → Same key_of items rows → Rises key_of rows → AreInKeyOrder (map (projected names) (filter p items)) told → told ≡ map (projected names) (filter p rows)
told-rows names p items rows told same rises order =
    let k = λ (r : ReplyRow). r.key in
    let shown = map (projected names) (filter p items) in
    let once = distinct-apart key_of (filter p items) (apart-filter key_of p items same.left) in
    let told_once = IsDistinct-IsPermutation nat_eq eq-flips (map k shown) (map k told) (IsPermutation-map k shown told order.moved) (subst (IsDistinct nat_eq) (sym (keys-projected names (filter p items))) once) in
    rising-unique k told (map (projected names) (filter p rows)) (rises-sorted k told order.sorted (apart-distinct k told told_once)) (rises-projected names (filter p rows) (rises-filter key_of p rows rises))
    (λ y m. (let s = mem-row names (filter p items) y (mem-permutation told shown (IsPermutation-sym shown told order.moved) y m) in
    let f = mem-filtered p items s.0 s.1 in
    subst (λ (v : ReplyRow). Mem v (map (projected names) (filter p rows))) (sym s.2) (mem-projected names (filter p rows) s.0 (mem-filter p rows s.0 (same.to s.0 f.0) f.1))))
    (λ y m. (let s = mem-row names (filter p rows) y m in
    let f = mem-filtered p rows s.0 s.1 in
    mem-permutation shown told order.moved y (subst (λ (v : ReplyRow). Mem v shown) (sym s.2) (mem-projected names (filter p items) s.0 (mem-filter p items s.0 (same.back s.0 f.0) f.1)))))

-- THE ANSWER
pub told-answer : (cs : List Cond) (w : Want) (items rows : List Row) (told : Reply) → HoldsOnce key_of items rows → Rises key_of rows → IsReplyOver (filter (meets_all cs) items) w told → told ≡ answer_over (matching cs rows) w
told-answer cs (want.Rows names) items rows told once rises h = h.1 ∙ ap reply.Rows (told-rows names (meets_all cs) items rows h.0 (same-once key_of items rows once rises) rises h.2)
told-answer cs want.Count items rows told once rises h = h ∙ ap reply.Count (count-same (cell_of 0) (meets_all cs) key_of items rows (same-once key_of items rows once rises))
told-answer cs (want.Sum a) items rows told once rises h = h ∙ ap reply.Sum (total-same (cell_of a) (meets_all cs) key_of items rows (same-once key_of items rows once rises))
told-answer cs (want.Min a) items rows told once rises h = h ∙ ap reply.Least (least-same (cell_of a) (meets_all cs) key_of items rows (same-once key_of items rows once rises))
told-answer cs (want.Max a) items rows told once rises h = h ∙ ap reply.Least (greatest-same (cell_of a) (meets_all cs) key_of items rows (same-once key_of items rows once rises))

-- ---- of no rows

-- the answer over no rows is a reply over no rows
pub told-nothing : (w : Want) → IsReplyOver [] w (answer_over [] w)
told-nothing (want.Rows names) = ([], refl, record { moved = IsPermutation-refl []; sorted = λ i j d l m. absurd (omega arith) })
told-nothing want.Count = refl
told-nothing (want.Sum a) = refl
told-nothing (want.Min a) = refl
told-nothing (want.Max a) = refl

-- where the run of the first condition is empty, no row meets all conditions
pub none-matching : (cs : List Cond) (items : List Row) (from upto : ℕ) → IsRun (meets_first cs) items from upto → from ≡ upto → filter (meets_all cs) items ≡ []
none-matching cs items from upto run e =
    let none : slice_range items from upto ≡ [] = ap (λ (n : ℕ). take n (drop from items)) (let z : upto - from ≡ 0 = omega arith in z) in
    sym (first-further cs items) ∙ ap (filter (meets_all (further cs))) (filter-run (meets_first cs) items from upto run ∙ none)
