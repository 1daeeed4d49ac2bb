-- A pass over listed places meets all live rows, while rows come and go.
use Rattle.std.proofs.Common.{◌≡◌, ◌≢◌, subst, ◌<◌, ◌≤◌, ◌+◌, ◌-◌, ◌++◌, ◌==◌, ◌∙◌, ◌⊎◌, ℕ, zero, suc, Bool, true, false, List, [], ◌∷◌, length, map, get_or, set, replicate, refl, sym, ap, append_assoc, length-append, length-set, arith, ⊎_elim, inl, inr}
use Rattle.std.specs.List.{AllByRecursion, range_with_len}
use Rattle.std.proofs.lemmas.Bool.{cases_lt}
use Rattle.std.proofs.lemmas.Bool.Decides.{nat_tests}
use Rattle.std.proofs.lemmas.List.{append-nil, get_or-append_right, get_or_append_left, get_or-set_other, get_or-set_same, length-map, length-replicate, length_push, map-append}
use Rattle.std.proofs.lemmas.List.FromFn.{fill_by_all, get_or-range_with_len, length-range_with_len}
use Rattle.std.proofs.Math.Seq.{get_or-append_seam}
use Rattle.sw_table.specs.Kept.{kept}
use Rattle.sw_table.specs.Updates.{without}
use Rattle.sw_table.specs.declared.row.Row.{Row}
use Rattle.sw_table.proofs.LiveLaws.{kept-more, kept-removed}
use Rattle.sw_spine.specs.Listed.{IsListed, MeetsAllLive, flags_at, listed, rows_at}
use Rattle.sw_spine.specs.Table.{is_numbered}
use Rattle.sw_spine.proofs.StoreLemmas.{numbered_at, numbered_rises}

-- a row for a place where there is none
abbrev pub no_row : Row
no_row = record { key = 0; cells = [] }

-- places that are less than a number
abbrev pub Inside : ℕ → List ℕ → Type 0
Inside n places = AllByRecursion (λ p. p < n) places

-- ---- what stands at places

module _ {X : Type 0} where
  -- one more item leaves what stood before it
  at-more : (d : X) (xs : List X) (x : X) (ps : List ℕ) → Inside (length xs) ps → map (λ p. get_or (xs ++ x ∷ []) p d) ps ≡ map (λ p. get_or xs p d) ps
  at-more d xs x [] h = refl
  at-more d xs x (p ∷ ps) h = rw (get_or_append_left xs (x ∷ []) d p h.0) (ap (λ l. get_or xs p d ∷ l) (at-more d xs x ps h.1))

  -- all places from 0 on have the list
  pub at-all : (d : X) (xs : List X) (n : ℕ) → length xs ≡ n → map (λ p. get_or xs p d) (range_with_len 0 n) ≡ xs
  at-all d xs n long = sym (fill_by_all (λ p. get_or xs p d) xs n d long (λ k lt. refl))

-- places in turn lie inside
pub inside-range : (n from many : ℕ) → from + many ≤ n → Inside n (range_with_len from many)
inside-range n from zero le = tt
inside-range n from (suc many) le = (omega (arith, le), inside-range n (from + 1) many (omega (arith, le)))

inside-append : (n : ℕ) (ps qs : List ℕ) → Inside n ps → Inside n qs → Inside n (ps ++ qs)
inside-append n [] qs h k = k
inside-append n (p ∷ ps) qs h k = (h.0, inside-append n ps qs h.1 k)

inside-more : (n m : ℕ) (ps : List ℕ) → n ≤ m → Inside n ps → Inside m ps
inside-more n m [] le h = tt
inside-more n m (p ∷ ps) le h = let lt = h.0 in (omega (arith, lt, le), inside-more n m ps le h.1)

-- some of the places inside lie inside
pub inside-kept : (n : ℕ) (fs : List Bool) (ps : List ℕ) → Inside n ps → Inside n (kept fs ps)
inside-kept n [] ps h = tt
inside-kept n (b ∷ fs) [] h = tt
inside-kept n (true ∷ fs) (p ∷ ps) h = (h.0, inside-kept n fs ps h.1)
inside-kept n (false ∷ fs) (p ∷ ps) h = inside-kept n fs ps h.1

-- one more row is listed at the end
range-last : (from many n : ℕ) → from + many ≡ n → range_with_len from (suc many) ≡ range_with_len from many ++ n ∷ []
range-last from zero n e = let same : from ≡ n = omega (arith, e) in ap (λ k. k ∷ []) same
range-last from (suc many) n e = ap (λ l. from ∷ l) (range-last (from + 1) many n (omega (arith, e)))

listed-more : (some : List ℕ) (from n : ℕ) → from ≤ n → listed some from (n + 1) ≡ listed some from n ++ n ∷ []
listed-more some from n le =
    ap (λ k. some ++ range_with_len from k) (let e : n + 1 - from ≡ suc (n - from) = omega (arith, le) in e)
    ∙ ap (λ l. some ++ l) (range-last from (n - from) n (omega (arith, le)))
    ∙ sym (append_assoc some (range_with_len from (n - from)) (n ∷ []))

-- ---- all of them at first

-- at first all places are listed, one after another
pub listed_new : (rows : List Row) → length rows ≤ 1048576 → IsListed rows (replicate (length rows) true) [] 0
listed_new rows most =
    let n = length rows in
    let long : length (replicate n true) ≡ n = length-replicate n true in
    let fs : flags_at (range_with_len 0 n) (replicate n true) ≡ replicate n true = at-all false (replicate n true) n long in
    let rs : rows_at (range_with_len 0 n) rows ≡ rows = at-all no_row rows n refl in
    let all : listed [] 0 n ≡ range_with_len 0 n = ap (range_with_len 0) (let e : n - 0 ≡ n = omega arith in e) in
    record {
      most = most;
      many = long;
      short = omega arith;
      meets = subst (MeetsAllLive rows (replicate n true)) (sym all) (record { inside = inside-range n 0 n (omega arith); met = ap (λ l. kept l (rows_at (range_with_len 0 n) rows)) fs ∙ ap (kept (replicate n true)) rs });
    }

-- ---- a row comes

meets-more : (given : List Row) (live : List Bool) (ps : List ℕ) (r : Row) → length live ≡ length given → MeetsAllLive given live ps → MeetsAllLive (given ++ r ∷ []) (live ++ true ∷ []) (ps ++ length given ∷ [])
meets-more given live ps r many m =
    let n = length given in
    let all = given ++ r ∷ [] in
    let flags = live ++ true ∷ [] in
    let lives : Inside (length live) ps = rw many m.inside in
    let rs : rows_at (ps ++ n ∷ []) all ≡ rows_at ps given ++ r ∷ [] =
    map-append (λ p. get_or all p no_row) ps (n ∷ []) ∙ ap (λ l. l ++ get_or all n no_row ∷ []) (at-more no_row given r ps m.inside) ∙ ap (λ x. rows_at ps given ++ x ∷ []) (get_or-append_seam given r [] no_row) in
    let last : get_or flags n false ≡ true = ap (λ k. get_or flags k false) (sym many) ∙ get_or-append_seam live true [] false in
    let fs : flags_at (ps ++ n ∷ []) flags ≡ flags_at ps live ++ true ∷ [] =
    map-append (λ p. get_or flags p false) ps (n ∷ []) ∙ ap (λ l. l ++ get_or flags n false ∷ []) (at-more false live true ps lives) ∙ ap (λ x. flags_at ps live ++ x ∷ []) last in
    record {
      inside = inside-append (length all) ps (n ∷ []) (inside-more n (length all) ps (omega (arith, length_push given r)) m.inside) (omega (arith, length_push given r), tt);
      met =
          ap (λ l. kept l (rows_at (ps ++ n ∷ []) all)) fs
          ∙ ap (kept (flags_at ps live ++ true ∷ [])) rs
          ∙ kept-more (flags_at ps live) (rows_at ps given) r (length-map ps (λ p. get_or live p false) ∙ sym (length-map ps (λ p. get_or given p no_row)))
          ∙ ap (λ l. l ++ r ∷ []) m.met
          ∙ sym (kept-more live given r many);
    }

-- a new row is listed behind the others
pub listed_insert : (given : List Row) (live : List Bool) (some : List ℕ) (from : ℕ) (r : Row) → length given < 1048576 → IsListed given live some from → IsListed (given ++ r ∷ []) (live ++ true ∷ []) some from
listed_insert given live some from r room l =
    let n = length given in
    let long : length (given ++ r ∷ []) ≡ n + 1 = length_push given r in
    record {
      most = omega (arith, long, room);
      many = omega (arith, long, length_push live true, l.many);
      short = omega (arith, long, l.short);
      meets = rw (long, listed-more some from n l.short) (meets-more given live (listed some from n) r l.many l.meets);
    }

-- ---- a row goes

not-same : (j k : ℕ) → j ≢ k → j == k ≡ false
not-same j k h = grind (arith, nat_tests, h)

same-yes : (j k : ℕ) → j ≡ k → j == k ≡ true
same-yes j k h = grind (arith, nat_tests, h)

met-without : (given : List Row) (live : List Bool) (i : ℕ) (ps : List ℕ) → is_numbered 1 given ≡ true → length live ≡ length given → Inside (length given) ps → kept (flags_at ps (set live i false)) (rows_at ps given) ≡ without (i + 1) (kept (flags_at ps live) (rows_at ps given))
met-without given live i [] num many h = refl
met-without given live i (p ∷ ps) num many h =
    let rest = met-without given live i ps num many h.1 in
    ⊎_elim (here rest) (other rest) (same-or p i)
  where
    same-or : (a b : ℕ) → (a ≡ b) ⊎ (a ≢ b)
    same-or a b = ⊎_elim (λ lt. inr (λ e. omega (arith, lt, e))) (λ le. ⊎_elim (λ lt. inr (λ e. omega (arith, lt, e))) (λ ge. inl (omega (arith, le, ge))) (cases_lt b a)) (cases_lt a b)

    key : (get_or given p no_row).key ≡ 1 + p
    key = numbered_at 1 given p no_row num h.0

    here : kept (flags_at ps (set live i false)) (rows_at ps given) ≡ without (i + 1) (kept (flags_at ps live) (rows_at ps given)) → p ≡ i → kept (flags_at (p ∷ ps) (set live i false)) (rows_at (p ∷ ps) given) ≡ without (i + 1) (kept (flags_at (p ∷ ps) live) (rows_at (p ∷ ps) given))
    here rest e =
        let gone : get_or (set live i false) p false ≡ false = ap (λ k. get_or (set live i false) k false) e ∙ get_or-set_same live i false false (omega (arith, h.0, e, many)) in
        let named : (get_or given p no_row).key == i + 1 ≡ true = same-yes _ _ (omega (arith, key, e)) in
        rw gone (rest ∙ dropped (get_or live p false) named)
      where
        dropped : (b : Bool) → (get_or given p no_row).key == i + 1 ≡ true → without (i + 1) (kept (flags_at ps live) (rows_at ps given)) ≡ without (i + 1) (kept (b ∷ flags_at ps live) (get_or given p no_row ∷ rows_at ps given))
        dropped true is = rw is refl
        dropped false is = refl

    other : kept (flags_at ps (set live i false)) (rows_at ps given) ≡ without (i + 1) (kept (flags_at ps live) (rows_at ps given)) → p ≢ i → kept (flags_at (p ∷ ps) (set live i false)) (rows_at (p ∷ ps) given) ≡ without (i + 1) (kept (flags_at (p ∷ ps) live) (rows_at (p ∷ ps) given))
    other rest apart =
        let stays : get_or (set live i false) p false ≡ get_or live p false = get_or-set_other live i p false false apart in
        let named : (get_or given p no_row).key == i + 1 ≡ false = not-same _ _ (λ e. apart (omega (arith, key, e))) in
        rw stays (left rest (get_or live p false) named)
      where
        left : kept (flags_at ps (set live i false)) (rows_at ps given) ≡ without (i + 1) (kept (flags_at ps live) (rows_at ps given)) → (b : Bool) → (get_or given p no_row).key == i + 1 ≡ false → kept (b ∷ flags_at ps (set live i false)) (get_or given p no_row ∷ rows_at ps given) ≡ without (i + 1) (kept (b ∷ flags_at ps live) (get_or given p no_row ∷ rows_at ps given))
        left rest true is = rw is (ap (λ l. get_or given p no_row ∷ l) rest)
        left rest false is = rest

-- a removed row may stay listed
pub listed_remove : (given : List Row) (live : List Bool) (some : List ℕ) (from key : ℕ) → 0 < key → key - 1 < length live → is_numbered 1 given ≡ true → IsListed given live some from → IsListed given (set live (key - 1) false) some from
listed_remove given live some from key first lt num l =
    let i = key - 1 in
    let ps = listed some from (length given) in
    let next : i + 1 ≡ key = omega (arith, first) in
    let inside : i < length given = omega (arith, lt, l.many) in
    let gone : kept (set live i false) given ≡ without key (kept live given) =
    kept-removed key no_row live given i l.many (numbered_rises 1 given num) inside (omega (arith, numbered_at 1 given i no_row num inside, next)) in
    record {
      most = l.most;
      many = length-set live i false ∙ l.many;
      short = l.short;
      meets = record {
        inside = l.meets.inside;
        met = met-without given live i ps num l.many l.meets.inside ∙ ap (λ k. without k (kept (flags_at ps live) (rows_at ps given))) next ∙ ap (without key) l.meets.met ∙ sym gone;
      };
    }

-- ---- the places of rows that went are left out

module _ {X : Type 0} where
  -- what is kept of the kept is all
  kept-again : (f : ℕ → Bool) (g : ℕ → X) (ps : List ℕ) → kept (map f (kept (map f ps) ps)) (map g (kept (map f ps) ps)) ≡ kept (map f ps) (map g ps)
  kept-again f g [] = refl
  kept-again f g (p ∷ ps) = by-flag (kept-again f g ps) (f p) refl
    where
      by-flag : kept (map f (kept (map f ps) ps)) (map g (kept (map f ps) ps)) ≡ kept (map f ps) (map g ps) → (b : Bool) → f p ≡ b → kept (map f (kept (map f (p ∷ ps)) (p ∷ ps))) (map g (kept (map f (p ∷ ps)) (p ∷ ps))) ≡ kept (map f (p ∷ ps)) (map g (p ∷ ps))
      by-flag rest true is = rw (is, is) (ap (λ l. g p ∷ l) rest)
      by-flag rest false is = rw is rest

-- the places of live rows alone are a list as well
pub listed_tidy : (given : List Row) (live : List Bool) (some : List ℕ) (from : ℕ) → IsListed given live some from → IsListed given live (kept (flags_at (listed some from (length given)) live) (listed some from (length given))) (length given)
listed_tidy given live some from l =
    let n = length given in
    let ps = listed some from n in
    let left = kept (flags_at ps live) ps in
    let is : listed left n n ≡ left = ap (λ k. left ++ range_with_len n k) (let e : n - n ≡ 0 = omega arith in e) ∙ append-nil left in
    record {
      most = l.most;
      many = l.many;
      short = omega arith;
      meets = rw is (record { inside = inside-kept n (flags_at ps live) ps l.meets.inside; met = kept-again (λ p. get_or live p false) (λ p. get_or given p no_row) ps ∙ l.meets.met });
    }

-- ---- a place by its number

-- how many places are listed
pub listed_long : (some : List ℕ) (from many : ℕ) → length (listed some from many) ≡ length some + (many - from)
listed_long some from many = length-append some (range_with_len from (many - from)) ∙ ap (λ n. length some + n) (length-range_with_len from (many - from))

-- the first of them are those that are written out
pub listed_early : (some : List ℕ) (from many i d : ℕ) → i < length some → get_or some i d ≡ get_or (listed some from many) i d
listed_early some from many i d lt = sym (get_or_append_left some (range_with_len from (many - from)) d i lt)

-- the others count on
pub listed_late : (some : List ℕ) (from many i : ℕ) → length some ≤ i → i < length (listed some from many) → from + (i - length some) ≡ get_or (listed some from many) i 0
listed_late some from many i past lt = sym (get_or-append_right some (range_with_len from (many - from)) (length some) i 0 refl past ∙ get_or-range_with_len from (many - from) (i - length some) 0 (omega (arith, listed_long some from many, lt, past)))

-- each place is that of a row
pub listed_inside : (n : ℕ) (ps : List ℕ) (i d : ℕ) → AllByRecursion (λ p. p < n) ps → i < length ps → get_or ps i d < n
listed_inside n [] i d h lt = absurd (omega (arith, lt))
listed_inside n (p ∷ ps) zero d h lt = h.0
listed_inside n (p ∷ ps) (suc i) d h lt = listed_inside n ps i d h.1 (omega (arith, lt))
