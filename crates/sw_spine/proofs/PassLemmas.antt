-- A pass over places that an index gives meets each row that meets all of some conditions.
use Rattle.std.proofs.Common.{◌≡◌, ◌≢◌, ◌<◌, ◌≤◌, ◌+◌, ◌-◌, ◌++◌, ◌∙◌, subst, ℕ, ℤ, zero, suc, Bool, true, false, List, [], ◌∷◌, length, map, get_or, set, replicate, refl, sym, ap, append_assoc, length-append, length-set, arith, ⊎_elim}
use Rattle.std.specs.Prelude.{Contains, IfSome, OnErr, OnOk, Option, None, Some, Result, Ok, Err}
use Rattle.std.specs.List.{range_with_len}
use Rattle.std.proofs.lemmas.Bool.{cases_lt}
use Rattle.std.proofs.lemmas.List.{append-nil, get_or-replicate, get_or-set_other, get_or-set_same, length-map, length-replicate, map-append}
use Rattle.std.proofs.lemmas.List.Elements.{at_from_Contains}
use Rattle.std.proofs.lemmas.List.FromFn.{length-range_with_len}
use Rattle.std.proofs.lemmas.List.Folds.{list_all_at}
use Rattle.sw_query.specs.Bounds.{is_within}
use Rattle.sw_query.specs.Scan.{cell_of, column, matching, meets, meets_all}
use Rattle.sw_query.specs.declared.bound.Bound.{Bound}
use Rattle.sw_query.specs.declared.query.Cond.{Cond}
use Rattle.sw_table.specs.Kept.{kept}
use Rattle.sw_table.specs.Live.{Living, came_with}
use Rattle.sw_table.specs.declared.row.Row.{Row}
use Rattle.sw_table.proofs.LiveLaws.{kept-fresh}
use Rattle.sw_spine.specs.Listed.{flags_at, listed, rows_at}
use Rattle.sw_spine.specs.Indexes.{AreIndexes, IsIndexOf, IsIndexOfFirst, MeetsMatching, PlacesOf, places_within}
use Rattle.sw_spine.proofs.IndexLemmas.{index-length}
use Rattle.sw_spine.proofs.ListedLemmas.{Inside, at-all, inside-kept, inside-range, no_row}

-- ---- which of so many rows are listed

-- whether each of so many rows is gone over: those whose cells are within two bounds, and all that have no cell here
abbrev gone_over : Option Bound → Option Bound → List ℤ → ℕ → List Bool
gone_over lower upper [] many = replicate many true
gone_over lower upper (z ∷ zs) zero = []
gone_over lower upper (z ∷ zs) (suc many) = is_within lower upper z ∷ gone_over lower upper zs many

gone-long : (lower upper : Option Bound) (zs : List ℤ) (many : ℕ) → length zs ≤ many → length (gone_over lower upper zs many) ≡ many
gone-long lower upper [] many le = length-replicate many true
gone-long lower upper (z ∷ zs) zero le = refl
gone-long lower upper (z ∷ zs) (suc many) le = ap suc (gone-long lower upper zs many (omega (arith, le)))

listed-kept : (lower upper : Option Bound) (n : ℕ) (zs : List ℤ) (many : ℕ) → length zs ≤ many → places_within lower upper n zs ++ range_with_len (n + length zs) (many - length zs) ≡ kept (gone_over lower upper zs many) (range_with_len n many)
listed-kept lower upper n [] many le =
    ap (λ k. range_with_len k (many - 0)) (let e : n + 0 ≡ n = omega arith in e)
    ∙ ap (range_with_len n) (let e : many - 0 ≡ many = omega arith in e)
    ∙ sym (kept-fresh many (range_with_len n many) (sym (length-range_with_len n many)))
listed-kept lower upper n (z ∷ zs) zero le = absurd (omega (arith, le))
listed-kept lower upper n (z ∷ zs) (suc many) le = by-test (
    ap (λ k. places_within lower upper (n + 1) zs ++ range_with_len k (suc many - suc (length zs))) (let e : n + suc (length zs) ≡ n + 1 + length zs = omega arith in e)
    ∙ ap (λ k. places_within lower upper (n + 1) zs ++ range_with_len (n + 1 + length zs) k) (let e : suc many - suc (length zs) ≡ many - length zs = omega arith in e)
    ∙ listed-kept lower upper (n + 1) zs many (omega (arith, le))
    ) (is_within lower upper z) refl
  where
    by-test : places_within lower upper (n + 1) zs ++ range_with_len (n + suc (length zs)) (suc many - suc (length zs)) ≡ kept (gone_over lower upper zs many) (range_with_len (n + 1) many) → (b : Bool) → is_within lower upper z ≡ b → places_within lower upper n (z ∷ zs) ++ range_with_len (n + suc (length zs)) (suc many - suc (length zs)) ≡ kept (gone_over lower upper (z ∷ zs) (suc many)) (range_with_len n (suc many))
    by-test rest true is = rw is (ap (λ l. n ∷ l) rest)
    by-test rest false is = rw is rest

-- ---- what is met at the places that are kept

map-kept : {X Y : Type 0} (f : X → Y) (fs : List Bool) (xs : List X) → map f (kept fs xs) ≡ kept fs (map f xs)
map-kept f [] xs = refl
map-kept f (b ∷ fs) [] = refl
map-kept f (true ∷ fs) (x ∷ xs) = ap (λ l. f x ∷ l) (map-kept f fs xs)
map-kept f (false ∷ fs) (x ∷ xs) = map-kept f fs xs

-- the rows that are passed by do not meet all conditions
abbrev PassesBy : List Cond → List Bool → List Row → Type 0
PassesBy conds [] rows = Unit {0}
PassesBy conds (b ∷ fs) [] = Unit {0}
PassesBy conds (b ∷ fs) (r ∷ rs) = (b ≡ false → meets_all conds r ≡ false) × PassesBy conds fs rs

met-by : (conds : List Cond) (fs live : List Bool) (rows : List Row) → length fs ≡ length rows → length live ≡ length rows → PassesBy conds fs rows → matching conds (kept (kept fs live) (kept fs rows)) ≡ matching conds (kept live rows)
met-by conds [] live [] long many h = ap (matching conds) (nothing live)
  where
    nothing : (live : List Bool) → [] ≡ kept live (let e : List Row = [] in e)
    nothing [] = refl
    nothing (b ∷ bs) = refl
met-by conds [] live (r ∷ rows) long many h = absurd (omega (arith, long))
met-by conds (b ∷ fs) live [] long many h = absurd (omega (arith, long))
met-by conds (b ∷ fs) [] (r ∷ rows) long many h = absurd (omega (arith, many))
met-by conds (true ∷ fs) (true ∷ live) (r ∷ rows) long many h = by-test (met-by conds fs live rows (omega (arith, long)) (omega (arith, many)) h.1) (meets_all conds r) refl
  where
    by-test : matching conds (kept (kept fs live) (kept fs rows)) ≡ matching conds (kept live rows) → (t : Bool) → meets_all conds r ≡ t → matching conds (r ∷ kept (kept fs live) (kept fs rows)) ≡ matching conds (r ∷ kept live rows)
    by-test rest true is = rw is (ap (λ l. r ∷ l) rest)
    by-test rest false is = rw is rest
met-by conds (true ∷ fs) (false ∷ live) (r ∷ rows) long many h = met-by conds fs live rows (omega (arith, long)) (omega (arith, many)) h.1
met-by conds (false ∷ fs) (true ∷ live) (r ∷ rows) long many h =
    let out = h.0 refl in
    rw out (met-by conds fs live rows (omega (arith, long)) (omega (arith, many)) h.1)
met-by conds (false ∷ fs) (false ∷ live) (r ∷ rows) long many h = met-by conds fs live rows (omega (arith, long)) (omega (arith, many)) h.1

-- ---- a row that does not meet one condition

-- a row that fails one condition fails all together
pub not-met : (conds : List Cond) (c : Cond) (r : Row) → Contains conds c → meets r c ≡ false → meets_all conds r ≡ false
not-met conds c r has out =
    let at = at_from_Contains conds c has in
    list_all_at (meets r) conds at.0 c at.1 (ap (meets r) (at.2 c) ∙ out)

no-more-passed : (conds : List Cond) (many : ℕ) (rows : List Row) → PassesBy conds (replicate many true) rows
no-more-passed conds zero rows = tt
no-more-passed conds (suc many) [] = tt
no-more-passed conds (suc many) (r ∷ rows) = (λ e. cc, no-more-passed conds many rows)

passes-by : (conds : List Cond) (c : Cond) → Contains conds c → (rows : List Row) (zs rest : List ℤ) → column c.attr rows ≡ zs ++ rest → PassesBy conds (gone_over c.lower c.upper zs (length rows)) rows
passes-by conds c has rows [] rest is = no-more-passed conds (length rows) rows
passes-by conds c has [] (z ∷ zs) rest is = tt
passes-by conds c has (r ∷ rows) (z ∷ zs) rest is =
    let cell : cell_of c.attr r ≡ z = cc in
    let more : column c.attr rows ≡ zs ++ rest = cc in
    (λ out. not-met conds c r has (ap (is_within c.lower c.upper) cell ∙ out), passes-by conds c has rows zs rest more)

-- ---- the pass

-- the places that an index gives for one condition hold all matching rows
pub meets-matching : (conds : List Cond) (c : Cond) (t : Living) (ps : List (ℤ × ℕ)) (some : List ℕ) → Contains conds c → length t.live ≡ length t.came → IsIndexOfFirst c.attr t.came ps → PlacesOf ps c.lower c.upper some → MeetsMatching conds t some (length ps)
meets-matching conds c t ps some has many first found =
    let zs = first.cells in
    let n = length t.came in
    let fs = gone_over c.lower c.upper zs n in
    let long : length ps ≡ length zs = index-length zs ps first.all in
    let le : length zs ≤ n = omega (arith, length-map t.came (cell_of c.attr), ap (λ (l : List ℤ). length l) first.first, length-append zs first.rest) in
    let is : listed some (length ps) n ≡ kept fs (range_with_len 0 n) =
    ap (λ k. some ++ range_with_len k (n - k)) long ∙ ap (λ l. l ++ range_with_len (length zs) (n - length zs)) (found zs first.all)
    ∙ ap (λ k. places_within c.lower c.upper 0 zs ++ range_with_len k (n - length zs)) (let e : length zs ≡ 0 + length zs = omega arith in e)
    ∙ listed-kept c.lower c.upper 0 zs n le in
    record {
      inside = record { short = omega (arith, long, le); inside = subst (Inside n) (sym is) (inside-kept n fs (range_with_len 0 n) (inside-range n 0 n (omega arith))) };
      met = λ qs e.
          let at : qs ≡ kept fs (range_with_len 0 n) = e ∙ is in
          let flags : flags_at qs t.live ≡ kept fs t.live = ap (λ l. flags_at l t.live) at ∙ map-kept (λ p. get_or t.live p false) fs (range_with_len 0 n) ∙ ap (kept fs) (at-all false t.live n many) in
          let rows : rows_at qs t.came ≡ kept fs t.came = ap (λ l. rows_at l t.came) at ∙ map-kept (λ p. get_or t.came p no_row) fs (range_with_len 0 n) ∙ ap (kept fs) (at-all no_row t.came n refl) in
          ap (λ (l : List Bool). matching conds (kept l (rows_at qs t.came))) flags
          ∙ ap (λ (l : List Row). matching conds (kept (kept fs t.live) l)) rows
          ∙ met-by conds fs t.live t.came (gone-long c.lower c.upper zs n le) many (passes-by conds c has t.came zs first.rest first.first);
    }

-- ---- indexes stay while rows come

-- an index of all rows is one of the first so many
pub first-whole : (attr : ℕ) (rows : List Row) (ps : List (ℤ × ℕ)) → IsIndexOf (column attr rows) ps → IsIndexOfFirst attr rows ps
first-whole attr rows ps of = record { cells = column attr rows; rest = []; first = sym (append-nil (column attr rows)); all = of }

-- and stays so as rows come
pub first-more : (attr : ℕ) (rows : List Row) (r : Row) (ps : List (ℤ × ℕ)) → IsIndexOfFirst attr rows ps → IsIndexOfFirst attr (rows ++ r ∷ []) ps
first-more attr rows r ps f = record {
  cells = f.cells;
  rest = f.rest ++ cell_of attr r ∷ [];
  first = map-append (cell_of attr) rows (r ∷ []) ∙ ap (λ l. l ++ cell_of attr r ∷ []) f.first ∙ append_assoc f.cells f.rest (cell_of attr r ∷ []);
  all = f.all;
}

some-more : (P Q : List (ℤ × ℕ) → Type 0) → ((ps : List (ℤ × ℕ)) → P ps → Q ps) → (o : Option (List (ℤ × ℕ))) → IfSome o P → IfSome o Q
some-more P Q f None h = tt
some-more P Q f (Some ps) h = f ps h

-- all indexes stay so as rows come
pub indexes-more : (rows : List Row) (r : Row) (ixs : List (Option (List (ℤ × ℕ)))) → AreIndexes rows ixs → AreIndexes (rows ++ r ∷ []) ixs
indexes-more rows r ixs h a lt = some-more (IsIndexOfFirst a rows) (IsIndexOfFirst a (rows ++ r ∷ [])) (first-more a rows r) (get_or ixs a None) (h a lt)

-- an index is put in its place
pub indexes-set : (rows : List Row) (ixs : List (Option (List (ℤ × ℕ)))) (attr : ℕ) (ps : List (ℤ × ℕ)) → AreIndexes rows ixs → attr < length ixs → IsIndexOf (column attr rows) ps → AreIndexes rows (set ixs attr (Some ps))
indexes-set rows ixs attr ps h inside of a lt = ⊎_elim (λ less. other (λ e. omega (arith, less, e))) (λ le. ⊎_elim (λ less. other (λ e. omega (arith, less, e))) (λ ge. same (omega (arith, le, ge))) (cases_lt attr a)) (cases_lt a attr)
  where
    same : a ≡ attr → IfSome (get_or (set ixs attr (Some ps)) a None) (IsIndexOfFirst a rows)
    same e = subst (λ (k : ℕ). IfSome (get_or (set ixs attr (Some ps)) k None) (IsIndexOfFirst k rows)) (sym e) (subst (λ (o : Option (List (ℤ × ℕ))). IfSome o (IsIndexOfFirst attr rows)) (sym (get_or-set_same ixs attr (Some ps) None inside)) (first-whole attr rows ps of))

    other : a ≢ attr → IfSome (get_or (set ixs attr (Some ps)) a None) (IsIndexOfFirst a rows)
    other apart = subst (λ (o : Option (List (ℤ × ℕ))). IfSome o (IsIndexOfFirst a rows)) (sym (get_or-set_other ixs attr a (Some ps) None apart)) (h a (omega (arith, lt, length-set ixs attr (Some ps))))

-- at first there is no index
pub no-indexes : (rows : List Row) (n : ℕ) → AreIndexes rows (replicate n None)
no-indexes rows n a lt = subst (λ (o : Option (List (ℤ × ℕ))). IfSome o (IsIndexOfFirst a rows)) (sym (get_or-replicate n a None None (omega (arith, lt, length-replicate n (let e : Option (List (ℤ × ℕ)) = None in e))))) tt

-- after an insert that was made, or was not for want of memory
pub indexes-insert : {A E : Type 0} (told : Result A E) (old new : Living) (r : Row) (ixs : List (Option (List (ℤ × ℕ)))) → OnOk told (new ≡ came_with r old) → OnErr told (new ≡ old) → AreIndexes old.came ixs → AreIndexes new.came ixs
indexes-insert (Ok done) old new r ixs ok err h = subst (λ (t : Living). AreIndexes t.came ixs) (sym ok) (indexes-more old.came r ixs h)
indexes-insert (Err e) old new r ixs ok err h = subst (λ (t : Living). AreIndexes t.came ixs) (sym err) h
