-- The list of a tape's live rows, kept up when the tape changes.
use Rattle.std.proofs.Common.{◌≡◌, ◌≢◌, ℕ, zero, suc, ◌<◌, ℤ, Bool, true, false, true≢false, List, [], ◌∷◌, ◌++◌, fold, length, get_or, replicate, slice_set, refl, ap, sym, ◌∙◌, arith, subst, All, Any, Option}
use Rattle.std.proofs.lemmas.List.{append-nil, append_assoc, length-append}
use Rattle.std.proofs.Math.ListN.{length-set}
use Rattle.sw_query.specs.declared.bound.Bound.{Bound}
use Rattle.sw_table.specs.declared.row.Row.{Row}
use Rattle.sw_query.specs.Scan.{cell_of}
use Rattle.sw_table.specs.declared.row.Update.{Update}
use Rattle.sw_table.specs.Updates.{has_key, rows_then, without}
use Rattle.sw_kernel.specs.Arrangement.{joined}
use Rattle.sw_kernel.specs.Replay.{Step, loaded, inserted, removed, ranged}
use Rattle.sw_kernel.specs.Tapes.{IsTape, brought}
use Rattle.sw_map.specs.Lawful.{rows_by}
use Rattle.sw_table.specs.Kept.{kept}
use Rattle.sw_tape.specs.Restart.{first_rows}
use Rattle.sw_set.specs.Live.{IsStandingOf, Standing, live_among}
use Rattle.sw_set.specs.Shelf.{Rises, key_of, logged_rows}
use Rattle.sw_set.specs.Tied.{IsTied}
use Rattle.sw_table.proofs.LiveLaws.{kept-fresh, kept-has, kept-lacks, kept-more, kept-removed}
use Rattle.sw_set.proofs.Areas.Longer.{brought-inserted, brought-removed, logged-inserted, logged-removed}
use Rattle.sw_set.proofs.Areas.Shelves.{brought-ranged, first-ranged, logged-ranged}

-- the list of the live rows is still that of the tape when the tape has one more range
pub tied-ranged : (a : ℕ) (tape : List (Step Row)) (s : Standing) (lower upper : Option Bound) → IsTape tape → IsTied a tape s → IsTied a (tape ++ ranged lower upper ∷ []) s
tied-ranged a tape s lower upper t w =
    let same = brought-ranged tape lower upper in
    record {
      came = ap (λ (v : List Row). v ++ s.later) (first-ranged tape lower upper t) ∙ w.came ∙ sym same;
      many = w.many ∙ ap length (sym same);
      live = ap (kept s.flags) same ∙ w.live ∙ sym (logged-ranged a tape lower upper);
    }

-- one load, of which all rows are live
pub tied-loaded : (a : ℕ) (rows : List Row) (n : ℕ) → n ≡ length rows → IsTied a (loaded rows ∷ []) (record { later = []; flags = replicate n true })
tied-loaded a rows n is =
    let all : n ≡ length (rows ++ []) = is ∙ ap length (sym (append-nil rows)) in
    record {
      came = refl;
      many = long n ∙ all;
      live = kept-fresh n (rows ++ []) all ∙ append-nil rows;
    }
  where
    long : (m : ℕ) → length (replicate m true) ≡ m
    long zero = refl
    long (suc m) = ap suc (long m)

first-more : (tape : List (Step Row)) (e : Step Row) → IsTape tape → first_rows (tape ++ e ∷ []) ≡ first_rows tape
first-more [] e t = absurd t
first-more (x ∷ tape) e t = refl

-- a row comes
pub tied-inserted : (a : ℕ) (tape : List (Step Row)) (s : Standing) (r : Row) → IsTape tape → IsTied a tape s → IsTied a (tape ++ inserted r ∷ []) (record { later = s.later ++ r ∷ []; flags = s.flags ++ true ∷ [] })
tied-inserted a tape s r t w =
    let more = brought-inserted tape r in
    let n = length-append s.flags (true ∷ []) in
    let m = length-append (brought tape) (r ∷ []) in
    let many = w.many in
    let one : length (s.flags ++ true ∷ []) ≡ length (brought tape ++ r ∷ []) = omega (arith, n, m, many) in
    record {
      came = ap (λ (v : List Row). v ++ (s.later ++ r ∷ [])) (first-more tape (inserted r) t) ∙ sym (append_assoc (first_rows tape) s.later (r ∷ [])) ∙ ap (λ (v : List Row). v ++ r ∷ []) w.came ∙ sym more;
      many = one ∙ ap length (sym more);
      live = ap (kept (s.flags ++ true ∷ [])) more ∙ kept-more s.flags (brought tape) r w.many ∙ ap (λ (v : List Row). v ++ r ∷ []) w.live ∙ sym (logged-inserted a tape r);
    }

-- ---- what it tells
pub tied-came : (a : ℕ) (tape : List (Step Row)) (s : Standing) (load : List Row) → load ≡ first_rows tape → IsTied a tape s → load ++ s.later ≡ brought tape
tied-came a tape s load is w = ap (λ (v : List Row). v ++ s.later) is ∙ w.came

-- there is a flag for each row of the load and for each later one
pub tied-many : (a : ℕ) (tape : List (Step Row)) (s : Standing) (load : List Row) → load ≡ first_rows tape → IsTied a tape s → length s.flags ≡ length (load ++ s.later)
tied-many a tape s load is w = w.many ∙ ap length (sym (tied-came a tape s load is w))

-- where the rows that came rise, the list of a tape's live rows is one of its load with flags
pub tied-standing : (a : ℕ) (tape : List (Step Row)) (s : Standing) (load : List Row) → load ≡ first_rows tape → Rises key_of (brought tape) → IsTied a tape s → IsStandingOf load s
tied-standing a tape s load is rise w = record { many = tied-many a tape s load is w; rise = subst (Rises key_of) (sym (tied-came a tape s load is w)) rise }

-- the rows that the list has as live are the live rows of the tape
pub tied-live : (a : ℕ) (tape : List (Step Row)) (s : Standing) (load : List Row) → load ≡ first_rows tape → IsTied a tape s → live_among load s ≡ logged_rows a tape
tied-live a tape s load is w = ap (kept s.flags) (tied-came a tape s load is w) ∙ w.live

-- the rows that are live after updates
pub tied-after : (a : ℕ) (tape : List (Step Row)) (s live : Standing) (load : List Row) (us : List Update) → load ≡ first_rows tape → IsTied a tape s → live_among load live ≡ fold rows_then (live_among load s) us → live_among (first_rows tape) live ≡ fold rows_then (logged_rows a tape) us
tied-after a tape s live load us is w after = ap (λ (l : List Row). live_among l live) (sym is) ∙ after ∙ ap (λ (l : List Row). fold rows_then l us) (tied-live a tape s load is w)

-- ---- the row of a key
-- the row of a key goes
pub tied-removed : (a : ℕ) (tape : List (Step Row)) (s : Standing) (load : List Row) (place k p : ℕ) → load ≡ first_rows tape → IsTape tape → Rises key_of (brought tape) → place < length (joined (rows_by a tape)) → ((e : Row) → (get_or (joined (rows_by a tape)) place e).key ≡ k) → p < length (load ++ s.later) → ((d : Row) → (get_or (load ++ s.later) p d).key ≡ k) → IsTied a tape s → IsTied a (tape ++ removed place ∷ []) (record s { flags = slice_set s.flags p false })
tied-removed a tape s load place k p is t rise within own lt has w =
    let same = brought-removed tape place in
    let are = tied-came a tape s load is w in
    let none : Row = record { key = 0; cells = [] } in
    let inside : p < length (brought tape) = subst (λ (v : List Row). p < length v) are lt in
    let key : (get_or (brought tape) p none).key ≡ k = subst (λ (v : List Row). (get_or v p none).key ≡ k) are (has none) in
    record {
      came = ap (λ (v : List Row). v ++ s.later) (first-more tape (removed place) t) ∙ w.came ∙ sym same;
      many = length-set s.flags p false ∙ w.many ∙ ap length (sym same);
      live = ap (kept (slice_set s.flags p false)) same ∙ kept-removed k none s.flags (brought tape) p w.many rise inside key ∙ ap (without k) w.live ∙ sym (logged-removed a tape place k within own);
    }

-- a key that no row has is not live
pub tied-lacks : (a : ℕ) (tape : List (Step Row)) (s : Standing) (load : List Row) (k : ℕ) → load ≡ first_rows tape → IsTied a tape s → All (λ (r : Row). r.key ≢ k) (load ++ s.later) → has_key k (logged_rows a tape) ≡ true → ⊥
tied-lacks a tape s load k is w none live =
    true≢false (sym (ap (has_key k) (tied-live a tape s load is w) ∙ live) ∙ kept-lacks k s.flags (load ++ s.later) none)

-- an item whose flag is true
kept-any : {X : Type 0} (P : X → Type 0) (fs : List Bool) (xs : List X) (p : ℕ) (d : X) → length fs ≡ length xs → p < length xs → get_or fs p false ≡ true → P (get_or xs p d) → Any P (kept fs xs)
kept-any P fs [] p d many lt on px = absurd (omega (arith, lt))
kept-any P [] (x ∷ xs) p d many lt on px = absurd (omega (arith, many))
kept-any P (true ∷ fs) (x ∷ xs) zero d many lt on px = (0, x, omega arith, refl, px)
kept-any P (false ∷ fs) (x ∷ xs) zero d many lt on px = absurd (true≢false (sym on))
kept-any P (true ∷ fs) (x ∷ xs) (suc p) d many lt on px = let r = kept-any P fs xs p d (omega (arith, many)) (omega (arith, lt)) on px in let l = r.2 in (suc r.0, r.1, omega (arith, l), r.3, r.4)
kept-any P (false ∷ fs) (x ∷ xs) (suc p) d many lt on px = kept-any P fs xs p d (omega (arith, many)) (omega (arith, lt)) on px

-- the row of a live key, with its cell
pub tied-row : (a : ℕ) (tape : List (Step Row)) (s : Standing) (load : List Row) (k p : ℕ) (v : ℤ) → load ≡ first_rows tape → Rises key_of (brought tape) → IsTied a tape s → has_key k (logged_rows a tape) ≡ true → p < length (load ++ s.later) → ((d : Row) → (get_or (load ++ s.later) p d).key ≡ k) → ((d : Row) → v ≡ cell_of a (get_or (load ++ s.later) p d)) → Any (λ (r : Row). (r.key ≡ k) × (cell_of a r ≡ v)) (logged_rows a tape)
tied-row a tape s load k p v is rise w live lt has cell =
    let none : Row = record { key = 0; cells = [] } in
    let stands = tied-standing a tape s load is rise w in
    let all = tied-live a tape s load is w in
    let on : get_or s.flags p false ≡ true = sym (kept-has k none s.flags (load ++ s.later) p stands.many stands.rise lt (has none)) ∙ ap (has_key k) all ∙ live in
    subst (Any (λ (r : Row). (r.key ≡ k) × (cell_of a r ≡ v))) all
    (kept-any (λ (r : Row). (r.key ≡ k) × (cell_of a r ≡ v)) s.flags (load ++ s.later) p none stands.many lt on (has none, sym (cell none)))
