-- Which rows are live, by their keys: at first, and after one update more.
use Rattle.std.proofs.Common.{◌≡◌, ◌∙◌, refl, ap, sym, subst, arith, ℕ, zero, suc, ◌+◌, ◌-◌, ◌<◌, ◌≤◌, ◌<ℤ◌, ◌^◌, ◌==◌, ◌&&◌, ◌||◌, not, nat_lt, nat_le, Bool, true, false, List, [], ◌∷◌, ◌++◌, get_or, set, length, length-set, drop, map, true≢false, replicate, fold, None, Some, Option, ℤ, All}
use Rattle.std.specs.List.{enumerate_from}
use Rattle.std.proofs.lemmas.Bool.Decides.{nat_tests}
use Rattle.std.proofs.lemmas.Bool.{eq-eqb, eqb-true}
use Rattle.std.proofs.lemmas.Grind.{common_steps, get_or-set_at}
use Rattle.std.proofs.lemmas.List.{get_or_append_left, get_or_past, get_or_push, get_or-replicate, get_or-set_other, drop_more, length-append, length-replicate}
use Rattle.std.proofs.lemmas.List.Elements.{All-append}
use Rattle.std.proofs.lemmas.List.Sums.{fold-append}
use Rattle.sw_table.specs.declared.row.Row.{Row}
use Rattle.sw_table.specs.declared.row.Update.{Update}
use Rattle.sw_table.specs.declared.row.Update.TheVariants.{Insert, Remove}
use Rattle.sw_table.specs.Updates.{has_key, rows_of, rows_then, without}
use Rattle.sw_set.specs.Shelf.{came_then}
use Rattle.sw_set.proofs.Areas.Receiving.{IsBelow, all-one, has-last, has-without}
use Rattle.sw_chunks.specs.Cuts.{RiseAbove}
use Rattle.sw_chunks.specs.Heads.{HeadState, IsSupplied, opened_area}
use Rattle.sw_chunks.specs.Routing.{MayFollow, given_by}
use Rattle.sw_chunks.proofs.Opened.{given-opened, rows-opened}
use Rattle.test_areas.specs.Opening.{numbered, row_of}
use Rattle.test_areas.proofs.Numbering.{numbered-below}
use Rattle.test_heads.specs.Growing.{AreLive}

-- ---- at first
has-numbered : (n : ℕ) (cs : List (List ℤ)) (key : ℕ) → has_key key (map row_of (enumerate_from n cs)) ≡ (nat_le n key && nat_lt key (n + length cs))
has-numbered n [] key = grind (arith, nat_tests)
has-numbered n (c ∷ cs) key = grind (arith, nat_tests, has-numbered (n + 1) cs key)

past-end : {A : Type 0} (k : ℕ) (xs : List A) (d : A) → length xs ≤ k → get_or xs k d ≡ d
past-end k xs d le = get_or_past xs k d le

live-at : (m key : ℕ) → (nat_le 1 key && nat_lt key (1 + m)) ≡ get_or (false ∷ replicate m true) key false
live-at m zero = grind (arith, nat_tests)
live-at m (suc key) = grind (arith, nat_tests, common_steps, get_or-replicate m key true false, past-end key (replicate m true) false, length-replicate m true)

long-numbered : (n : ℕ) (cs : List (List ℤ)) → length (map row_of (enumerate_from n cs)) ≡ length cs
long-numbered n [] = refl
long-numbered n (c ∷ cs) = let e = long-numbered (n + 1) cs in omega (arith, e)

-- at first all rows live
pub live-opened : (us : List Update) (rows : List Row) (cs : List (List ℤ)) (live : List Bool) (many : ℕ) → us ≡ map Insert rows → rows ≡ numbered cs → many ≡ length rows → live ≡ false ∷ replicate many true → AreLive us live
live-opened us rows cs live many is numbered-is many-is live-is = record {
  came = subst (λ n. IsBelow n (given_by us)) (sym long) (subst (IsBelow (1 + length cs)) (sym (ap given_by is ∙ given-opened rows ∙ numbered-is)) (numbered-below cs));
  beside = λ key. ap (has_key key) (ap rows_of is ∙ rows-opened rows ∙ numbered-is) ∙ has-numbered 1 cs key ∙ live-at (length cs) key ∙ sym (ap (λ l. get_or l key false) listed);
}
  where
    listed : live ≡ false ∷ replicate (length cs) true
    listed = live-is ∙ ap (λ n. false ∷ replicate n true) (many-is ∙ ap length numbered-is ∙ long-numbered 1 cs)

    long : length live ≡ 1 + length cs
    long = let e = ap length listed in let m = length-replicate (length cs) true in omega (arith, e, m)

-- ---- one update more
given-more : (us : List Update) (u : Update) → given_by (us ++ u ∷ []) ≡ came_then (given_by us) u
given-more us u = fold-append came_then [] us (u ∷ [])

rows-more : (us : List Update) (u : Update) → rows_of (us ++ u ∷ []) ≡ rows_then (rows_of us) u
rows-more us u = fold-append rows_then [] us (u ∷ [])

-- a row by the next key may come
pub may-come : (a : ℕ) (us : List Update) (live : List Bool) (r : Row) → AreLive us live → r.key ≡ length live → r.key < 2 ^ 63 → MayFollow a us (Insert r ∷ [])
may-come a us live r is key fits = ((subst (λ n. IsBelow n (given_by us)) (sym key) is.came, fits, refl), tt)

-- a live one may go
pub may-go : (a : ℕ) (us : List Update) (key : ℕ) → has_key key (rows_of us) ≡ true → MayFollow a us (Remove key ∷ [])
may-go a us key has = (has, tt)

pushed : (live : List Bool) (key next : ℕ) (b : Bool) → next ≡ length live → b ≡ get_or live key false → (b || (key == next)) ≡ get_or (live ++ true ∷ []) key false
pushed live key next b is at = grind (arith, nat_tests, common_steps, is, at, get_or_append_left live (true ∷ []) false key, get_or_push live true false key, past-end key (live ++ true ∷ []) false, past-end key live false, length-append live (true ∷ []))

-- a row that came lives
pub live-came : (us vs : List Update) (live now : List Bool) (r : Row) → AreLive us live → r.key ≡ length live → vs ≡ us ++ Insert r ∷ [] → now ≡ live ++ true ∷ [] → AreLive vs now
live-came us vs live now r is key more now-is = record {
  came = came;
  beside = λ k. ap (has_key k) (ap rows_of more ∙ rows-more us (Insert r)) ∙ has-last k (rows_of us) r ∙ pushed live k r.key (has_key k (rows_of us)) key (is.beside k) ∙ sym (ap (λ l. get_or l k false) now-is);
}
  where
    long : length now ≡ length live + 1
    long = ap length now-is ∙ length-append live (true ∷ [])

    given : given_by vs ≡ given_by us ++ r ∷ []
    given = ap given_by more ∙ given-more us (Insert r)

    came : IsBelow (length now) (given_by vs)
    came =
        subst (IsBelow (length now)) (sym given)
        (All-append (λ (c : Row). c.key < length now) (given_by us) (r ∷ []) (λ k d lt. let p = is.came k d lt in omega (arith, p, long)) (all-one (λ (c : Row). c.key < length now) r (omega (arith, key, long))))

-- a live row's key is below how many stand here
pub within : (us : List Update) (live : List Bool) (key : ℕ) → AreLive us live → has_key key (rows_of us) ≡ true → key < length live
within us live key is has = by (nat_lt key (length live)) refl
  where
    at : get_or live key false ≡ true
    at = sym (is.beside key) ∙ has

    by : (b : Bool) → nat_lt key (length live) ≡ b → key < length live
    by b test = grind (arith, nat_tests, test, at, past-end key live false)

and-not : (b : Bool) → (b && not false) ≡ b
and-not true = refl
and-not false = refl

and-no : (b : Bool) → (b && not true) ≡ false
and-no true = refl
and-no false = refl

unset : (live : List Bool) (k key : ℕ) (b : Bool) → key < length live → b ≡ get_or live k false → (b && not (key == k)) ≡ get_or (set live key false) k false
unset live k key b lt at = by (key == k) refl
  where
    by : (t : Bool) → (key == k) ≡ t → (b && not t) ≡ get_or (set live key false) k false
    by true same = and-no b ∙ sym (get_or-set_at live key k false false (sym (eqb-true key k same)) lt)
    by false other = and-not b ∙ at ∙ sym (get_or-set_other live key k false false (λ e. absurd (true≢false (sym (eq-eqb key k (sym e)) ∙ other))))

-- a row that went does not
pub live-went : (us vs : List Update) (live now : List Bool) (key : ℕ) → AreLive us live → has_key key (rows_of us) ≡ true → vs ≡ us ++ Remove key ∷ [] → now ≡ set live key false → AreLive vs now
live-went us vs live now key is has more now-is = record {
  came = subst (IsBelow (length now)) (sym (ap given_by more ∙ given-more us (Remove key))) (subst (λ n. IsBelow n (given_by us)) (sym (ap length now-is ∙ length-set live key false)) is.came);
  beside = λ k. ap (has_key k) (ap rows_of more ∙ rows-more us (Remove key)) ∙ has-without k key (rows_of us) ∙ unset live k key (has_key k (rows_of us)) (within us live key is has) (is.beside k) ∙ sym (ap (λ l. get_or l k false) now-is);
}

-- ---- whether cuts rise
pub one-more : (last : Option ℤ) (cuts : List ℤ) (k : ℕ) (d : ℤ) → k < length cuts → ((v : ℤ) → last ≡ Some v → v <ℤ get_or cuts k d) → RiseAbove (Some (get_or cuts k d)) (drop (k + 1) cuts) → RiseAbove last (drop k cuts)
one-more last cuts k d lt above h = subst (RiseAbove last) (sym (drop_more cuts k d lt)) (by last above)
  where
    by : (o : Option ℤ) → ((v : ℤ) → o ≡ Some v → v <ℤ get_or cuts k d) → RiseAbove o (get_or cuts k d ∷ drop (k + 1) cuts)
    by None above = h
    by (Some v) above = (above v refl, h)

-- ---- a box more
pub supplied-same : (g h : HeadState) → IsSupplied g h → h.updates ≡ g.updates
supplied-same g h is = ap (λ (x : HeadState). x.updates) (is.supplied (opened_area 0 [] (None, None)))
