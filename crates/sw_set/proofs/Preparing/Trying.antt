-- Lemmas on making the maps that are needed.
use Rattle.std.proofs.Common.{◌≡◌, ◌≢◌, ℕ, zero, suc, ◌+◌, ◌<◌, ◌≤◌, Bool, true, false, List, [], ◌∷◌, length, get_or, set, map, refl, ap, sym, ◌∙◌, arith, subst, All, Contains, true≢false, MatchResult, eqb, eqb-true, eq-eqb, Result, Ok, Err}
use Rattle.std.proofs.lemmas.List.{length-map, get_or-map}
use Rattle.std.proofs.Math.ListN.{length-set}
use Rattle.std.proofs.lemmas.List.Elements.{Contains-get_or}
use Rattle.sw_query.specs.declared.refusal.Refusal.{Refusal}
use Rattle.sw_query.specs.declared.refusal.Refusal.TheVariants as refusal
use Rattle.sw_map.specs.declared.tail.Tail.{Tail}
use Rattle.sw_map.specs.Held.{Held, blank, begun}
use Rattle.sw_map.specs.Refusals.{IsBeginRefusal}
use Rattle.sw_set.specs.Shelf.{AreaState, AreApart}
use Rattle.sw_set.specs.Prepared.{IsPrepareRefusal}
use Rattle.sw_set.specs.Boxed.{IsHeld, IsMapOf, IsFreshBut, IsSameButBoxes, AreNeededKept}
use Rattle.sw_set.proofs.Areas.Boxes.{set-each, get_or_any}

-- an injection of the places of one list into those of another
abbrev drop_one : {X : Type 0} → List X → ℕ → List X
drop_one [] i = []
drop_one (x ∷ xs) zero = xs
drop_one (x ∷ xs) (suc i) = x ∷ drop_one xs i

drop_one-length : {X : Type 0} (xs : List X) (i : ℕ) → i < length xs → length (drop_one xs i) + 1 ≡ length xs
drop_one-length [] i lt = let no : i < 0 = lt in absurd (omega arith)
drop_one-length (x ∷ xs) zero lt = omega arith
drop_one-length (x ∷ xs) (suc i) lt = let r = drop_one-length xs i (omega arith) in omega arith

Contains-skip : {X : Type 0} (x : X) (xs : List X) (y : X) → Contains xs y → Contains (x ∷ xs) y
Contains-skip x xs y c = let lt = c.1 in (suc c.0, omega arith, c.2)

drop_one-other : {X : Type 0} (xs : List X) (i : ℕ) (x y : X) → i < length xs → get_or xs i x ≡ x → x ≢ y → Contains xs y → Contains (drop_one xs i) y
drop_one-other [] i x y lt is ne c = let no : i < 0 = lt in absurd (omega arith)
drop_one-other (z ∷ zs) zero x y lt is ne (zero, l, e) = absurd (ne (sym is ∙ e))
drop_one-other (z ∷ zs) zero x y lt is ne (suc k, l, e) = (k, omega arith, e)
drop_one-other (z ∷ zs) (suc i) x y lt is ne (zero, l, e) = (zero, omega arith, e)
drop_one-other (z ∷ zs) (suc i) x y lt is ne (suc k, l, e) = Contains-skip z (drop_one zs i) y (drop_one-other zs i x y (omega arith) is ne (k, omega arith, e))

-- a list whose items differ and are all contained in another list is no longer than that
pub pigeons : {X : Type 0} (xs ys : List X) → ((i j : ℕ) (d e : X) → i < length xs → j < length xs → i ≢ j → get_or xs i d ≢ get_or xs j e) → ((i : ℕ) (d : X) → i < length xs → Contains ys (get_or xs i d)) → length xs ≤ length ys
pigeons [] ys apart into = omega arith
pigeons (x ∷ xs) ys apart into =
    let c = into 0 x (omega arith) in
    let l = drop_one-length ys c.0 c.1 in
    let rest = pigeons xs (drop_one ys c.0) (λ i j d e li lj ne. apart (suc i) (suc j) d e (omega arith) (omega arith) (λ q. ne (omega (arith, q)))) (λ i d li. drop_one-other ys c.0 x (get_or xs i d) c.1 c.2 (apart 0 (suc i) x d (omega arith) (omega arith) (λ q. absurd (omega (arith, q)))) (into (suc i) d (omega arith))) in
    omega arith

-- a full shelf of needed maps that differ, one of the needed tails missing, has fewer boxes than are needed
pub no-blank : (ms : List Held) (tails : List Tail) (t : Tail) → AreApart ms → Contains tails t → All (λ m. m.is_blank ≡ false → m.tail ≢ t) ms → All (λ m. (m.is_blank ≡ false) × Contains tails m.tail) ms → length ms < length tails
unfolding AreApart
no-blank ms tails t apart needed lacks full =
    let many = length-map ms (λ (m : Held). m.tail) in
    let at : (i : ℕ) (d : Tail) → i < length ms → get_or (map (λ (m : Held). m.tail) ms) i d ≡ (get_or ms i blank).tail = λ i d lt. get_or-map (λ (m : Held). m.tail) ms i blank d lt in
    let some = pigeons (t ∷ map (λ (m : Held). m.tail) ms) tails (apart-tails ms t apart (λ i lt. (full i blank lt).0) lacks) (into-tails ms tails t needed (λ i lt. (full i blank lt).1)) in
    omega arith
  where
    apart-tails : (ms : List Held) (t : Tail) → ((i j : ℕ) (d e : Held) → i < length ms → j < length ms → i ≢ j → (get_or ms i d).is_blank ≡ false → (get_or ms j e).is_blank ≡ false → (get_or ms i d).tail ≢ (get_or ms j e).tail) → ((i : ℕ) → i < length ms → (get_or ms i blank).is_blank ≡ false) → All (λ m. m.is_blank ≡ false → m.tail ≢ t) ms → (i j : ℕ) (d e : Tail) → i < length (t ∷ map (λ (m : Held). m.tail) ms) → j < length (t ∷ map (λ (m : Held). m.tail) ms) → i ≢ j → get_or (t ∷ map (λ (m : Held). m.tail) ms) i d ≢ get_or (t ∷ map (λ (m : Held). m.tail) ms) j e
    apart-tails ms t apart begun lacks zero zero d e li lj ne = absurd (ne refl)
    apart-tails ms t apart begun lacks zero (suc j) d e li lj ne = let many = length-map ms (λ (m : Held). m.tail) in λ q. lacks j blank (omega arith) (begun j (omega arith)) (sym (q ∙ get_or-map (λ (m : Held). m.tail) ms j blank e (omega arith)))
    apart-tails ms t apart begun lacks (suc i) zero d e li lj ne = let many = length-map ms (λ (m : Held). m.tail) in λ q. lacks i blank (omega arith) (begun i (omega arith)) (sym (get_or-map (λ (m : Held). m.tail) ms i blank d (omega arith)) ∙ q)
    apart-tails ms t apart begun lacks (suc i) (suc j) d e li lj ne = let many = length-map ms (λ (m : Held). m.tail) in λ q. apart i j blank blank (omega arith) (omega arith) (λ s. ne (ap suc s)) (begun i (omega arith)) (begun j (omega arith)) (sym (get_or-map (λ (m : Held). m.tail) ms i blank d (omega arith)) ∙ q ∙ get_or-map (λ (m : Held). m.tail) ms j blank e (omega arith))

    into-tails : (ms : List Held) (tails : List Tail) (t : Tail) → Contains tails t → ((i : ℕ) → i < length ms → Contains tails (get_or ms i blank).tail) → (i : ℕ) (d : Tail) → i < length (t ∷ map (λ (m : Held). m.tail) ms) → Contains tails (get_or (t ∷ map (λ (m : Held). m.tail) ms) i d)
    into-tails ms tails t needed full zero d lt = needed
    into-tails ms tails t needed full (suc i) d lt = let many = length-map ms (λ (m : Held). m.tail) in subst (Contains tails) (sym (get_or-map (λ (m : Held). m.tail) ms i blank d (omega arith))) (full i (omega arith))

-- an area whose box at a place is being begun
pub record IsTrying (at : ℕ) (tails : List Tail) (t : Tail) (x0 x : AreaState) : Type 0 where
  pub same : IsSameButBoxes x0 x
  pub kept : AreNeededKept at tails x0.boxes x.boxes
  pub fresh : IsFreshBut at t x.boxes

-- an area with no other box for the tail is, as it is, one whose box at a place is being begun
pub trying-start : (at : ℕ) (tails : List Tail) (t : Tail) (x : AreaState) → IsFreshBut at t x.boxes → IsTrying at tails t x x
unfolding AreNeededKept
trying-start at tails t x fresh = record { same = record { attribute = refl; from = refl; below = refl; inbox = refl; spare = refl; tape = refl; many = refl }; kept = λ k d l n c. refl; fresh = fresh }

-- a box set at the place
pub trying-at : (at : ℕ) (tails : List Tail) (t : Tail) (x0 x y : AreaState) (n : Held) → y ≡ record x { boxes = set x.boxes at n } → IsTrying at tails t x0 x → IsTrying at tails t x0 y
unfolding AreNeededKept IsFreshBut
trying-at at tails t x0 x y n is w = subst (IsTrying at tails t x0) (sym is) (record {
  same = record { attribute = w.same.attribute; from = w.same.from; below = w.same.below; inbox = w.same.inbox; spare = w.same.spare; tape = w.same.tape; many = length-set x.boxes at n ∙ w.same.many };
  kept = λ k d l ne c. let many = w.same.many in let lx : k < length x.boxes = omega arith in let ls = length-set x.boxes at n in set-each (λ (j : ℕ) (v : Held). j ≢ at → v ≡ get_or x.boxes j d) x.boxes at n (λ no. absurd (no refl)) (λ j e nj lj _. get_or_any x.boxes j e d lj) k d (omega arith) ne ∙ w.kept k d l ne c;
  fresh = set-each (λ (j : ℕ) (v : Held). j ≢ at → v.is_blank ≡ false → v.tail ≢ t) x.boxes at n (λ no. absurd (no refl)) (λ j e nj lj ne b. w.fresh j e lj ne b);
})

-- an unneeded box cleared
pub trying-clear : (at : ℕ) (tails : List Tail) (t : Tail) (x0 x y : AreaState) (i : ℕ) → y ≡ record x { boxes = set x.boxes i blank } → i < length x.boxes → ((d : Held) → ¬ Contains tails (get_or x.boxes i d).tail) → IsTrying at tails t x0 x → IsTrying at tails t x0 y
unfolding AreNeededKept IsFreshBut
trying-clear at tails t x0 x y i is li un w = subst (IsTrying at tails t x0) (sym is) (record {
  same = record { attribute = w.same.attribute; from = w.same.from; below = w.same.below; inbox = w.same.inbox; spare = w.same.spare; tape = w.same.tape; many = length-set x.boxes i blank ∙ w.same.many };
  kept = λ k d l ne c. let many = w.same.many in let ls = length-set x.boxes i blank in
      set-each (λ (j : ℕ) (v : Held). Contains tails (get_or x.boxes j d).tail → v ≡ get_or x.boxes j d) x.boxes i blank (λ c'. absurd (un d c')) (λ j e nj lj _. get_or_any x.boxes j e d lj) k d (omega arith) (subst (λ (v : Held). Contains tails v.tail) (sym (w.kept k d l ne c)) c) ∙ w.kept k d l ne c;
  fresh = set-each (λ (j : ℕ) (v : Held). j ≢ at → v.is_blank ≡ false → v.tail ≢ t) x.boxes i blank (λ ne b. absurd (true≢false b)) (λ j e nj lj ne b. w.fresh j e lj ne b);
})

-- the item that was set at a place stands there
pub get_or-set_here : {X : Type 0} (xs : List X) (i : ℕ) (y d : X) → i < length xs → get_or (set xs i y) i d ≡ y
get_or-set_here [] i y d lt = let no : i < 0 = lt in absurd (omega arith)
get_or-set_here (x ∷ xs) zero y d lt = refl
get_or-set_here (x ∷ xs) (suc i) y d lt = get_or-set_here xs i y d (omega arith)

-- a map that was put at a place is held
pub held-set : (ms : List Held) (at : ℕ) (t : Tail) (n : ℕ) (m : Held) → at < length ms → IsMapOf t n m → IsHeld t n (set ms at m)
held-set ms at t n m lt own = let many = length-set ms at m in (at, m, omega arith, get_or-set_here ms at m m lt, own)

-- the map that was begun is held
pub held-begun : (a : ℕ) (ms : List Held) (at : ℕ) (t : Tail) (n : ℕ) → at < length ms → IsHeld t n (set ms at (begun a t n))
held-begun a ms at t n lt = held-set ms at t n (begun a t n) lt (record { begun = refl; tail = refl; cells = omega arith })

-- boxes that are kept once and once more
pub kept-trans : (at : ℕ) (tails : List Tail) (ms ns ls : List Held) → length ns ≡ length ms → AreNeededKept at tails ms ns → AreNeededKept at tails ns ls → AreNeededKept at tails ms ls
unfolding AreNeededKept
kept-trans at tails ms ns ls many p q = λ k d l ne c. let e = p k d l ne c in q k d (omega (arith, l, many)) ne (subst (λ (v : Held). Contains tails v.tail) (sym e) c) ∙ e

-- a needed map that was held is held after a box was taken for the tail
pub held-kept : (at : ℕ) (tails : List Tail) (t : Tail) (n : ℕ) (ms ns : List Held) → length ns ≡ length ms → AreNeededKept at tails ms ns → IsHeld t n ns → ((d : Held) → (get_or ms at d).is_blank ≡ false → Contains tails (get_or ms at d).tail → (get_or ms at d).tail ≡ t) → (u : Tail) → Contains tails u → IsHeld u n ms → IsHeld u n ns
unfolding AreNeededKept
held-kept at tails t n ms ns many kept now takeable u need (k, m, lt, is, mp) = by (eqb k at) refl
  where
    needs : Contains tails (get_or ms k m).tail
    needs = subst (Contains tails) (sym (ap (λ (x : Held). x.tail) is ∙ mp.tail)) need

    by : (b : Bool) → eqb k at ≡ b → IsHeld u n ns
    by true q =
        let here : get_or ms at m ≡ m = ap (λ j. get_or ms j m) (sym (eqb-true k at q)) ∙ is in
        let same : m.tail ≡ t = subst (λ (v : Held). v.is_blank ≡ false → Contains tails v.tail → v.tail ≡ t) here (takeable m) mp.begun (subst (λ (v : Held). Contains tails v.tail) is needs) in
        subst (λ (v : Tail). IsHeld v n ns) (sym same ∙ mp.tail) now
    by false q = (k, m, omega arith, kept k m lt (λ e. absurd (true≢false (sym (eq-eqb k at e) ∙ q))) needs ∙ is, mp)

-- a map of the tail that stands at a place is the only one
pub fresh-but-own : (ms : List Held) (at : ℕ) (t : Tail) → AreApart ms → at < length ms → ((d : Held) → ((get_or ms at d).is_blank ≡ false) × ((get_or ms at d).tail ≡ t)) → IsFreshBut at t ms
unfolding AreApart IsFreshBut
fresh-but-own ms at t apart lt own = λ k d l ne b e. apart k at d d l lt ne b (own d).0 (e ∙ sym (own d).1)

-- where no box has a map of the tail, no box but the one at a place has
pub fresh-but-none : (ms : List Held) (at : ℕ) (t : Tail) → All (λ m. m.is_blank ≡ false → m.tail ≢ t) ms → IsFreshBut at t ms
unfolding IsFreshBut
fresh-but-none ms at t lacks = λ k d l ne b. lacks k d l b

-- why a map could not begin is a reason why an area was not prepared
pub wider-refusal : (b k n : ℕ) (e : Refusal) → IsBeginRefusal n e → IsPrepareRefusal b k n e
wider-refusal b k n refusal.NoMemory r = r
wider-refusal b k n (refusal.BadTable x y) r = absurd r
wider-refusal b k n (refusal.BadLine x y) r = absurd r
wider-refusal b k n (refusal.UnknownAttribute x) r = absurd r
wider-refusal b k n (refusal.TooMany x) r = absurd r
wider-refusal b k n (refusal.NoBlank x y) r = absurd r
wider-refusal b k n (refusal.Short x y z) r = r
wider-refusal b k n (refusal.Contended x y) r = r
wider-refusal b k n (refusal.SharesOut x y) r = absurd r
wider-refusal b k n (refusal.HistoryFull x) r = absurd r
wider-refusal b k n (refusal.NotLegal x) r = absurd r
wider-refusal b k n refusal.Input r = absurd r
wider-refusal b k n refusal.Output r = absurd r
wider-refusal b k n (refusal.Ahead x y) r = absurd r

-- if a map began, what follows from it is told with it; else why an area was not prepared
pub either-ends : {U : Type 0} (r : Result U Refusal) (t : Tail) (b k n : ℕ) (ns : List Held) (K : Type 0) → MatchResult r (λ _. IsHeld t n ns) (λ e. IsBeginRefusal n e) → (IsHeld t n ns → K) → MatchResult r (λ _. IsHeld t n ns × K) (λ e. IsPrepareRefusal b k n e)
either-ends (Ok u) t b k n ns K h f = (h, f h)
either-ends (Err e) t b k n ns K h f = wider-refusal b k n e h

-- what one try answers
pub tried : {U : Type 0} (r : Result U Refusal) (at : ℕ) (tails : List Tail) (t : Tail) (n : ℕ) (x0 x y : AreaState) → at < length x0.boxes → IsTrying at tails t x0 x → MatchResult r (λ _. y ≡ record x { boxes = set x.boxes at (begun x.attribute t n) }) (λ e. (y ≡ record x { boxes = set x.boxes at blank }) × IsBeginRefusal n e) → IsTrying at tails t x0 y × MatchResult r (λ _. IsHeld t n y.boxes) (λ e. IsBeginRefusal n e)
tried (Ok u) at tails t n x0 x y lt w is = (trying-at at tails t x0 x y _ is w, let many = w.same.many in subst (λ (v : AreaState). IsHeld t n v.boxes) (sym is) (held-begun x.attribute x.boxes at t n (omega arith)))
tried (Err e) at tails t n x0 x y lt w is = (trying-at at tails t x0 x y _ is.0 w, is.1)

-- being the same area but for its boxes is transitive
pub same-area-trans : (x y z : AreaState) → IsSameButBoxes x y → IsSameButBoxes y z → IsSameButBoxes x z
same-area-trans x y z p q = record { attribute = q.attribute ∙ p.attribute; from = q.from ∙ p.from; below = q.below ∙ p.below; inbox = q.inbox ∙ p.inbox; spare = q.spare ∙ p.spare; tape = q.tape ∙ p.tape; many = q.many ∙ p.many }

-- when the next tail has its map and those that were there stay, each tail up to it has one
pub held-so-far : (tails : List Tail) (i n : ℕ) (t : Tail) (ms ns : List Held) → (i < length tails) × (get_or tails i t ≡ t) → ((k : ℕ) (d : Tail) → k < i → k < length tails → IsHeld (get_or tails k d) n ms) → IsHeld t n ns → ((u : Tail) → Contains tails u → IsHeld u n ms → IsHeld u n ns) → (k : ℕ) (d : Tail) → k < i + 1 → k < length tails → IsHeld (get_or tails k d) n ns
held-so-far tails i n t ms ns at before now kept k d lk l = by (eqb k i) refl
  where
    by : (b : Bool) → eqb k i ≡ b → IsHeld (get_or tails k d) n ns
    by true q = subst (λ (v : Tail). IsHeld v n ns) (sym (ap (λ j. get_or tails j d) (eqb-true k i q) ∙ get_or_any tails i d t at.0 ∙ at.1)) now
    by false q = kept _ (Contains-get_or tails k d l) (before k d (below (λ e. absurd (true≢false (sym (eq-eqb k i e) ∙ q)))) l)
      where
        below : k ≢ i → k < i
        below ne = omega (arith, lk, ne)

-- ---- each turn leaves one box more blank
abbrev pub one_if : Bool → ℕ
one_if true = 1
one_if false = 0

-- how many boxes are blank
abbrev pub blanks : List Held → ℕ
blanks [] = 0
blanks (m ∷ ms) = one_if m.is_blank + blanks ms

-- after some turns more boxes than these are blank
abbrev pub HasCleared : ℕ → List Held → Type 0
HasCleared turn ms = 0 < turn → turn < blanks ms

one-few : (b : Bool) → one_if b ≤ 1
one-few true = omega arith
one-few false = omega arith

blanks-few : (ms : List Held) → blanks ms ≤ length ms
blanks-few [] = omega arith
blanks-few (m ∷ ms) = let one = one-few m.is_blank in let rest = blanks-few ms in omega (arith, one, rest)

blanks-set : (ms : List Held) (i : ℕ) → i < length ms → (blanks ms ≤ blanks (set ms i blank)) × (0 < blanks (set ms i blank))
blanks-set [] i lt = let none : i < 0 = lt in absurd (omega arith)
blanks-set (m ∷ ms) zero lt = let one = one-few m.is_blank in (omega (arith, one), omega arith)
blanks-set (m ∷ ms) (suc i) lt = let rest = blanks-set ms i (omega (arith, lt)) in let more = rest.0 in let some = rest.1 in (omega (arith, more), omega (arith, some))

blanks-more : (ms : List Held) (i : ℕ) → i < length ms → ((d : Held) → (get_or ms i d).is_blank ≡ false) → blanks (set ms i blank) ≡ blanks ms + 1
blanks-more [] i lt begun = let none : i < 0 = lt in absurd (omega arith)
blanks-more (m ∷ ms) zero lt begun = let e : one_if m.is_blank ≡ 0 = ap one_if (begun m) in omega (arith, e)
blanks-more (m ∷ ms) (suc i) lt begun = let rest = blanks-more ms i (omega (arith, lt)) begun in omega (arith, rest)

cleared-upto : (turn a b : ℕ) → (0 < turn → turn < a) → a ≤ b → 0 < b → turn < b
cleared-upto zero a b h le some = some
cleared-upto (suc t) a b h le some = let l = h (omega arith) in omega (arith, l, le)

-- before the first turn nothing is asked of how many boxes are blank
pub cleared-none : (ms : List Held) → HasCleared 0 ms
cleared-none ms = λ some. let none : 0 < 0 = some in absurd (omega (arith, none))

-- where a box is set blank, and then one with a map, still more boxes are blank than there were turns
pub cleared-more : (at i turn : ℕ) (x y z : AreaState) → at < length x.boxes → y ≡ record x { boxes = set x.boxes at blank } → z ≡ record y { boxes = set y.boxes i blank } → i < length y.boxes → ((d : Held) → (get_or y.boxes i d).is_blank ≡ false) → HasCleared turn x.boxes → HasCleared (turn + 1) z.boxes
cleared-more at i turn x y z lt is1 is2 li begun h = λ _.
    let one = blanks-set x.boxes at lt in
    let y-are : blanks y.boxes ≡ blanks (set x.boxes at blank) = ap (λ (v : AreaState). blanks v.boxes) is1 in
    let z-are : blanks z.boxes ≡ blanks (set y.boxes i blank) = ap (λ (v : AreaState). blanks v.boxes) is2 in
    let more = blanks-more y.boxes i li begun in
    let upto = cleared-upto turn (blanks x.boxes) (blanks (set x.boxes at blank)) h one.0 one.1 in
    omega (arith, y-are, z-are, more, upto)

-- so there are fewer turns than boxes
pub cleared-all : {Y : Type 0} (turn : ℕ) (ms : List Held) → 0 < length ms → length ms ≤ turn → HasCleared turn ms → Y
cleared-all turn ms some many h =
    let turns : 0 < turn = omega (arith, some, many) in
    let l = h turns in
    let few = blanks-few ms in
    absurd (omega (arith, l, few, many))
