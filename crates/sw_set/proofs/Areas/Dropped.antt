-- Boxes that are dropped, and those that are left.
use Rattle.std.proofs.Common.{◌≡◌, ◌≢◌, ℕ, zero, suc, ℤ, ◌+◌, ◌<◌, ◌≤◌, Bool, true, false, List, [], ◌∷◌, ◌++◌, length, get_or, map, take, drop, refl, ap, sym, ◌∙◌, arith, subst, All, Contains, IsPermutation, MatchOption, Option, Some, None, nat_lt}
use Rattle.std.specs.List.{remove}
use Rattle.std.proofs.lemmas.List.{length-append, length-map, map-append}
use Rattle.std.proofs.lemmas.List.Edits.{get_or-remove_above, get_or-remove_below, length-remove}
use Rattle.std.proofs.lemmas.List.Elements.{All-contains, Contains-append_right, Contains-get_or}
use Rattle.std.proofs.lemmas.List.Sorted.{Contains-permutation, IsPermutation-more, IsPermutation-refl, IsPermutation-sym}
use Rattle.sw_table.specs.declared.row.Row.{Row}
use Rattle.sw_table.specs.declared.row.Update.{Update}
use Rattle.sw_kernel.specs.Replay.{Step}
use Rattle.sw_map.specs.Held.{Held, blank}
use Rattle.sw_map.specs.Lawful.{IsLawful}
use Rattle.sw_set.specs.Shelf.{AreaState, AreApart, HasLease, IsAreaLawful}
use Rattle.sw_set.specs.Boxed.{AreDropped, IsShed}
use Rattle.sw_set.proofs.Areas.Boxes.{get_or_any}
use Rattle.sw_set.proofs.Areas.Shelves.{area_of, area-with}

-- where an item that is left stood, and that it is another place for another item
pub record StoodAt {X : Type 0} (xs : List X) (i k : ℕ) : Type 0 where
  pub at : ℕ
  pub within : at < length xs
  pub is : (d : X) → get_or (remove xs i) k d ≡ get_or xs at d
  pub low : k < i → at ≡ k
  pub high : i ≤ k → at ≡ k + 1

stood : {X : Type 0} (xs : List X) (i k : ℕ) → i < length xs → k < length (remove xs i) → StoodAt xs i k
stood xs i k li lk = by (nat_lt k i) refl
  where
    by : (b : Bool) → nat_lt k i ≡ b → StoodAt xs i k
    by true e =
        let lt : k < i = grind (arith, e) in
        record { at = k; within = omega (arith, lt, li); is = λ d. get_or-remove_below xs i d k lt li; low = λ _. refl; high = λ ge. absurd (omega (arith, ge, lt)) }
    by false e =
        let ge : i ≤ k = grind (arith, e) in
        let n = length-remove xs i li in
        record { at = k + 1; within = omega (arith, lk, n); is = λ d. get_or-remove_above xs i d k ge li; low = λ lt. absurd (omega (arith, ge, lt)); high = λ _. refl }

apart-places : {X : Type 0} (xs : List X) (i j k : ℕ) (p : StoodAt xs i j) (q : StoodAt xs i k) → j ≢ k → p.at ≢ q.at
apart-places xs i j k p q ne same = by (nat_lt j i) (nat_lt k i) refl refl
  where
    by : (b c : Bool) → nat_lt j i ≡ b → nat_lt k i ≡ c → ⊥
    by true true e f = let l : j < i = grind (arith, e) in let m : k < i = grind (arith, f) in ne (sym (p.low l) ∙ same ∙ q.low m)
    by true false e f = let l : j < i = grind (arith, e) in let m : i ≤ k = grind (arith, f) in let x = p.low l in let y = q.high m in omega (arith, l, m, x, y, same)
    by false true e f = let l : i ≤ j = grind (arith, e) in let m : k < i = grind (arith, f) in let x = p.high l in let y = q.low m in omega (arith, l, m, x, y, same)
    by false false e f = let l : i ≤ j = grind (arith, e) in let m : i ≤ k = grind (arith, f) in let x = p.high l in let y = q.high m in ne (omega (arith, x, y, same))

-- if no two boxes have maps of the same tail, no two do after one box is removed
pub apart-removed : (ms : List Held) (i : ℕ) → i < length ms → AreApart ms → AreApart (remove ms i)
unfolding AreApart
apart-removed ms i lt apart = λ j k d e lj lk ne bj bk eq.
    let p = stood ms i j lt lj in
    let q = stood ms i k lt lk in
    apart p.at q.at d e p.within q.within (apart-places ms i j k p q ne) (ap (λ (m : Held). m.is_blank) (sym (p.is d)) ∙ bj) (ap (λ (m : Held). m.is_blank) (sym (q.is e)) ∙ bk) (ap (λ (m : Held). m.tail) (sym (p.is d)) ∙ eq ∙ ap (λ (m : Held). m.tail) (q.is e))

map-take : {A B : Type 0} (f : A → B) (i : ℕ) (xs : List A) → map f (take i xs) ≡ take i (map f xs)
map-take f zero xs = refl
map-take f (suc i) [] = refl
map-take f (suc i) (x ∷ xs) = ap (λ t. f x ∷ t) (map-take f i xs)

map-drop : {A B : Type 0} (f : A → B) (i : ℕ) (xs : List A) → map f (drop i xs) ≡ drop i (map f xs)
map-drop f zero xs = refl
map-drop f (suc i) [] = refl
map-drop f (suc i) (x ∷ xs) = map-drop f i xs

-- to remove an item and map the rest is to map all and remove the item at that place
pub map-removed : {A B : Type 0} (f : A → B) (xs : List A) (i : ℕ) → map f (remove xs i) ≡ remove (map f xs) i
map-removed f xs i =
    let t = map-take f i xs in let d = map-drop f (suc i) xs in let a = map-append f (take i xs) (drop (suc i) xs) in cc

-- what holds of all boxes holds of those that are left
pub all-left-of : (P : Held → Type 0) (ms went ns : List Held) → IsPermutation ms (went ++ ns) → All P ms → All P ns
all-left-of P ms went ns parted all k d lt =
    All-contains P ms (get_or ns k d) all (Contains-permutation (went ++ ns) ms (get_or ns k d) (IsPermutation-sym ms (went ++ ns) parted) (Contains-append_right went ns (get_or ns k d) (Contains-get_or ns k d lt)))

-- an area of which boxes were dropped
pub area-dropped : (most : ℕ) (a : ℕ) (f b : Option ℤ) (inb : List Update) (sp : ℕ) (tape : List (Step Row)) (ms ns : List Held) (gone : ℕ) → AreDropped most ms ns gone → IsAreaLawful (area_of a f b inb sp tape ms) → IsAreaLawful (area_of a f b inb sp tape ns)
area-dropped most a f b inb sp tape ms ns gone d w =
    area-with a f b inb sp tape ms ns (all-left-of (IsLawful a tape) ms d.went ns d.parted w.boxes) (all-left-of HasLease ms d.went ns d.parted w.leases) (d.apart w.apart) w

-- an area of which boxes were dropped, and nothing else changed, is the old one shed of them
pub shed-view : (most : ℕ) (s : AreaState) (a : ℕ) (f b : Option ℤ) (inb : List Update) (sp : ℕ) (tape : List (Step Row)) (ms ns : List Held) (gone : ℕ) → area_of a f b inb sp tape ms ≡ s → AreDropped most ms ns gone → IsShed most s (area_of a f b inb sp tape ns) gone
shed-view most s a f b inb sp tape ms ns gone is d = record {
  attribute = ap (λ (v : AreaState). v.attribute) is;
  from = ap (λ (v : AreaState). v.from) is;
  below = ap (λ (v : AreaState). v.below) is;
  inbox = ap (λ (v : AreaState). v.inbox) is;
  spare = ap (λ (v : AreaState). v.spare) is;
  tape = ap (λ (v : AreaState). v.tape) is;
  many = d.many ∙ ap (λ (v : AreaState). length v.boxes) is;
  few = d.few;
  went = d.went;
  all = d.all;
  parted = subst (λ (v : AreaState). IsPermutation v.boxes (d.went ++ ns)) is d.parted;
}

-- ---- one box after another
pub dropped-none : (most : ℕ) (ms : List Held) → AreDropped most ms ms 0
dropped-none most ms = record { many = omega arith; few = omega arith; went = []; all = refl; parted = IsPermutation-refl ms; apart = λ apart. apart }

-- one box more removed is one more dropped, while fewer are gone than may go
pub dropped-more : (most : ℕ) (ms ns os : List Held) (gone i : ℕ) → gone < most → i < length ns → os ≡ remove ns i → AreDropped most ms ns gone → AreDropped most ms os (gone + 1)
dropped-more most ms ns os gone i lt li is w = subst (λ (v : List Held). AreDropped most ms v (gone + 1)) (sym is) (record {
  many = let n = length-remove ns i li in let m = w.many in omega (arith, n, m);
  few = omega (arith, lt);
  went = w.went ++ get_or ns i blank ∷ [];
  all = let n = length-append w.went (get_or ns i blank ∷ []) in let m = w.all in omega (arith, n, m);
  parted = IsPermutation-more ms w.went ns i (get_or ns i blank) li (get_or_any ns i blank (get_or ns i blank) li) w.parted;
  apart = λ apart. apart-removed ns i li (w.apart apart);
})

-- ---- which box goes first
nothing-left : {X : Type 0} (h : X → Held) (xs : List X) → All (λ m. (h m).is_blank ≡ false) xs → All (λ m. (h m).is_blank ≡ false → Contains [] (h m).tail) xs → length xs ≡ 0
nothing-left h [] begun needed = refl
nothing-left h (x ∷ xs) begun needed = let c = needed 0 x (omega arith) (begun 0 x (omega arith)) in let none : c.0 < 0 = c.1 in absurd (omega (arith, none))

-- where all boxes have maps and no tail is needed, a look for one unneeded finds it, or there is no box
pub first-found : {X : Type 0} (h : X → Held) (r : Option ℕ) (ys : List X) (ms : List Held) → map h ys ≡ ms → All (λ m. (h m).is_blank ≡ false) ys → MatchOption r (All (λ m. (h m).is_blank ≡ false → Contains [] (h m).tail) ys) (λ i. (i < length ys) × ((d : X) → ((h (get_or ys i d)).is_blank ≡ false) × ¬ Contains [] (h (get_or ys i d)).tail)) → MatchOption r (length ms ≡ 0) (λ at. at < length ms)
first-found h None ys ms is begun w = sym (ap length is) ∙ length-map ys h ∙ nothing-left h ys begun w
first-found h (Some i) ys ms is begun w = let many = ap length is in let l = length-map ys h in let lt = w.0 in omega (arith, many, l, lt)
