-- Lemmas on maps on their way to the tape's end, and on lists of boxes.
use Rattle.std.proofs.Common.{◌≡◌, ◌≢◌, ℕ, zero, suc, ◌+◌, ◌<◌, ◌≤◌, false, List, [], ◌∷◌, length, get_or, set, map, refl, ap, sym, ◌∙◌, arith, subst, All, Contains, Some, Result, Ok, Err, MatchResult}
use Rattle.std.specs.List.{slice_get}
use Rattle.std.proofs.lemmas.List.{length-map, get_or-map, map-set}
use Rattle.std.proofs.lemmas.List.Elements.{All-set, Contains-get_or}
use Rattle.std.proofs.lemmas.Option.{slice_get_within, get_or_from_slice_get}
use Rattle.std.proofs.Math.ListN.{length-set}
use Rattle.sw_table.specs.declared.row.Row.{Row}
use Rattle.sw_query.specs.declared.refusal.Refusal.{Refusal}
use Rattle.sw_query.specs.declared.refusal.Refusal.TheVariants.{NoMemory}
use Rattle.sw_kernel.specs.Replay.{Step}
use Rattle.sw_kernel.specs.Tapes.{IsTape, peak_from}
use Rattle.sw_map.specs.declared.tail.Tail.{Tail}
use Rattle.sw_map.specs.Held.{Held, after, pairs_in, MayReplay, KeysFit}
use Rattle.sw_map.specs.Lawful.{IsAligned, IsLawful}
use Rattle.sw_map.proofs.Replays.{aligned-more, after-room, may-replay, aligned-lawful, lawful-aligned}
use Rattle.sw_set.specs.Aligned.{HasRoomWhereNeeded, IsAtEnd, IsSameMap, IsStalled, AreSameMaps}

-- a map that started as m0 and has replayed the first i entries
pub record IsOnTheWay (tape : List (Step Row)) (i : ℕ) (m0 m : Held) : Type 0 where
  pub at : m.cursor ≡ i
  pub same : IsSameMap m0 m
  pub aligned : IsAligned m0.head tape m

-- an aligned map starts on its way at its own cursor
pub way-start : (tape : List (Step Row)) (m : Held) → IsAligned m.head tape m → IsOnTheWay tape m.cursor m m
way-start tape m al = record { at = refl; same = record { blank = refl; tail = refl; cells = refl }; aligned = al }

at-cursor : (tape : List (Step Row)) (i : ℕ) (m0 m : Held) (e : Step Row) → slice_get tape i ≡ Some e → IsOnTheWay tape i m0 m → slice_get tape m.cursor ≡ Some e
at-cursor tape i m0 m e is w = ap (slice_get tape) w.at ∙ is

-- a map that replays the entry at the place to which it has come is one entry further on its way
pub way-more : (tape : List (Step Row)) (i : ℕ) (m0 m m' : Held) (e : Step Row) → slice_get tape i ≡ Some e → m' ≡ after e m → IsOnTheWay tape i m0 m → IsOnTheWay tape (i + 1) m0 m'
way-more tape i m0 m m' e is now w =
    subst (λ (v : Held). IsOnTheWay tape (i + 1) m0 v) (sym now) (record {
      at = ap (λ k. k + 1) w.at;
      same = record { blank = w.same.blank; tail = w.same.tail; cells = w.same.cells };
      aligned = aligned-more m0.head tape m e (at-cursor tape i m0 m e is w) w.aligned;
    })

-- what a step asks for
pub step-next : (tape : List (Step Row)) (i : ℕ) (m0 m : Held) (e : Step Row) → IsTape tape → slice_get tape i ≡ Some e → IsOnTheWay tape i m0 m → MayReplay m e
step-next tape i m0 m e t is w = may-replay m0.head tape m e t w.aligned (at-cursor tape i m0 m e is w)

-- a map that started with cells for the tape's peak has room for the pairs after its next entry
pub step-room : (tape : List (Step Row)) (i : ℕ) (m0 m : Held) (e : Step Row) → IsTape tape → slice_get tape i ≡ Some e → peak_from 0 tape ≤ m0.cells → IsOnTheWay tape i m0 m → pairs_in (after e m) ≤ m.cells
step-room tape i m0 m e t is room w =
    let le = after-room m0.head tape m e t w.aligned (at-cursor tape i m0 m e is w) in
    omega (arith, le, room, w.same.cells)

-- if the keys of all entries of a tape fit, so do those of the entry at a place
pub step-keys : (tape : List (Step Row)) (i : ℕ) (e : Step Row) → All (λ (v : Step Row). KeysFit v) tape → slice_get tape i ≡ Some e → KeysFit e
step-keys tape i e all is = subst (λ (v : Step Row). KeysFit v) (get_or_from_slice_get tape i e e is) (all i e (slice_get_within tape i e is))

-- a step that was refused
pub stalled_at : {M : Type 0} (stalls : M → Step Row → Type 0) (tape : List (Step Row)) (i : ℕ) (e : Step Row) (m : M) → slice_get tape i ≡ Some e → stalls m e → IsStalled stalls tape
stalled_at stalls tape i e m is h = (m, e, subst (Contains tape) (get_or_from_slice_get tape i e e is) (Contains-get_or tape i e (slice_get_within tape i e is)), h)

-- what `align_map` asks of a lawful map
pub own-aligned : (a : ℕ) (tape : List (Step Row)) (m : Held) → IsLawful a tape m → m.is_blank ≡ false → IsAligned m.head tape m
own-aligned a tape m w h = let al = aligned-lawful a tape m w h in subst (λ (v : ℕ). IsAligned v tape m) (sym al.same_head) al

-- and what it gives back
pub lawful-after : (a : ℕ) (tape : List (Step Row)) (m n : Held) → IsLawful a tape m → m.is_blank ≡ false → IsAligned m.head tape n → IsLawful a tape n
lawful-after a tape m n w h al = lawful-aligned a tape n (subst (λ (v : ℕ). IsAligned v tape n) (aligned-lawful a tape m w h).same_head al)

-- a map with one of the tails has cells for the tape's peak, if it has room where it is needed
pub room-own : (tails : List Tail) (tape : List (Step Row)) (m : Held) → m.is_blank ≡ false → Contains tails m.tail → HasRoomWhereNeeded tails tape m → peak_from 0 tape ≤ m.cells
unfolding HasRoomWhereNeeded
room-own tails tape m h needed room = room h needed

-- a map that has replayed the whole tape stands at its end, whatever the tails
pub at-end : (tails : List Tail) (tape : List (Step Row)) (m : Held) → m.cursor ≡ length tape → IsAtEnd tails tape m
unfolding IsAtEnd
at-end tails tape m e = λ h n. e

-- a map stands at the tape's end if it has replayed the whole tape where it is needed
pub at-end-unneeded : (tails : List Tail) (tape : List (Step Row)) (m : Held) → (m.is_blank ≡ false → Contains tails m.tail → m.cursor ≡ length tape) → IsAtEnd tails tape m
unfolding IsAtEnd
at-end-unneeded tails tape m e = e

-- where memory was not refused and the map has replayed the whole tape, it stands at the tape's end
pub ends-at : {U : Type 0} (r : Result U Refusal) (tails : List Tail) (tape : List (Step Row)) (m : Held) → MatchResult r (λ _. m.cursor ≡ length tape) (λ e. e ≡ NoMemory) → MatchResult r (λ _. IsAtEnd tails tape m) (λ e. e ≡ NoMemory)
ends-at (Ok u) tails tape m e = at-end tails tape m e
ends-at (Err x) tails tape m e = e

-- the first i boxes stand at the tape's end where they are needed
pub record IsPartlyAligned (a : ℕ) (tails : List Tail) (tape : List (Step Row)) (i : ℕ) (ms ns : List Held) : Type 0 where
  pub lawful : All (IsLawful a tape) ns
  pub same : AreSameMaps ms ns
  pub ends : (k : ℕ) (d : Held) → k < i → k < length ns → IsAtEnd tails tape (get_or ns k d)

-- the item at a place within a list is the same whatever is read where there is none
pub get_or_any : {X : Type 0} (xs : List X) (k : ℕ) (d e : X) → k < length xs → get_or xs k d ≡ get_or xs k e
get_or_any [] k d e lt = let no : k < 0 = lt in absurd (omega arith)
get_or_any (x ∷ xs) zero d e lt = refl
get_or_any (x ∷ xs) (suc k) d e lt = get_or_any xs k d e (omega arith)

-- boxes hold the same maps as themselves
pub same-refl : (ms : List Held) → AreSameMaps ms ms
same-refl ms = record { many = refl; each = λ k d e lt. let same = get_or_any ms k d e lt in subst (λ (v : Held). IsSameMap (get_or ms k d) v) same (record { blank = refl; tail = refl; cells = refl }) }

-- what holds of each element with its place, after one is replaced
pub set-each : {X : Type 0} (P : ℕ → X → Type 0) (xs : List X) (i : ℕ) (y : X) → P i y → ((k : ℕ) (d : X) → k ≢ i → k < length xs → P k (get_or xs k d)) → (k : ℕ) (d : X) → k < length (set xs i y) → P k (get_or (set xs i y) k d)
set-each P [] i y py h k d lt = let no : k < 0 = lt in h k d (omega arith) lt
set-each P (x ∷ xs) zero y py h zero d lt = py
set-each P (x ∷ xs) zero y py h (suc k) d lt = h (suc k) d (omega arith) lt
set-each P (x ∷ xs) (suc i) y py h zero d lt = h zero d (omega arith) (omega arith)
set-each P (x ∷ xs) (suc i) y py h (suc k) d lt = set-each (λ j v. P (suc j) v) xs i y py (λ j e n l. h (suc j) e (omega arith) (omega arith)) k d (omega arith)

-- being the same map, at perhaps another cursor, is transitive
pub same-trans : (l m n : Held) → IsSameMap l m → IsSameMap m n → IsSameMap l n
same-trans l m n p q = record { blank = q.blank ∙ p.blank; tail = q.tail ∙ p.tail; cells = q.cells ∙ p.cells }

-- boxes hold the same maps after one is set to its own map, at perhaps another cursor
pub same-set : (ms ns : List Held) (i : ℕ) (n : Held) → AreSameMaps ms ns → i < length ns → ((d : Held) → IsSameMap (get_or ns i d) n) → AreSameMaps ms (set ns i n)
same-set ms ns i n s lt one =
    let many : length (set ns i n) ≡ length ms = length-set ns i n ∙ s.many in
    record {
      many = many;
      each = λ k d e lt'. set-each (λ (j : ℕ) (v : Held). IsSameMap (get_or ms j d) v) ns i n (same-trans _ _ _ (s.each i d d (omega arith)) (one d)) (λ j f n l. s.each j d f (omega arith)) k e (omega arith);
    }

-- one box more is aligned once the next one is set to its own map at the tape's end
pub partly-more : (a : ℕ) (tails : List Tail) (tape : List (Step Row)) (i : ℕ) (ms ns : List Held) (n : Held) → i < length ns → IsPartlyAligned a tails tape i ms ns → IsLawful a tape n → ((d : Held) → IsSameMap (get_or ns i d) n) → IsAtEnd tails tape n → IsPartlyAligned a tails tape (i + 1) ms (set ns i n)
partly-more a tails tape i ms ns n lt p law one end = record {
  lawful = All-set (IsLawful a tape) ns i n law p.lawful;
  same = same-set ms ns i n p.same lt one;
  ends = λ k d l1 l2. set-each (λ (j : ℕ) (v : Held). j < i + 1 → IsAtEnd tails tape v) ns i n (λ _. end) (λ j e n l q. p.ends j e (omega arith) l) k d l2 l1;
}

-- the same over boxes of which a function says what they hold
pub boxes-more : {X : Type 0} (h : X → Held) (a : ℕ) (tails : List Tail) (tape : List (Step Row)) (i : ℕ) (ms : List Held) (xs : List X) (x y : X) → i < length xs → IsPartlyAligned a tails tape i ms (map h xs) → IsLawful a tape (h y) → IsSameMap (h (get_or xs i x)) (h y) → IsAtEnd tails tape (h y) → IsPartlyAligned a tails tape (i + 1) ms (map h (set xs i y))
boxes-more h a tails tape i ms xs x y lt p law same end =
    let many = length-map xs h in
    subst (λ (v : List Held). IsPartlyAligned a tails tape (i + 1) ms v) (sym (map-set h xs i y)) (partly-more a tails tape i ms (map h xs) (h y) (omega arith) p law (λ d. subst (λ (v : Held). IsSameMap v (h y)) (sym (get_or-map h xs i x d lt)) same) end)

-- and where the map is lawful and not yet at the end
pub boxes-kept : {X : Type 0} (h : X → Held) (a : ℕ) (tape : List (Step Row)) (i : ℕ) (ms : List Held) (xs : List X) (x y : X) → i < length xs → All (IsLawful a tape) (map h xs) → AreSameMaps ms (map h xs) → IsLawful a tape (h y) → IsSameMap (h (get_or xs i x)) (h y) → All (IsLawful a tape) (map h (set xs i y)) × AreSameMaps ms (map h (set xs i y))
boxes-kept h a tape i ms xs x y lt laws s law same =
    let many = length-map xs h in
    subst (λ (v : List Held). All (IsLawful a tape) v × AreSameMaps ms v) (sym (map-set h xs i y)) (All-set (IsLawful a tape) (map h xs) i (h y) law laws, same-set ms (map h xs) i (h y) s (omega arith) (λ d. subst (λ (v : Held). IsSameMap v (h y)) (sym (get_or-map h xs i x d lt)) same))

-- where the maps of all boxes are lawful, so is that of the box at a place
pub lawful-at : {X : Type 0} (h : X → Held) (a : ℕ) (tape : List (Step Row)) (xs : List X) (i : ℕ) (x : X) → i < length xs → All (IsLawful a tape) (map h xs) → IsLawful a tape (h (get_or xs i x))
lawful-at h a tape xs i x lt all = let many = length-map xs h in subst (IsLawful a tape) (get_or-map h xs i x (h x) lt) (all i (h x) (omega arith))

-- a map has room where it is needed if the same map, at perhaps another cursor, has
pub room-same : (tails : List Tail) (tape : List (Step Row)) (m n : Held) → IsSameMap m n → HasRoomWhereNeeded tails tape m → HasRoomWhereNeeded tails tape n
unfolding HasRoomWhereNeeded
room-same tails tape m n s room = λ b t. subst (λ (v : ℕ). peak_from 0 tape ≤ v) (sym s.cells) (room (sym s.blank ∙ b) (subst (Contains tails) s.tail t))

-- boxes that hold the same maps as maps with room where they are needed have it at each place
pub room-at : {X : Type 0} (h : X → Held) (tails : List Tail) (tape : List (Step Row)) (ms : List Held) (xs : List X) (i : ℕ) (x : X) → i < length xs → AreSameMaps ms (map h xs) → All (HasRoomWhereNeeded tails tape) ms → HasRoomWhereNeeded tails tape (h (get_or xs i x))
room-at h tails tape ms xs i x lt s all =
    let many = length-map xs h in let many' = s.many in
    subst (HasRoomWhereNeeded tails tape) (get_or-map h xs i x (h x) lt) (room-same tails tape _ _ (s.each i (h x) (h x) (omega arith)) (all i (h x) (omega arith)))

-- what holds of a place among boxes holds of it among what they hold
pub held-at : {X : Type 0} (h : X → Held) (P : Held → Type 0) (xs : List X) (i : ℕ) → i < length xs → ((d : X) → P (h (get_or xs i d))) → (e : Held) → P (get_or (map h xs) i e)
held-at h P [] i lt p e = let no : i < 0 = lt in absurd (omega arith)
held-at h P (x ∷ xs) i lt p e = subst P (sym (get_or-map h (x ∷ xs) i x e lt)) (p x)

-- what holds of what each box holds holds of all in the list of what they hold
pub held-all : {X : Type 0} (h : X → Held) (P : Held → Type 0) (xs : List X) → All (λ m. P (h m)) xs → All P (map h xs)
held-all h P xs all k d lt = let many = length-map xs h in held-at h P xs k (omega arith) (λ e. all k e (omega arith)) d

-- what holds of what boxes hold holds of the boxes
pub all-held : {X : Type 0} (h : X → Held) (P : Held → Type 0) (xs : List X) → All P (map h xs) → All (λ m. P (h m)) xs
all-held h P xs all k d lt = let many = length-map xs h in subst P (get_or-map h xs k d (h d) lt) (all k (h d) (omega arith))

-- the box that was set at a place
pub get_or-here : {X : Type 0} (h : X → Held) (xs : List X) (i : ℕ) (y : X) (d : Held) → i < length xs → get_or (map h (set xs i y)) i d ≡ h y
get_or-here h [] i y d lt = let no : i < 0 = lt in absurd (omega arith)
get_or-here h (x ∷ xs) zero y d lt = refl
get_or-here h (x ∷ xs) (suc i) y d lt = get_or-here h xs i y d (omega (arith, lt))
