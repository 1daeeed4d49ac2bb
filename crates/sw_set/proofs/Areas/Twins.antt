-- Lemmas on two maps of one head that stand at one cursor, and on boxes that keep their maps.
use Rattle.std.proofs.Common.{◌≡◌, ℕ, ◌+◌, ◌<◌, ◌≤◌, List, ◌++◌, length, get_or, set, map, take, drop, ap, sym, ◌∙◌, arith, subst, All, Bool, true, false, true≢false, Some}
use Rattle.std.specs.List.{slice_get}
use Rattle.std.proofs.lemmas.List.{get_or-take, get_or-drop}
use Rattle.std.proofs.lemmas.List.Elements.{All-append, All-drop, All-set, All-take}
use Rattle.std.proofs.lemmas.Simd.{map-map}
use Rattle.std.proofs.lemmas.Option.{slice_get_within}
use Rattle.sw_table.specs.declared.row.Row.{Row}
use Rattle.sw_query.specs.Scan.{cell_of}
use Rattle.sw_kernel.specs.Arrangement.{Arrangement, last, piece}
use Rattle.sw_kernel.specs.Partition.{head_of}
use Rattle.sw_kernel.specs.Replay.{Step, shown}
use Rattle.sw_kernel.specs.Tapes.{IsTape, peak_from}
use Rattle.sw_tape.specs.declared.tape.TheConstants.{MAX_ENTRIES}
use Rattle.sw_map.specs.declared.tail.Tail.{Tail}
use Rattle.sw_map.specs.Held.{Held, after, pair_in}
use Rattle.sw_map.specs.Lawful.{IsAligned, IsLawful, rows_by}
use Rattle.sw_map.specs.Twins.{HaveSameHeads, MayStep}
use Rattle.sw_map.proofs.Replays.{aligned-lawful}
use Rattle.sw_set.specs.Aligned.{HasRoomWhereNeeded, HasSteppedIf, KeepMaps}
use Rattle.sw_set.specs.Sought.{IsAt, IsNeeded}
use Rattle.sw_set.proofs.Areas.Boxes.{IsOnTheWay, room-own, room-same, step-next, step-room, way-more}

-- an arrangement shown by one function and then by another is shown once by both
shown-twice : {A B C : Type 0} (g : B → C) (f : A → B) (x : Arrangement A) → shown g (shown f x) ≡ shown (λ y. g (f y)) x
shown-twice g f (last xs) = ap last (map-map g f xs)
shown-twice g f (piece xs b rest) =
    ap (λ ys. piece ys b (shown g (shown f rest))) (map-map g f xs)
    ∙ ap (λ r. piece (map (λ y. g (f y)) xs) b r) (shown-twice g f rest)

-- the heads of an aligned map are the cells of the rows that the entries before its cursor leave
heads-shown : (a : ℕ) (tape : List (Step Row)) (m : Held) → IsAligned a tape m → shown head_of m.pairs ≡ shown (cell_of a) (rows_by a (take m.cursor tape))
heads-shown a tape m al = ap (shown head_of) al.pairs_are ∙ shown-twice head_of (pair_in a m.tail) (rows_by a (take m.cursor tape))

-- two maps of one head at one cursor have the same heads in the same pieces
pub heads-same : (a : ℕ) (tape : List (Step Row)) (m n : Held) → IsAligned a tape m → IsAligned a tape n → n.cursor ≡ m.cursor → HaveSameHeads m.pairs n.pairs
heads-same a tape m n al bl level =
    heads-shown a tape m al
    ∙ ap (λ (k : ℕ). shown (cell_of a) (rows_by a (take k tape))) (sym level)
    ∙ sym (heads-shown a tape n bl)

-- a map that is on its way somewhere is aligned
way-aligned : (a : ℕ) (tape : List (Step Row)) (i : ℕ) (m0 m : Held) → m0.head ≡ a → IsOnTheWay tape i m0 m → IsAligned a tape m
way-aligned a tape i m0 m head w = subst (λ (k : ℕ). IsAligned k tape m) head w.aligned

-- two maps of one head that started as m0 and n0, and have replayed the first i entries
pub record AreOnTheWay (a : ℕ) (tape : List (Step Row)) (i : ℕ) (m0 n0 m n : Held) : Type 0 where
  pub head : m0.head ≡ a
  pub twin_head : n0.head ≡ a
  pub it : IsOnTheWay tape i m0 m
  pub twin : IsOnTheWay tape i n0 n

-- while they are on their way their heads are the same
pub heads-on-the-way : (a : ℕ) (tape : List (Step Row)) (i : ℕ) (m0 n0 m n : Held) → AreOnTheWay a tape i m0 n0 m n → HaveSameHeads m.pairs n.pairs
heads-on-the-way a tape i m0 n0 m n w =
    heads-same a tape m n (way-aligned a tape i m0 m w.head w.it) (way-aligned a tape i n0 n w.twin_head w.twin) (w.twin.at ∙ sym w.it.at)

-- a map on its way may step over the entry to which it has come
pub may-step : (tape : List (Step Row)) (i : ℕ) (m0 m : Held) (e : Step Row) → IsTape tape → length tape ≤ MAX_ENTRIES → slice_get tape i ≡ Some e → peak_from 0 tape ≤ m0.cells → IsOnTheWay tape i m0 m → MayStep e m
may-step tape i m0 m e t few is room w =
    let lt = slice_get_within tape i e is in
    let at = w.at in
    record {
      begun = w.aligned.begun;
      early = omega (arith, lt, few, at);
      next = step-next tape i m0 m e t is w;
      room = step-room tape i m0 m e t is room w;
    }

-- a map that took an entry was stepped over it
took : (b : Bool) (m n : Held) (e : Step Row) → b ≡ true → HasSteppedIf b e m n → n ≡ after e m
took true m n e is h = h
took false m n e is h = absurd (true≢false (sym is))

-- maps on their way that both took the entry to which they have come are one entry further
pub twins-more : (a : ℕ) (tape : List (Step Row)) (i : ℕ) (m0 n0 m n m' n' : Held) (e : Step Row) (b c : Bool) → slice_get tape i ≡ Some e → b ≡ true → c ≡ true → HasSteppedIf b e m m' → HasSteppedIf c e n n' → AreOnTheWay a tape i m0 n0 m n → AreOnTheWay a tape (i + 1) m0 n0 m' n'
twins-more a tape i m0 n0 m n m' n' e b c at is twin_is now twin_now w = record {
  head = w.head;
  twin_head = w.twin_head;
  it = way-more tape i m0 m m' e at (took b m m' e is now) w.it;
  twin = way-more tape i n0 n n' e at (took c n n' e twin_is twin_now) w.twin;
}

-- a map on its way that replays that entry, or is as it was, is aligned
pub either-way : (a : ℕ) (tape : List (Step Row)) (i : ℕ) (m0 m m' : Held) (e : Step Row) (b : Bool) → slice_get tape i ≡ Some e → m0.head ≡ a → HasSteppedIf b e m m' → IsOnTheWay tape i m0 m → IsAligned a tape m'
either-way a tape i m0 m m' e true at head now w = way-aligned a tape (i + 1) m0 m' head (way-more tape i m0 m m' e at now w)
either-way a tape i m0 m m' e false at head now w = way-aligned a tape i m0 m' head (subst (IsOnTheWay tape i m0) (sym now) w)

-- boxes that keep their maps have room where they are needed if they had it
pub keep-room : {X : Type 0} (h : X → Held) (tails : List Tail) (tape : List (Step Row)) (xs ys : List X) → length ys ≡ length xs → KeepMaps h xs ys → All (λ m. HasRoomWhereNeeded tails tape (h m)) xs → All (λ m. HasRoomWhereNeeded tails tape (h m)) ys
keep-room h tails tape xs ys many same room k d lt =
    room-same tails tape (h (get_or xs k d)) (h (get_or ys k d)) (same k d (omega (arith, lt, many))) (room k d (omega (arith, lt, many)))

-- a needed map among lawful ones is aligned
pub needed-aligned : {X : Type 0} (h : X → Held) (a : ℕ) (tape : List (Step Row)) (tails : List Tail) (xs : List X) (k : ℕ) (d : X) → All (λ m. IsLawful a tape (h m)) xs → IsAt (λ m. IsNeeded tails (h m)) xs k → IsAligned a tape (h (get_or xs k d))
needed-aligned h a tape tails xs k d laws at = aligned-lawful a tape (h (get_or xs k d)) (laws k d at.0) (at.1 d).0

-- and has room for the tape, if those that are needed have it
pub needed-room : {X : Type 0} (h : X → Held) (tape : List (Step Row)) (tails : List Tail) (xs : List X) (k : ℕ) (d : X) → All (λ m. HasRoomWhereNeeded tails tape (h m)) xs → IsAt (λ m. IsNeeded tails (h m)) xs k → peak_from 0 tape ≤ (h (get_or xs k d)).cells
needed-room h tape tails xs k d rooms at = room-own tails tape (h (get_or xs k d)) (at.1 d).0 (at.1 d).1 (rooms k d at.0)

-- what holds of an item holds of it in the front of a list that was split behind it
pub in-front : {X : Type 0} (P : X → Type 0) (xs front : List X) (mid at : ℕ) (d : X) → front ≡ take mid xs → at < mid → P (get_or xs at d) → P (get_or front at d)
in-front P xs front mid at d is lt p = subst P (sym (ap (λ v. get_or v at d) is ∙ get_or-take mid xs at d lt)) p

-- and what holds of the item where it was split holds of the first one behind
pub first-behind : {X : Type 0} (P : X → Type 0) (xs back : List X) (mid : ℕ) (d : X) → back ≡ drop mid xs → P (get_or xs mid d) → P (get_or back 0 d)
first-behind P xs back mid d is p =
    let z : mid + 0 ≡ mid = omega arith in
    subst P (sym (ap (λ v. get_or v 0 d) is ∙ get_or-drop mid xs 0 d ∙ ap (λ k. get_or xs k d) z)) p

-- what holds of all items of a list holds of all after one of each part was replaced by such a one
pub both-set : {X : Type 0} (P : X → Type 0) (xs front back : List X) (mid i j : ℕ) (x y : X) → front ≡ take mid xs → back ≡ drop mid xs → All P xs → P x → P y → All P (set front i x ++ set back j y)
both-set P xs front back mid i j x y f b all px py =
    All-append P (set front i x) (set back j y)
    (All-set P front i x px (subst (All P) (sym f) (All-take P mid xs all)))
    (All-set P back j y py (subst (All P) (sym b) (All-drop P mid xs all)))
