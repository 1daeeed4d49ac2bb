-- One box of an area, whose map was to grow.
use Rattle.std.proofs.Common.{◌≡◌, ℕ, ◌<◌, ℤ, Bool, true, false, List, length, get_or, ap, sym, ◌∙◌, subst, arith, Option, Result, Ok, Err}
use Rattle.sw_table.specs.declared.row.Update.{Update}
use Rattle.sw_table.specs.declared.row.Row.{Row}
use Rattle.sw_query.specs.declared.refusal.Refusal.{Refusal}
use Rattle.sw_kernel.specs.Replay.{Step}
use Rattle.sw_map.specs.declared.tail.Tail.{Tail}
use Rattle.sw_map.specs.Held.{Held, blank, grown_if}
use Rattle.sw_map.specs.Lawful.{IsLawful}
use Rattle.sw_map.specs.Refusals.{HasGrownOr}
use Rattle.sw_map.proofs.Replays.{aligned-lawful, lawful-aligned}
use Rattle.sw_set.specs.Shelf.{AreaState, HasLease, IsAreaLawful}
use Rattle.sw_set.specs.Boxed.{HasGrownAt, IsFreshBut, IsHeld, IsSetAt}
use Rattle.sw_set.proofs.Areas.Boxes.{get_or_any}
use Rattle.sw_set.proofs.Areas.Shelves.{area_of, area-set, blank-not, lawful-of_blank, view-set}
use Rattle.sw_set.proofs.Preparing.Trying.{IsTrying, fresh-but-own, held-set, trying-at, trying-start}

grown-lawful : (r : Result Bool Refusal) (a : ℕ) (tape : List (Step Row)) (cells : ℕ) (m n : Held) → IsLawful a tape m → m.is_blank ≡ false → HasGrownOr r cells m n → IsLawful a tape n
grown-lawful (Ok true) a tape cells m n law b is =
    let al = aligned-lawful a tape m law b in
    subst (IsLawful a tape) (sym is) (lawful-aligned a tape (record m { cells = cells }) (record { begun = al.begun; same_head = al.same_head; within = al.within; pairs_are = al.pairs_are }))
grown-lawful (Ok false) a tape cells m n law b is = subst (IsLawful a tape) (sym is) law
grown-lawful (Err e) a tape cells m n law b is = lawful-of_blank a tape n is.0

grown-leased : (r : Result Bool Refusal) (cells : ℕ) (m n : Held) → m.cells < cells → HasLease m → HasGrownOr r cells m n → HasLease n
grown-leased (Ok true) cells m n less lease is b = subst (λ (v : ℕ). 0 < v) (sym (ap (λ (x : Held). x.cells) is)) (omega (arith, less))
grown-leased (Ok false) cells m n less lease is b = subst HasLease (sym is) lease b
grown-leased (Err e) cells m n less lease is b = blank-not b is.0

grown-fresh : (r : Result Bool Refusal) (at cells : ℕ) (m n : Held) (ms : List Held) → IsFreshBut at m.tail ms → HasGrownOr r cells m n → n.is_blank ≡ false → IsFreshBut at n.tail ms
grown-fresh (Ok true) at cells m n ms fresh is b = subst (λ (v : Tail). IsFreshBut at v ms) (sym (ap (λ (x : Held). x.tail) is)) fresh
grown-fresh (Ok false) at cells m n ms fresh is b = subst (λ (v : Tail). IsFreshBut at v ms) (sym (ap (λ (x : Held). x.tail) is)) fresh
grown-fresh (Err e) at cells m n ms fresh is b = blank-not b is.0

-- an area stays lawful when a map was to grow to more cells, whether it grew or not or was refused
pub grown-area : (r : Result Bool Refusal) (a : ℕ) (f b : Option ℤ) (inb : List Update) (sp : ℕ) (tape : List (Step Row)) (ms ns : List Held) (at cells : ℕ) → at < length ms → ((d : Held) → (get_or ms at d).is_blank ≡ false) → ((d : Held) → (get_or ms at d).cells < cells) → IsSetAt ms at (HasGrownOr r cells (get_or ms at blank)) ns → IsAreaLawful (area_of a f b inb sp tape ms) → IsAreaLawful (area_of a f b inb sp tape ns)
grown-area r a f b inb sp tape ms ns at cells lt begun more (n, grew, is) w =
    let m : Held = get_or ms at blank in
    let fresh : IsFreshBut at m.tail ms = fresh-but-own ms at m.tail w.apart lt (λ d. (begun d, ap (λ (v : Held). v.tail) (get_or_any ms at d blank lt))) in
    subst (λ (v : List Held). IsAreaLawful (area_of a f b inb sp tape v)) (sym is)
    (area-set a f b inb sp tape ms at n (grown-lawful r a tape cells m n (w.boxes at blank lt) (begun blank) grew) (grown-leased r cells m n (more blank) (w.leases at blank lt) grew) (grown-fresh r at cells m n ms fresh grew) w)

-- an area of which one box was set to its map after growth is the old one with the map there grown, or not
pub grown-at : (r : Result Bool Refusal) (s : AreaState) (a : ℕ) (f b : Option ℤ) (inb : List Update) (sp : ℕ) (tape : List (Step Row)) (ms ns : List Held) (at cells : ℕ) → area_of a f b inb sp tape ms ≡ s → IsSetAt ms at (HasGrownOr r cells (get_or ms at blank)) ns → HasGrownAt r at cells s (area_of a f b inb sp tape ns)
grown-at r s a f b inb sp tape ms ns at cells is (n, grew, e) =
    (n, subst (λ (v : AreaState). HasGrownOr r cells (get_or v.boxes at blank) n) is grew, view-set s a f b inb sp tape ms ns at n is e)

-- the other boxes stay, whether it grew or not
pub grown-trying : (r : Result Bool Refusal) (at cells : ℕ) (tails : List Tail) (t : Tail) (x y : AreaState) → IsFreshBut at t x.boxes → HasGrownAt r at cells x y → IsTrying at tails t x y
grown-trying r at cells tails t x y fresh (m, grew, is) = trying-at at tails t x x y m is (trying-start at tails t x fresh)

-- and one that grew is held
pub grown-held : (grew : Bool) (at cells : ℕ) (t : Tail) (x y : AreaState) → grew ≡ true → at < length x.boxes → ((d : Held) → (get_or x.boxes at d).is_blank ≡ false) → ((d : Held) → (get_or x.boxes at d).tail ≡ t) → HasGrownAt (Ok grew) at cells x y → IsHeld t cells y.boxes
grown-held grew at cells t x y did lt begun tail (m, grown, is) =
    let now : m ≡ record (get_or x.boxes at blank) { cells = cells } = grown ∙ ap (λ (b : Bool). grown_if b cells (get_or x.boxes at blank)) did in
    subst (λ (v : AreaState). IsHeld t cells v.boxes) (sym is) (held-set x.boxes at t cells m lt (record {
      begun = ap (λ (v : Held). v.is_blank) now ∙ begun blank;
      tail = ap (λ (v : Held). v.tail) now ∙ tail blank;
      cells = let e : m.cells ≡ cells = ap (λ (v : Held). v.cells) now in omega (arith, e);
    }))
