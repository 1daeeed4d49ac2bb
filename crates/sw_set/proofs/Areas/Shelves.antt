-- What single changes leave of a lawful area.
use Rattle.std.proofs.Common.{◌≡◌, ◌≢◌, ℕ, zero, suc, ◌+◌, ◌<◌, ◌≤◌, ◌^◌, ℤ, true, false, true≢false, List, [], ◌∷◌, ◌++◌, fold, length, get_or, set, take, drop, refl, ap, sym, ◌∙◌, arith, subst, All, Option, Result, Ok, Err, MatchResult, OnOk, OnErr}
use Rattle.std.proofs.lemmas.List.{append-nil, length-append}
use Rattle.std.proofs.lemmas.List.Elements.{All-set, All-append}
use Rattle.sw_query.specs.declared.bound.Bound.{Bound}
use Rattle.sw_table.specs.declared.row.Row.{Row}
use Rattle.sw_table.specs.declared.row.Update.{Update}
use Rattle.sw_query.specs.declared.refusal.Refusal.{Refusal}
use Rattle.sw_query.specs.Scan.{cell_of}
use Rattle.sw_table.specs.Updates.{rows_then}
use Rattle.sw_kernel.specs.Arrangement.{last}
use Rattle.sw_kernel.specs.Replay.{Step, loaded, ranged}
use Rattle.sw_kernel.specs.Tapes.{IsTape, brought, brought_by}
use Rattle.sw_tape.proofs.Steps.{tape-push}
use Rattle.sw_map.specs.declared.tail.Tail.{Tail}
use Rattle.sw_map.specs.Held.{Held, blank, begun, KeysFit}
use Rattle.sw_map.specs.Lawful.{IsLawful}
use Rattle.sw_map.specs.Refusals.{HasBegunOr, IsBeginRefusal}
use Rattle.sw_map.proofs.Replays.{lawful-longer, lawful-blank, lawful-aligned, begun-aligned}
use Rattle.sw_tape.specs.Restart.{first_rows}
use Rattle.sw_set.specs.Shelf.{AreaState, AreApart, AreReceivable, HasLease, IsAreaLawful, Rises, area_over, came_then, key_of, lies_within, logged_rows}
use Rattle.sw_set.specs.Aligned.{AreSameMaps}
use Rattle.sw_set.specs.Boxed.{AreMoreOr, IsFreshBut, IsSameButBoxes, IsSetAt}
use Rattle.sw_set.specs.Merged.{IsBegunAnew, IsSameShell}
use Rattle.sw_set.specs.Inbox.{HaveComeOr, Waiting}
use Rattle.sw_set.specs.Outcomes.{CameToWaitOr, HasMadeAt, IsSuppliedOr}
use Rattle.sw_set.proofs.Areas.Boxes.{set-each}
use Rattle.sw_set.proofs.Areas.Longer.{live-more}
use Rattle.sw_set.proofs.Areas.Receiving.{IsBelow, all-one, receivable-append, receivable-less}

-- an area by its fields, what waits and the room for more apart
abbrev pub area_of : ℕ → Option ℤ → Option ℤ → List Update → ℕ → List (Step Row) → List Held → AreaState
area_of a f b inb sp tape ms = record { attribute = a; from = f; below = b; inbox = inb; spare = sp; tape = tape; boxes = ms }

-- ---- the rows of a tape with one more range
pub logged-ranged : (a : ℕ) (tape : List (Step Row)) (lower upper : Option Bound) → logged_rows a (tape ++ ranged lower upper ∷ []) ≡ logged_rows a tape
logged-ranged a tape lower upper = live-more (cell_of a) key_of tape (ranged lower upper) (last []) []

-- a range at the end of a tape brings no row
pub brought-ranged : (tape : List (Step Row)) (lower upper : Option Bound) → brought (tape ++ ranged lower upper ∷ []) ≡ brought tape
brought-ranged [] lower upper = refl
brought-ranged (e ∷ es) lower upper = ap (λ v. brought_by e ++ v) (brought-ranged es lower upper)

-- a range at the end of a tape leaves the rows of its load
pub first-ranged : (tape : List (Step Row)) (lower upper : Option Bound) → IsTape tape → first_rows (tape ++ ranged lower upper ∷ []) ≡ first_rows tape
first-ranged [] lower upper t = absurd t
first-ranged (e ∷ es) lower upper t = refl

-- an area with room on its tape stays lawful when a range is logged
pub area-logged : (a : ℕ) (f b : Option ℤ) (inb : List Update) (sp : ℕ) (tape : List (Step Row)) (ms : List Held) (lower upper : Option Bound) → length tape < 4096 → IsAreaLawful (area_of a f b inb sp tape ms) → IsAreaLawful (area_of a f b inb sp (tape ++ ranged lower upper ∷ []) ms)
area-logged a f b inb sp tape ms lower upper room w =
    let same = logged-ranged a tape lower upper in
    record {
      attribute = w.attribute;
      tape = tape-push tape (ranged lower upper) w.tape tt;
      short = let n = length-append tape (ranged lower upper ∷ []) in omega arith;
      keys = All-append (λ (e : Step Row). KeysFit e) tape (ranged lower upper ∷ []) w.keys (all-one (λ (e : Step Row). KeysFit e) (ranged lower upper) (λ k d lt. let no : k < 0 = lt in absurd (omega arith)));
      brought_rise = subst (Rises key_of) (sym (brought-ranged tape lower upper)) w.brought_rise;
      rows_rise = subst (Rises key_of) (sym same) w.rows_rise;
      rows_fit = subst (λ (v : List Row). All (λ (r : Row). r.key < 2 ^ 63) v) (sym same) w.rows_fit;
      within = subst (λ (v : List Row). All (λ (r : Row). lies_within a f b r ≡ true) v) (sym same) w.within;
      boxes = λ k d lt. lawful-longer a tape (ranged lower upper ∷ []) _ (w.boxes k d lt);
      leases = w.leases;
      apart = w.apart;
      receivable = rw (brought-ranged tape lower upper, same) w.receivable;
    }

-- ---- boxes
pub blank-not : {Y : Type 0} {m : Held} → m.is_blank ≡ false → m ≡ blank → Y
blank-not {Y} {m} b e = let t : true ≡ false = sym (ap (λ (x : Held). x.is_blank) e) ∙ b in absurd (true≢false t)

-- one box changed
pub apart-set : (ms : List Held) (i : ℕ) (n : Held) → AreApart ms → (n.is_blank ≡ false → IsFreshBut i n.tail ms) → AreApart (set ms i n)
unfolding AreApart IsFreshBut
apart-set ms i n apart fresh = λ k j d e lk lj kj bk bj.
    set-each (λ (k' : ℕ) (v : Held). (j' : ℕ) (e' : Held) → j' < length (set ms i n) → k' ≢ j' → v.is_blank ≡ false → (get_or (set ms i n) j' e').is_blank ≡ false → v.tail ≢ (get_or (set ms i n) j' e').tail) ms i n
    (λ j' e' l' ne b b'. set-each (λ (j'' : ℕ) (w : Held). i ≢ j'' → w.is_blank ≡ false → n.tail ≢ w.tail) ms i n (λ no. absurd (no refl)) (λ j'' f nj l _ bw same. fresh b j'' f l nj bw (sym same)) j' e' l' ne b')
    (λ k' f nk l j' e' l' ne b b'. set-each (λ (j'' : ℕ) (w : Held). k' ≢ j'' → w.is_blank ≡ false → (get_or ms k' f).tail ≢ w.tail) ms i n (λ _ bn. fresh bn k' f l nk b) (λ j'' g nj l2 ne2 bw. apart k' j'' f g l l2 ne2 b bw) j' e' l' ne b')
    k d lk j e lj kj bk bj

-- where all boxes are blank, no two have maps of the same tail
pub apart-blank : (ms : List Held) → All (λ m. m ≡ blank) ms → AreApart ms
unfolding AreApart
apart-blank ms blanks = λ i j d e li lj ne bi bj. let t : true ≡ false = sym (ap (λ (x : Held). x.is_blank) (blanks i d li)) ∙ bi in λ _. absurd (true≢false t)

-- where no two boxes have maps of one tail, no two do of boxes that hold the same maps
pub apart-same : (ms ns : List Held) → AreApart ms → AreSameMaps ms ns → AreApart ns
unfolding AreApart
apart-same ms ns apart same = λ i j d e li lj ne bi bj eq.
    let many = same.many in
    let si = same.each i d d (omega arith) in
    let sj = same.each j e e (omega arith) in
    apart i j d e (omega arith) (omega arith) ne (sym si.blank ∙ bi) (sym sj.blank ∙ bj) (sym si.tail ∙ eq ∙ sj.tail)

-- boxes that hold the same maps as boxes with leases of some cells have such leases
pub leases-same : (ms ns : List Held) → All HasLease ms → AreSameMaps ms ns → All HasLease ns
leases-same ms ns leases same = λ k d lt b.
    let many = same.many in
    let s = same.each k d d (omega arith) in
    subst (λ (n : ℕ). 0 < n) (sym s.cells) (leases k d (omega arith) (sym s.blank ∙ b))

-- a box that is not blank stands before one that was added blank
old-place : (ms : List Held) (m : Held) (i : ℕ) (d : Held) → m.is_blank ≡ true → i < length (ms ++ m ∷ []) → (get_or (ms ++ m ∷ []) i d).is_blank ≡ false → (i < length ms) × (get_or (ms ++ m ∷ []) i d ≡ get_or ms i d)
old-place [] m zero d b lt nb = absurd (true≢false (sym b ∙ nb))
old-place [] m (suc i) d b lt nb = absurd (omega (arith, lt))
old-place (x ∷ ms) m zero d b lt nb = (omega arith, refl)
old-place (x ∷ ms) m (suc i) d b lt nb = let r = old-place ms m i d b (omega (arith, lt)) nb in (omega (arith, r.0), r.1)

-- with one blank box more there are still no two maps of the same tail
pub apart-more : (ms : List Held) (m : Held) → m.is_blank ≡ true → AreApart ms → AreApart (ms ++ m ∷ [])
unfolding AreApart
apart-more ms m b apart = λ i j d e li lj ne bi bj eq.
    let pi = old-place ms m i d b li bi in
    let pj = old-place ms m j e b lj bj in
    apart i j d e pi.0 pj.0 ne (sym (ap (λ (x : Held). x.is_blank) pi.1) ∙ bi) (sym (ap (λ (x : Held). x.is_blank) pj.1) ∙ bj) (sym (ap (λ (x : Held). x.tail) pi.1) ∙ eq ∙ ap (λ (x : Held). x.tail) pj.1)

-- the same area with other boxes
pub area-with : (a : ℕ) (f b : Option ℤ) (inb : List Update) (sp : ℕ) (tape : List (Step Row)) (ms ns : List Held) → All (IsLawful a tape) ns → All HasLease ns → AreApart ns → IsAreaLawful (area_of a f b inb sp tape ms) → IsAreaLawful (area_of a f b inb sp tape ns)
area-with a f b inb sp tape ms ns law leases apart w = record {
  attribute = w.attribute;
  tape = w.tape;
  short = w.short;
  keys = w.keys;
  brought_rise = w.brought_rise;
  rows_rise = w.rows_rise;
  rows_fit = w.rows_fit;
  within = w.within;
  boxes = law;
  leases = leases;
  apart = apart;
  receivable = w.receivable;
}

-- one box changed
pub area-set : (a : ℕ) (f b : Option ℤ) (inb : List Update) (sp : ℕ) (tape : List (Step Row)) (ms : List Held) (i : ℕ) (m : Held) → IsLawful a tape m → HasLease m → (m.is_blank ≡ false → IsFreshBut i m.tail ms) → IsAreaLawful (area_of a f b inb sp tape ms) → IsAreaLawful (area_of a f b inb sp tape (set ms i m))
area-set a f b inb sp tape ms i m law lease fresh w =
    area-with a f b inb sp tape ms (set ms i m) (All-set (IsLawful a tape) ms i m law w.boxes) (All-set HasLease ms i m lease w.leases) (apart-set ms i m w.apart fresh) w

-- a blank box more, or as many as there were
pub area-supplied : {A M : Type 0} (r : Result A (M × Refusal)) (it : M) (a : ℕ) (f b : Option ℤ) (inb : List Update) (sp : ℕ) (tape : List (Step Row)) (ms ns : List Held) → AreMoreOr r it ms ns → IsAreaLawful (area_of a f b inb sp tape ms) → IsAreaLawful (area_of a f b inb sp tape ns)
area-supplied (Err back) it a f b inb sp tape ms ns is w = subst (λ (v : List Held). IsAreaLawful (area_of a f b inb sp tape v)) (sym is.0) w
area-supplied (Ok u) it a f b inb sp tape ms ns is w =
    subst (λ (v : List Held). IsAreaLawful (area_of a f b inb sp tape v)) (sym is)
    (area-with a f b inb sp tape ms (ms ++ blank ∷ [])
    (All-append (IsLawful a tape) ms (blank ∷ []) w.boxes (all-one (IsLawful a tape) blank (lawful-blank a tape)))
    (All-append HasLease ms (blank ∷ []) w.leases (all-one HasLease blank (λ b. absurd (true≢false b))))
    (apart-more ms blank refl w.apart) w)

-- an area whose boxes got a blank one more, or not for want of memory, is supplied, or is as it was
pub supplied-view : {A M : Type 0} (r : Result A (M × Refusal)) (it : M) (s : AreaState) (a : ℕ) (f b : Option ℤ) (inb : List Update) (sp : ℕ) (tape : List (Step Row)) (ms ns : List Held) → area_of a f b inb sp tape ms ≡ s → AreMoreOr r it ms ns → IsSuppliedOr r it s (area_of a f b inb sp tape ns)
supplied-view (Ok u) it s a f b inb sp tape ms ns is more = ap (area_of a f b inb sp tape) more ∙ ap (λ (v : AreaState). record v { boxes = v.boxes ++ blank ∷ [] }) is
supplied-view (Err back) it s a f b inb sp tape ms ns is more = (ap (area_of a f b inb sp tape) more.0 ∙ is, more.1, more.2)

-- a blank map is lawful over each tape
pub lawful-of_blank : (a : ℕ) (tape : List (Step Row)) (m : Held) → m ≡ blank → IsLawful a tape m
lawful-of_blank a tape m e = subst (IsLawful a tape) (sym e) (lawful-blank a tape)

-- a map that has just begun is lawful over each tape
pub lawful-of_begun : (a : ℕ) (tape : List (Step Row)) (t : Tail) (n : ℕ) (m : Held) → m ≡ begun a t n → IsLawful a tape m
lawful-of_begun a tape t n m e = subst (IsLawful a tape) (sym e) (lawful-aligned a tape _ (begun-aligned a tape t n))

-- the tape begun anew with rows, all boxes blank
pub area-begun : (a : ℕ) (f b : Option ℤ) (inb : List Update) (sp : ℕ) (rows : List Row) (ns : List Held) → a < 8 → All (λ (r : Row). r.key < 2 ^ 63) rows → Rises key_of rows → All (λ (r : Row). lies_within a f b r ≡ true) rows → All (λ m. m ≡ blank) ns → AreReceivable a f b rows rows inb → IsAreaLawful (area_of a f b inb sp (loaded rows ∷ []) ns)
area-begun a f b inb sp rows ns few fit rise within blanks receivable = record {
  attribute = few;
  tape = tt;
  short = omega arith;
  keys = all-one (λ (e : Step Row). KeysFit e) (loaded rows) fit;
  brought_rise = subst (Rises key_of) (sym (append-nil rows)) rise;
  rows_rise = rise;
  rows_fit = fit;
  within = within;
  boxes = λ k d lt. lawful-of_blank a (loaded rows ∷ []) _ (blanks k d lt);
  leases = λ k d lt b. blank-not b (blanks k d lt);
  apart = apart-blank ns blanks;
  receivable = subst (λ (v : List Row). AreReceivable a f b v rows inb) (sym (append-nil rows)) receivable;
}

-- an area with one load and all its boxes blank is the old one begun anew, and its shell is the same
pub begun-shell : (s : AreaState) (a : ℕ) (f b : Option ℤ) (inb : List Update) (sp : ℕ) (tape new : List (Step Row)) (rows : List Row) (ms ns : List Held) → area_of a f b inb sp tape ms ≡ s → new ≡ loaded rows ∷ [] → length ns ≡ length ms → All (λ m. m ≡ blank) ns → IsSameShell s (area_of a f b inb sp new ns) × IsBegunAnew rows (area_of a f b inb sp new ns)
begun-shell s a f b inb sp tape new rows ms ns is tapes many blanks = (
  record {
    attribute = ap (λ (v : AreaState). v.attribute) is;
    from = ap (λ (v : AreaState). v.from) is;
    below = ap (λ (v : AreaState). v.below) is;
    inbox = ap (λ (v : AreaState). v.inbox) is;
    spare = ap (λ (v : AreaState). v.spare) is;
    many = many ∙ ap (λ (v : AreaState). length v.boxes) is;
  },
  record { tape = tapes; boxes = blanks },
)

-- with its live rows, which came to it
pub area-restarted : (a : ℕ) (f b : Option ℤ) (inb : List Update) (sp : ℕ) (tape : List (Step Row)) (ms ns : List Held) → ((n : ℕ) → IsBelow n (brought tape) → IsBelow n (logged_rows a tape)) → All (λ m. m ≡ blank) ns → IsAreaLawful (area_of a f b inb sp tape ms) → IsAreaLawful (area_of a f b inb sp (loaded (logged_rows a tape) ∷ []) ns)
area-restarted a f b inb sp tape ms ns less blanks w =
    area-begun a f b inb sp (logged_rows a tape) ns w.attribute w.rows_fit w.rows_rise w.within blanks (receivable-less a f b (brought tape) (logged_rows a tape) (logged_rows a tape) inb less w.receivable)

-- other updates that wait
pub area-waiting : (a : ℕ) (f b : Option ℤ) (inb new : List Update) (sp more : ℕ) (tape : List (Step Row)) (ms : List Held) → AreReceivable a f b (brought tape) (logged_rows a tape) new → IsAreaLawful (area_of a f b inb sp tape ms) → IsAreaLawful (area_of a f b new more tape ms)
area-waiting a f b inb new sp more tape ms receivable w = record {
  attribute = w.attribute;
  tape = w.tape;
  short = w.short;
  keys = w.keys;
  brought_rise = w.brought_rise;
  rows_rise = w.rows_rise;
  rows_fit = w.rows_fit;
  within = w.within;
  boxes = w.boxes;
  leases = w.leases;
  apart = w.apart;
  receivable = receivable;
}

-- more of them, or as many as there were
pub area-received : {U : Type 0} (r : Result U Refusal) (a : ℕ) (f b : Option ℤ) (inb us new : List Update) (sp more : ℕ) (tape : List (Step Row)) (ms : List Held) → MatchResult r (λ _. new ≡ inb ++ us) (λ _. new ≡ inb) → AreReceivable a f b (fold came_then (brought tape) inb) (fold rows_then (logged_rows a tape) inb) us → IsAreaLawful (area_of a f b inb sp tape ms) → IsAreaLawful (area_of a f b new more tape ms)
area-received (Ok u) a f b inb us new sp more tape ms is after w = area-waiting a f b inb new sp more tape ms (rw is (receivable-append a f b (brought tape) (logged_rows a tape) inb us w.receivable after)) w
area-received (Err e) a f b inb us new sp more tape ms is after w = area-waiting a f b inb new sp more tape ms (rw is w.receivable) w

-- the updates of an inbox to which more came, or as many as there were
pub come : {U : Type 0} (r : Result U Refusal) (us : List Update) (w v : Waiting) → HaveComeOr r us w v → MatchResult r (λ _. v.updates ≡ w.updates ++ us) (λ _. v.updates ≡ w.updates)
come (Ok u) us w v is = is.0
come (Err e) us w v is = ap (λ (x : Waiting). x.updates) is.0

-- the value of an area of which they are the inbox
pub come-view : {U : Type 0} (r : Result U Refusal) (us : List Update) (s : AreaState) (a : ℕ) (f b : Option ℤ) (w v : Waiting) (tape : List (Step Row)) (ms : List Held) → area_over a f b w tape ms ≡ s → HaveComeOr r us w v → CameToWaitOr r us s (area_over a f b v tape ms)
come-view (Ok u) us s a f b w v tape ms is more = (
  ap (λ (l : List Update). area_of a f b l v.spare tape ms) more.0 ∙ ap (λ (x : AreaState). record x { inbox = x.inbox ++ us; spare = v.spare }) is,
  subst (λ (x : AreaState). x.spare ≤ v.spare + length us) is more.1,
)
come-view (Err e) us s a f b w v tape ms is more = (ap (λ (x : Waiting). area_over a f b x tape ms) more.0 ∙ is, more.1)

-- the same updates, with other room
pub area-roomy : (a : ℕ) (f b : Option ℤ) (w v : Waiting) (tape : List (Step Row)) (ms : List Held) → v ≡ record w { spare = v.spare } → IsAreaLawful (area_over a f b w tape ms) → IsAreaLawful (area_over a f b v tape ms)
area-roomy a f b w v tape ms same l =
    area-waiting a f b w.updates v.updates w.spare v.spare tape ms (subst (AreReceivable a f b (brought tape) (logged_rows a tape)) (sym (ap (λ (x : Waiting). x.updates) same)) l.receivable) l

-- an area whose inbox has other room alone is the old one with other room alone
pub roomy-view : (s : AreaState) (a : ℕ) (f b : Option ℤ) (w v : Waiting) (tape : List (Step Row)) (ms : List Held) → area_over a f b w tape ms ≡ s → v ≡ record w { spare = v.spare } → area_over a f b v tape ms ≡ record s { spare = v.spare }
roomy-view s a f b w v tape ms is same =
    ap (λ (l : List Update). area_of a f b l v.spare tape ms) (ap (λ (x : Waiting). x.updates) same) ∙ ap (λ (x : AreaState). record x { spare = v.spare }) is

-- a new area
pub area-new : (a : ℕ) (f b : Option ℤ) (sp : ℕ) (rows : List Row) → a < 8 → All (λ (r : Row). r.key < 2 ^ 63) rows → Rises key_of rows → All (λ (r : Row). lies_within a f b r ≡ true) rows → IsAreaLawful (area_of a f b [] sp (loaded rows ∷ []) [])
area-new a f b sp rows few fit rise within = area-begun a f b [] sp rows [] few fit rise within (λ k d lt. let no : k < 0 = lt in absurd (omega arith)) tt

-- the value of an area of which one box changed
pub view-set : (s : AreaState) (a : ℕ) (f b : Option ℤ) (inb : List Update) (sp : ℕ) (tape : List (Step Row)) (ms ns : List Held) (i : ℕ) (m : Held) → area_of a f b inb sp tape ms ≡ s → ns ≡ set ms i m → area_of a f b inb sp tape ns ≡ record s { boxes = set s.boxes i m }
view-set s a f b inb sp tape ms ns i m is e = ap (area_of a f b inb sp tape) e ∙ ap (λ (v : AreaState). record v { boxes = set v.boxes i m }) is

-- an area whose boxes are as many as they were
pub same-but : (s : AreaState) (a : ℕ) (f b : Option ℤ) (inb : List Update) (sp : ℕ) (tape : List (Step Row)) (ms ns : List Held) → area_of a f b inb sp tape ms ≡ s → length ns ≡ length ms → IsSameButBoxes s (area_of a f b inb sp tape ns)
same-but s a f b inb sp tape ms ns is many = record {
  attribute = ap (λ (v : AreaState). v.attribute) is;
  from = ap (λ (v : AreaState). v.from) is;
  below = ap (λ (v : AreaState). v.below) is;
  inbox = ap (λ (v : AreaState). v.inbox) is;
  spare = ap (λ (v : AreaState). v.spare) is;
  tape = ap (λ (v : AreaState). v.tape) is;
  many = many ∙ ap (λ (v : AreaState). length v.boxes) is;
}

-- a tape that one more range was pushed on, or that is as it was
pub pushed : {U E : Type 0} (P : List (Step Row) → Type 0) (r : Result U E) (old new more : List (Step Row)) → OnOk r (new ≡ more) → OnErr r (new ≡ old) → P more → P old → P new
pushed P (Ok u) old new more ok err pm po = subst P (sym ok) pm
pushed P (Err e) old new more ok err pm po = subst P (sym err) po

-- a whole list written over another of its length
pub written : {X : Type 0} (n : ℕ) (ys xs : List X) → n ≡ length ys → take n (ys ++ drop (length ys) xs) ≡ ys
written n ys xs e = ap (λ k. take k (ys ++ drop (length ys) xs)) e ∙ all ys (drop (length ys) xs)
  where
    all : {X : Type 0} (ys zs : List X) → take (length ys) (ys ++ zs) ≡ ys
    all [] zs = refl
    all (y ∷ ys) zs = ap (λ t. y ∷ t) (all ys zs)

-- a map that began, or is blank
pub tried-lawful : {U : Type 0} (r : Result U Refusal) (a : ℕ) (tape : List (Step Row)) (t : Tail) (n : ℕ) (m : Held) → MatchResult r (λ _. m ≡ begun a t n) (λ e. (m ≡ blank) × IsBeginRefusal n e) → IsLawful a tape m
tried-lawful (Ok u) a tape t n m is = lawful-of_begun a tape t n m is
tried-lawful (Err e) a tape t n m is = lawful-of_blank a tape m is.0

-- a map that was to begin with some cells has a lease of them, or is blank
pub tried-leased : {U : Type 0} (r : Result U Refusal) (a : ℕ) (t : Tail) (n : ℕ) (m : Held) → 0 < n → MatchResult r (λ _. m ≡ begun a t n) (λ e. (m ≡ blank) × IsBeginRefusal n e) → HasLease m
tried-leased (Ok u) a t n m some is b = subst (λ (v : ℕ). 0 < v) (sym (ap (λ (x : Held). x.cells) is)) some
tried-leased (Err e) a t n m some is b = blank-not b is.0

-- if no other box has a map of the tail to begin, none has one of the tail of the map that began
pub tried-fresh : {U : Type 0} (r : Result U Refusal) (a at : ℕ) (t : Tail) (n : ℕ) (m : Held) (ms : List Held) → MatchResult r (λ _. m ≡ begun a t n) (λ e. (m ≡ blank) × IsBeginRefusal n e) → IsFreshBut at t ms → m.is_blank ≡ false → IsFreshBut at m.tail ms
tried-fresh (Ok u) a at t n m ms is fresh b = subst (λ (v : Tail). IsFreshBut at v ms) (sym (ap (λ (x : Held). x.tail) is)) fresh
tried-fresh (Err e) a at t n m ms is fresh b = blank-not b is.0

-- an area with one
pub area-tried : {U : Type 0} (r : Result U Refusal) (a : ℕ) (f b : Option ℤ) (inb : List Update) (sp : ℕ) (tape : List (Step Row)) (ms ns : List Held) (i : ℕ) (t : Tail) (n : ℕ) → 0 < n → IsFreshBut i t ms → IsSetAt ms i (HasBegunOr r a t n) ns → IsAreaLawful (area_of a f b inb sp tape ms) → IsAreaLawful (area_of a f b inb sp tape ns)
area-tried r a f b inb sp tape ms ns i t n some fresh (m, begins, is) w =
    subst (λ (v : List Held). IsAreaLawful (area_of a f b inb sp tape v)) (sym is)
    (area-set a f b inb sp tape ms i m (tried-lawful r a tape t n m begins) (tried-leased r a t n m some begins) (tried-fresh r a i t n m ms begins fresh) w)

-- an area of which one box was set to a map that was to begin has it made there, or the box is blank
pub tried-view : {U : Type 0} (r : Result U Refusal) (s : AreaState) (a : ℕ) (f b : Option ℤ) (inb : List Update) (sp : ℕ) (tape : List (Step Row)) (ms ns : List Held) (i : ℕ) (t : Tail) (n : ℕ) → area_of a f b inb sp tape ms ≡ s → IsSetAt ms i (HasBegunOr r a t n) ns → HasMadeAt r i t n s (area_of a f b inb sp tape ns)
tried-view (Ok u) s a f b inb sp tape ms ns i t n is (m, begins, e) =
    view-set s a f b inb sp tape ms ns i (begun s.attribute t n) is (e ∙ ap (set ms i) (begins ∙ ap (λ (v : AreaState). begun v.attribute t n) is))
tried-view (Err x) s a f b inb sp tape ms ns i t n is (m, begins, e) = (view-set s a f b inb sp tape ms ns i blank is (e ∙ ap (set ms i) begins.0), begins.1)
