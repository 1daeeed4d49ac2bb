-- Merging, update by update: the live rows, what came, and what may still be received.
use Rattle.std.proofs.Common.{◌≡◌, ◌≢◌, ℕ, zero, suc, ◌+◌, ◌<◌, ◌≤◌, Bool, true, false, nat_lt, inl, inr, List, [], ◌∷◌, ◌++◌, fold, length, get_or, take, drop, refl, ap, sym, ◌∙◌, arith, subst, All}
use Rattle.std.proofs.lemmas.List.{append-nil, drop_all, drop_more, take_all, take_more}
use Rattle.std.proofs.lemmas.List.Elements.{All-append}
use Rattle.std.proofs.lemmas.List.Sums.{fold-append}
use Rattle.sw_table.specs.declared.row.Row.{Row}
use Rattle.sw_table.specs.declared.row.Update.{Update}
use Rattle.sw_table.specs.declared.row.Update.TheVariants.{Insert, Remove}
use Rattle.sw_table.specs.Updates.{rows_then, without}
use Rattle.sw_kernel.specs.Replay.{Step, loaded, inserted, removed}
use Rattle.sw_kernel.specs.Tapes.{brought, peak_from}
use Rattle.sw_map.specs.declared.tail.Tail.TheVariants.{Key}
use Rattle.sw_map.specs.Held.{Held}
use Rattle.sw_set.specs.Merged.{AreMerged, IsAllMerged, IsMerged, IsPartlyMerged, HaveKeysStalled, IsBehind, IsSameShell, LacksKeys, StandsForSame, without_inbox}
use Rattle.sw_set.specs.Merging.{IsMergedUpTo, IsStoppedAt}
use Rattle.sw_set.specs.Prepared.{IsReady}
use Rattle.sw_set.specs.Boxed.{IsSameButBoxes}
use Rattle.sw_set.specs.Shelf.{AreApart, AreReceivable, AreaState, MayReceive, came_then, logged_rows}
use Rattle.sw_set.specs.Aligned.{AreSameMaps}
use Rattle.sw_set.proofs.Areas.Longer.{all-without, brought-inserted, brought-removed, logged-all, logged-inserted, logged-removed}
use Rattle.sw_set.proofs.Areas.Receiving.{IsBelow, all-left, all-right, less-after, receivable-less}
use Rattle.sw_set.proofs.Areas.Views.{IsOwn, all-own, any-at}

-- ---- no key map
pub keys-missing : (x : AreaState) → All (λ (m : Held). m.is_blank ≡ false → m.tail ≢ Key) x.boxes → LacksKeys x
keys-missing x none = λ k d lt keys. absurd (none k d lt keys.0 keys.1)

-- where the one key map has fewer cells than the tape's peak, no key map has room for it
pub keys-small : (x : AreaState) (at : ℕ) → AreApart x.boxes → at < length x.boxes → IsOwn Key x.boxes at → ((d : Held) → (get_or x.boxes at d).cells < peak_from 0 x.tape) → LacksKeys x
keys-small x at apart lt own small =
    let all = all-own x.boxes at Key (λ (m : Held). m.cells < peak_from 0 x.tape) apart lt own small in
    λ k d l keys. all k d l keys.0 keys.1

-- one that was refused a step
pub keys-stalled : (S : List (Step Row) → Type 0) (x : AreaState) (at : ℕ) → at < length x.boxes → IsOwn Key x.boxes at → ((d : Held) → peak_from 0 x.tape ≤ (get_or x.boxes at d).cells) → ((d : Held) → (get_or x.boxes at d).cursor < length x.tape) → S x.tape → HaveKeysStalled S x
keys-stalled S x at lt own room behind stalled =
    (any-at x.boxes at (IsBehind x.tape) lt (λ d. record { begun = (own d).0; tail_is = (own d).1; room = room d; behind = behind d }), stalled)

-- a key map that was stepped to the end
pub keys-ready : (x m : AreaState) (at : ℕ) → IsSameButBoxes x m → AreSameMaps x.boxes m.boxes → at < length x.boxes → IsOwn Key x.boxes at → ((d : Held) → (get_or m.boxes at d).cursor ≡ length x.tape) → (at < length m.boxes) × ((d : Held) → IsReady Key m.tape (get_or m.boxes at d))
keys-ready x m at p maps lt own ends =
    let many = maps.many in (
      omega (arith, many, lt),
      λ d. let one = maps.each at d d lt in record { begun = one.blank ∙ (own d).0; tail_is = one.tail ∙ (own d).1; at_end = ends d ∙ sym (ap length p.tape) },
    )

-- ---- one update
pub logged-at : (a b : ℕ) (t u : List (Step Row)) → b ≡ a → u ≡ t → logged_rows b u ≡ logged_rows a t
logged-at a b t u e f = ap (λ (n : ℕ). logged_rows n u) e ∙ ap (logged_rows a) f

-- a number up to 4096 is either below it or is it
pub full-or-not : {P : Type 0} (n : ℕ) → n ≤ 4096 → (n < 4096 → P) → (n ≡ 4096 → P) → P
full-or-not {P} n le room full = by (nat_lt n 4096) refl
  where
    by : (t : Bool) → nat_lt n 4096 ≡ t → P
    by true e = room (grind (arith, e))
    by false e = full (let ge : 4096 ≤ n = grind (arith, e) in omega (arith, ge, le))

-- the live rows after it
pub merged-rows : (S : List (Step Row) → Type 0) (u : Update) (x z : AreaState) → length x.tape ≤ 4096 → z.attribute ≡ x.attribute → IsMerged S u x z → logged_rows z.attribute z.tape ≡ rows_then (logged_rows x.attribute x.tape) u
merged-rows S (Insert r) x z short same w =
    full-or-not (length x.tape) short (λ room. logged-at x.attribute z.attribute (x.tape ++ inserted r ∷ []) z.tape same (w.logged room).0 ∙ logged-inserted x.attribute x.tape r)
    (λ full. logged-at x.attribute z.attribute (loaded (logged_rows x.attribute x.tape ++ r ∷ []) ∷ []) z.tape same (w.restarted full).tape)
merged-rows S (Remove k) x z short same (inl w) =
    logged-at x.attribute z.attribute (x.tape ++ removed w.1.place ∷ []) z.tape same w.1.tape ∙ logged-removed x.attribute x.tape w.1.place k w.1.within w.1.own
merged-rows S (Remove k) x z short same (inr w) = logged-at x.attribute z.attribute (loaded (without k (logged_rows x.attribute x.tape)) ∷ []) z.tape same w.1.tape

-- no more came than it brings
came-logged : (n : ℕ) (r : Row) (x z : AreaState) → z.tape ≡ x.tape ++ inserted r ∷ [] → IsBelow n (brought x.tape ++ r ∷ []) → IsBelow n (brought z.tape)
came-logged n r x z is h = subst (IsBelow n) (sym (ap brought is ∙ brought-inserted x.tape r)) h

came-loaded : (n : ℕ) (rows : List Row) (z : AreaState) → z.tape ≡ loaded rows ∷ [] → IsBelow n rows → IsBelow n (brought z.tape)
came-loaded n rows z is h = subst (IsBelow n) (sym (ap brought is ∙ append-nil rows)) h

-- when an update was merged no key came that exceeds its own and all that came before
pub merged-came : (S : List (Step Row) → Type 0) (u : Update) (x z : AreaState) → length x.tape ≤ 4096 → IsMerged S u x z → (n : ℕ) → IsBelow n (came_then (brought x.tape) u) → IsBelow n (brought z.tape)
merged-came S (Insert r) x z short w n h =
    full-or-not (length x.tape) short (λ room. came-logged n r x z (w.logged room).0 h)
    (λ full. came-loaded n (logged_rows x.attribute x.tape ++ r ∷ []) z (w.restarted full).tape
    (All-append (λ (c : Row). c.key < n) (logged_rows x.attribute x.tape) (r ∷ []) (logged-all (λ (c : Row). c.key < n) x.attribute x.tape (all-left (λ (c : Row). c.key < n) (brought x.tape) (r ∷ []) h)) (all-right (λ (c : Row). c.key < n) (brought x.tape) (r ∷ []) h)))
merged-came S (Remove k) x z short (inl w) n h = subst (IsBelow n) (sym (ap brought w.1.tape ∙ brought-removed x.tape w.1.place)) h
merged-came S (Remove k) x z short (inr w) n h =
    came-loaded n (without k (logged_rows x.attribute x.tape)) z w.1.tape (all-without (λ (c : Row). c.key < n) k (logged_rows x.attribute x.tape) (logged-all (λ (c : Row). c.key < n) x.attribute x.tape h))

-- ---- one after the other
pub shell-refl : (x : AreaState) → IsSameShell x x
shell-refl x = record { attribute = refl; from = refl; below = refl; inbox = refl; spare = refl; many = refl }

-- being the same area but for its tape and what its boxes hold is transitive
pub shell-trans : (x y z : AreaState) → IsSameShell x y → IsSameShell y z → IsSameShell x z
shell-trans x y z p q = record { attribute = q.attribute ∙ p.attribute; from = q.from ∙ p.from; below = q.below ∙ p.below; inbox = q.inbox ∙ p.inbox; spare = q.spare ∙ p.spare; many = q.many ∙ p.many }

merged-last : (S : List (Step Row) → Type 0) (us : List Update) (u : Update) (x y z : AreaState) → AreMerged S us x y → IsSameShell y z → IsMerged S u y z → AreMerged S (us ++ u ∷ []) x z
merged-last S [] u x y z is shell w = (z, subst (λ (v : AreaState). IsSameShell v z) is shell, subst (λ (v : AreaState). IsMerged S u v z) is w, refl)
merged-last S (v ∷ us) u x y z (m, s, one, rest) shell w = (m, s, one, merged-last S us u m y z rest shell w)

-- an area into which updates may be merged is, as it is, one with none of them merged yet
pub upto-start : {S : List (Step Row) → Type 0} (us : List Update) (x : AreaState) → AreReceivable x.attribute x.from x.below (brought x.tape) (logged_rows x.attribute x.tape) us → IsMergedUpTo S us 0 x x
upto-start {S} us x w = record { few = omega arith; shell = shell-refl x; merged = refl; rows = refl; came = λ n h. h; receivable = w }

-- what the next update asks
next-receivable : {S : List (Step Row) → Type 0} (us : List Update) (i : ℕ) (u : Update) (x y : AreaState) → i < length us → u ≡ get_or us i u → IsMergedUpTo S us i x y → AreReceivable y.attribute y.from y.below (brought y.tape) (logged_rows y.attribute y.tape) (u ∷ drop (i + 1) us)
next-receivable {S} us i u x y lt is w =
    let parts : drop i us ≡ u ∷ drop (i + 1) us = drop_more us i u lt ∙ ap (λ (v : Update). v ∷ drop (i + 1) us) (sym is) in
    subst (AreReceivable y.attribute y.from y.below (brought y.tape) (logged_rows y.attribute y.tape)) parts w.receivable

-- an area that is merged up to an update may receive that update
pub next-may : {S : List (Step Row) → Type 0} (us : List Update) (i : ℕ) (u : Update) (x y : AreaState) → i < length us → u ≡ get_or us i u → IsMergedUpTo S us i x y → MayReceive y.attribute y.from y.below (brought y.tape) (logged_rows y.attribute y.tape) u
next-may {S} us i u x y lt is w = (next-receivable us i u x y lt is w).0

-- when the next update is merged as well, the area is merged up to one place further
pub upto-more : {S : List (Step Row) → Type 0} (us : List Update) (i : ℕ) (u : Update) (x y z : AreaState) → i < length us → u ≡ get_or us i u → length y.tape ≤ 4096 → IsMergedUpTo S us i x y → IsSameShell y z → IsMerged S u y z → IsMergedUpTo S us (i + 1) x z
upto-more {S} us i u x y z lt is short w shell one =
    let more : take (i + 1) us ≡ take i us ++ u ∷ [] = take_more us i u lt ∙ ap (λ (v : Update). take i us ++ v ∷ []) (sym is) in
    let rows = merged-rows S u y z short shell.attribute one in
    let came = merged-came S u y z short one in
    let next = next-receivable us i u x y lt is w in
    record {
      few = omega (arith, lt);
      shell = shell-trans x y z w.shell shell;
      merged = subst (λ (vs : List Update). AreMerged S vs x z) (sym more) (merged-last S (take i us) u x y z w.merged shell one);
      rows = rows ∙ ap (λ (v : List Row). rows_then v u) w.rows ∙ sym (ap (fold rows_then (logged_rows x.attribute x.tape)) more ∙ fold-append rows_then (logged_rows x.attribute x.tape) (take i us) (u ∷ []));
      came = λ n h. came n (came-then u n (fold came_then (brought x.tape) (take i us)) (brought y.tape) w.came (subst (IsBelow n) (ap (fold came_then (brought x.tape)) more ∙ fold-append came_then (brought x.tape) (take i us) (u ∷ [])) h));
      receivable = rw (shell.attribute, shell.from, shell.below) (still (drop (i + 1) us) rows came next.1);
    }
  where
    came-then : (u : Update) (n : ℕ) (xs ys : List Row) → ((m : ℕ) → IsBelow m xs → IsBelow m ys) → IsBelow n (came_then xs u) → IsBelow n (came_then ys u)
    came-then u n xs ys less h = less-after xs ys (u ∷ []) less n h

    still : (rest : List Update) → logged_rows z.attribute z.tape ≡ rows_then (logged_rows y.attribute y.tape) u → ((n : ℕ) → IsBelow n (came_then (brought y.tape) u) → IsBelow n (brought z.tape)) → AreReceivable y.attribute y.from y.below (came_then (brought y.tape) u) (rows_then (logged_rows y.attribute y.tape) u) rest → AreReceivable y.attribute y.from y.below (brought z.tape) (logged_rows y.attribute z.tape) rest
    still rest same less h =
        let own : logged_rows y.attribute z.tape ≡ rows_then (logged_rows y.attribute y.tape) u = ap (λ (a : ℕ). logged_rows a z.tape) (sym shell.attribute) ∙ same in
        subst (λ (live : List Row). AreReceivable y.attribute y.from y.below (brought z.tape) live rest) (sym own) (receivable-less y.attribute y.from y.below (came_then (brought y.tape) u) (brought z.tape) (rows_then (logged_rows y.attribute y.tape) u) rest less h)

-- a refusal at the next one
pub upto-stopped : {S : List (Step Row) → Type 0} (us : List Update) (i : ℕ) (x y z : AreaState) → i < length us → IsMergedUpTo S us i x y → IsSameShell y z → z.tape ≡ y.tape → AreSameMaps y.boxes z.boxes → IsStoppedAt S us i x z
upto-stopped {S} us i x y z lt w shell tape maps = record { few = lt; shell = shell-trans x y z w.shell shell; last = y; upto = w; tape = tape; maps = maps }

-- ---- the whole inbox
pub split-at : {X : Type 0} (n : ℕ) (xs : List X) → take n xs ++ drop n xs ≡ xs
split-at zero xs = refl
split-at (suc n) [] = refl
split-at (suc n) (x ∷ xs) = ap (λ v. x ∷ v) (split-at n xs)

-- the area when the rest of what waited waits again
pub stands-after : {S : List (Step Row) → Type 0} (x last y : AreaState) (us : List Update) (i : ℕ) → us ≡ x.inbox → IsMergedUpTo S us i (without_inbox x) last → y.attribute ≡ x.attribute → y.from ≡ x.from → y.below ≡ x.below → length y.boxes ≡ length x.boxes → y.tape ≡ last.tape → y.inbox ≡ drop i us → StandsForSame x y
stands-after {S} x last y us i waits w attribute from below many tape rest =
    let parts : take i us ++ drop i us ≡ x.inbox = split-at i us ∙ waits in
    record {
      attribute = attribute;
      from = from;
      below = below;
      rows = ap (fold rows_then (logged_rows y.attribute y.tape)) rest ∙ ap (λ (v : List Row). fold rows_then v (drop i us)) (logged-at last.attribute y.attribute last.tape y.tape (attribute ∙ sym w.shell.attribute) tape ∙ w.rows) ∙ sym (fold-append rows_then (logged_rows x.attribute x.tape) (take i us) (drop i us)) ∙ ap (fold rows_then (logged_rows x.attribute x.tape)) parts;
      many = many;
      brings = λ n h. rw (rest, tape) (less-after (fold came_then (brought x.tape) (take i us)) (brought last.tape) (drop i us) w.came n (subst (IsBelow n) (sym (ap (fold came_then (brought x.tape)) parts) ∙ fold-append came_then (brought x.tape) (take i us) (drop i us)) h));
    }

-- all of it is merged
pub all-merged : {S : List (Step Row) → Type 0} (x x0 z y : AreaState) (us ws : List Update) (sp : ℕ) → x0 ≡ without_inbox x → us ≡ x.inbox → IsMergedUpTo S us (length us) x0 z → y ≡ record z { inbox = ws; spare = sp } → ws ≡ [] → sp ≡ x.spare + length x.inbox → IsAllMerged S x y × StandsForSame x y
all-merged {S} x x0 z y us ws sp start waits w0 is none spare =
    let w = subst (λ (v : AreaState). IsMergedUpTo S us (length us) v z) start w0 in
    let whole : take (length us) us ≡ x.inbox = take_all (length us) us (omega arith) ∙ waits in
    let same : y ≡ record z { inbox = []; spare = x.spare + length x.inbox } = is ∙ ap (λ (v : List Update). record z { inbox = v; spare = sp }) none ∙ ap (λ (n : ℕ). record z { inbox = []; spare = n }) spare in (
      (z, subst (λ (v : List Update). AreMerged S v (without_inbox x) z) whole w.merged, same),
      stands-after x z y us (length us) waits w (ap (λ (v : AreaState). v.attribute) same ∙ w.shell.attribute) (ap (λ (v : AreaState). v.from) same ∙ w.shell.from) (ap (λ (v : AreaState). v.below) same ∙ w.shell.below) (ap (λ (v : AreaState). length v.boxes) same ∙ w.shell.many) (ap (λ (v : AreaState). v.tape) same) (ap (λ (v : AreaState). v.inbox) same ∙ sym (drop_all (length us) us (omega arith))),
    )

-- nothing waited
pub none-merged : (S : List (Step Row) → Type 0) (x y : AreaState) → x.inbox ≡ [] → IsAllMerged S x y → y ≡ x
none-merged S x y none (z, merged, is) =
    let same : z ≡ without_inbox x = subst (λ (us : List Update). AreMerged S us (without_inbox x) z) none merged in
    let zero : x.spare + length x.inbox ≡ x.spare = ap (λ (us : List Update). x.spare + length us) none ∙ (let e : x.spare + 0 ≡ x.spare = omega arith in e) in
    is ∙ ap (λ (v : AreaState). record v { inbox = []; spare = x.spare + length x.inbox }) same ∙ ap (λ (n : ℕ). record x { inbox = []; spare = n }) zero ∙ ap (λ (us : List Update). record x { inbox = us }) (sym none)

-- a beginning of it is merged
pub partly-merged : {S : List (Step Row) → Type 0} (x x0 z y : AreaState) (us ws : List Update) (i sp : ℕ) → x0 ≡ without_inbox x → us ≡ x.inbox → IsStoppedAt S us i x0 z → y ≡ record z { inbox = ws; spare = sp } → ws ≡ drop i us → sp ≡ x.spare + i → IsPartlyMerged S x y × StandsForSame x y
partly-merged {S} x x0 z y us ws i sp start waits s0 is rest spare =
    let s = subst (λ (v : AreaState). IsStoppedAt S us i v z) start s0 in
    let w = s.upto in (
      record {
        many = i;
        few = subst (λ (v : List Update). i < length v) waits s.few;
        inbox = ap (λ (v : AreaState). v.inbox) is ∙ rest ∙ ap (drop i) waits;
        spare = ap (λ (v : AreaState). v.spare) is ∙ spare;
        last = s.last;
        merged = subst (λ (v : List Update). AreMerged S (take i v) (without_inbox x) s.last) waits w.merged;
        tape = ap (λ (v : AreaState). v.tape) is ∙ s.tape;
        maps = subst (λ (v : List Held). AreSameMaps s.last.boxes v) (sym (ap (λ (v : AreaState). v.boxes) is)) s.maps;
      },
      stands-after x s.last y us i waits w (ap (λ (v : AreaState). v.attribute) is ∙ s.shell.attribute) (ap (λ (v : AreaState). v.from) is ∙ s.shell.from) (ap (λ (v : AreaState). v.below) is ∙ s.shell.below) (ap (λ (v : AreaState). length v.boxes) is ∙ s.shell.many) (ap (λ (v : AreaState). v.tape) is ∙ s.tape) (ap (λ (v : AreaState). v.inbox) is ∙ rest),
    )
