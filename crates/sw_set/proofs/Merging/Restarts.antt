-- Areas that are begun anew, or have one entry more, as merging wants them.
use Rattle.std.proofs.Common.{◌≡◌, ℕ, ◌<◌, List, [], ◌∷◌, ◌++◌, fold, length, get_or, refl, ap, sym, ◌∙◌, arith, subst, Any, Result, Ok, Err, MatchResult, true, false}
use Rattle.std.proofs.lemmas.List.{append-nil}
use Rattle.sw_table.specs.declared.row.Row.{Row}
use Rattle.sw_table.specs.declared.row.Update.{Update}
use Rattle.sw_table.specs.declared.row.Update.TheVariants.{Insert, Remove}
use Rattle.sw_query.specs.declared.refusal.Refusal.{Refusal}
use Rattle.sw_query.specs.declared.refusal.Refusal.TheVariants.{NoMemory}
use Rattle.sw_table.specs.Updates.{rows_then}
use Rattle.sw_kernel.specs.Arrangement.{joined}
use Rattle.sw_kernel.specs.Replay.{Step, loaded, inserted, removed}
use Rattle.sw_kernel.specs.Tapes.{brought}
use Rattle.sw_map.specs.declared.tail.Tail.TheVariants.{Key}
use Rattle.sw_map.specs.Held.{Held}
use Rattle.sw_map.specs.Lawful.{rows_by}
use Rattle.sw_set.specs.Merged.{IsBegunWithInbox, IsBegunAnew, IsRemovalLogged, IsSameShell, MustBegin, StandsForSame}
use Rattle.sw_set.specs.Merging.{IsLogged, IsLoggedOrNot, IsSameTape}
use Rattle.sw_set.specs.Prepared.{IsReady}
use Rattle.sw_set.specs.Boxed.{IsSameButBoxes}
use Rattle.sw_set.specs.Shelf.{AreaState, IsSameArea, came_then, logged_rows, rows_in}
use Rattle.sw_set.specs.Aligned.{AreSameMaps}
use Rattle.sw_set.proofs.Areas.Boxes.{same-refl, same-trans}
use Rattle.sw_set.proofs.Areas.Longer.{all-without, logged-all}
use Rattle.sw_set.proofs.Merging.Merges.{logged-at, shell-refl, shell-trans}
use Rattle.sw_set.proofs.Preparing.Noting.{same-area}
use Rattle.sw_set.proofs.Areas.Receiving.{IsBelow, brings-less, less-then}
use Rattle.sw_set.proofs.Areas.Views.{any-at}

-- ---- begun anew with the live rows
begun-same : (x y : AreaState) → IsSameShell x y → IsBegunAnew (logged_rows x.attribute x.tape) y → IsSameArea x y
begun-same x y s w = record {
  attribute = s.attribute;
  from = s.from;
  below = s.below;
  inbox = s.inbox;
  spare = s.spare;
  logged = logged-at x.attribute y.attribute (loaded (logged_rows x.attribute x.tape) ∷ []) y.tape s.attribute w.tape;
  many = s.many;
  brings = brings-less x y s.inbox (λ n h. subst (IsBelow n) (sym (ap brought w.tape ∙ append-nil (logged_rows x.attribute x.tape))) (logged-all (λ (r : Row). r.key < n) x.attribute x.tape h));
}

-- an area that was to begin anew with its live rows stands for the same rows, whether it did or not
pub restarted-same : {U : Type 0} (r : Result U Refusal) (rows : List Row) (x y : AreaState) → rows ≡ logged_rows x.attribute x.tape → MatchResult r (λ _. IsSameShell x y × IsBegunAnew rows y) (λ e. (y ≡ x) × (e ≡ NoMemory)) → IsSameArea x y
restarted-same (Ok u) rows x y are w = begun-same x y w.0 (subst (λ (v : List Row). IsBegunAnew v y) are w.1)
restarted-same (Err e) rows x y are w = subst (IsSameArea x) (sym w.0) (same-area x)

-- an area begun anew with its live rows has one load of them; or it is as it was, for want of memory
pub restarted-tape : {U : Type 0} (r : Result U Refusal) (rows : List Row) (x y : AreaState) → rows ≡ logged_rows x.attribute x.tape → MatchResult r (λ _. IsSameShell x y × IsBegunAnew rows y) (λ e. (y ≡ x) × (e ≡ NoMemory)) → MatchResult r (λ _. y.tape ≡ loaded (logged_rows x.attribute x.tape) ∷ []) (λ e. (y ≡ x) × (e ≡ NoMemory))
restarted-tape (Ok u) rows x y are w = w.1.tape ∙ ap (λ (v : List Row). loaded v ∷ []) are
restarted-tape (Err e) rows x y are w = w

-- ---- begun anew with all that waits
-- the live rows are among those that came, and so after any updates
rows-less : (came live : List Row) (us : List Update) → ((n : ℕ) → IsBelow n came → IsBelow n live) → (n : ℕ) → IsBelow n (fold came_then came us) → IsBelow n (fold rows_then live us)
rows-less came live [] less = less
rows-less came live (Insert r ∷ us) less = rows-less (came ++ r ∷ []) (live ++ r ∷ []) us (less-then came live (Insert r) less)
rows-less came live (Remove k ∷ us) less = rows-less came (rows_then live (Remove k)) us (λ n h. all-without (λ (r : Row). r.key < n) k live (less n h))

-- an area begun anew with all that waited stands for the same rows
pub inbox-begun : (x y : AreaState) → IsBegunWithInbox x y → StandsForSame x y
inbox-begun x y w = record {
  attribute = w.shell.attribute;
  from = w.shell.from;
  below = w.shell.below;
  rows = ap (fold rows_then (logged_rows y.attribute y.tape)) w.shell.inbox ∙ logged-at x.attribute y.attribute (loaded (rows_in x) ∷ []) y.tape w.shell.attribute w.begun.tape;
  many = w.shell.many;
  brings = λ n h. subst (IsBelow n) (sym came) (rows-less (brought x.tape) (logged_rows x.attribute x.tape) x.inbox (λ m all. logged-all (λ (r : Row). r.key < m) x.attribute x.tape all) n h);
}
  where
    came : fold came_then (brought y.tape) y.inbox ≡ rows_in x
    came = ap (fold came_then (brought y.tape)) w.shell.inbox ∙ ap brought w.begun.tape ∙ append-nil (rows_in x)

-- ---- an update is logged, or has the area begun anew
shell-same : (x y : AreaState) → y ≡ x → IsSameShell x y
shell-same x y is = subst (IsSameShell x) (sym is) (shell-refl x)

maps-same : (x y : AreaState) → y ≡ x → AreSameMaps x.boxes y.boxes
maps-same x y is = subst (AreSameMaps x.boxes) (sym (ap (λ (v : AreaState). v.boxes) is)) (same-refl x.boxes)

-- an area that did not change is the same but for how far its maps have gone
pub tape-same : (x y : AreaState) → y ≡ x → IsSameTape x y
tape-same x y is = record { shell = shell-same x y is; tape = ap (λ (v : AreaState). v.tape) is; maps = maps-same x y is }

-- the boxes alone changed
pub tape-but_boxes : (x m : AreaState) → IsSameButBoxes x m → AreSameMaps x.boxes m.boxes → IsSameTape x m
tape-but_boxes x m p maps =
    let many = maps.many in
    record {
      shell = record { attribute = p.attribute; from = p.from; below = p.below; inbox = p.inbox; spare = p.spare; many = many };
      tape = p.tape;
      maps = maps;
    }

maps-after : (ms ns os : List Held) → AreSameMaps ms ns → AreSameMaps ns os → AreSameMaps ms os
maps-after ms ns os p q =
    let one = p.many in
    record { many = q.many ∙ p.many; each = λ k d e lt. same-trans _ _ _ (p.each k d d lt) (q.each k d e (omega (arith, one, lt))) }

-- being the same area but for how far its maps have gone is transitive
pub tape-after : (x m y : AreaState) → IsSameTape x m → IsSameTape m y → IsSameTape x y
tape-after x m y p q = record { shell = shell-trans x m y p.shell q.shell; tape = q.tape ∙ p.tape; maps = maps-after x.boxes m.boxes y.boxes p.maps q.maps }

-- where an update must have the area begun anew and the tape is the same, it is told as not logged
pub not-logged : {S : List (Step Row) → Type 0} (u : Update) (x y : AreaState) → MustBegin S u x → IsSameTape x y → IsLoggedOrNot S u x y (Ok false)
not-logged {S} u x y must same = record { shell = same.shell; ends = (must, same) }

was-logged : {S : List (Step Row) → Type 0} (u : Update) (x y : AreaState) → IsSameShell x y → IsLogged u x y → IsLoggedOrNot S u x y (Ok true)
was-logged {S} u x y shell logged = record { shell = shell; ends = logged }

-- where there was no memory and the tape is the same, a refusal is told of an update
pub not-told : {S : List (Step Row) → Type 0} (u : Update) (x y : AreaState) (e : Refusal) → e ≡ NoMemory → IsSameTape x y → IsLoggedOrNot S u x y (Err e)
not-told {S} u x y e is same = record { shell = same.shell; ends = (is, same) }

-- a row that comes
pub insertion-logged : {S : List (Step Row) → Type 0} (row : Row) (x y : AreaState) → length x.tape < 4096 → y ≡ record x { tape = x.tape ++ inserted row ∷ [] } → IsLoggedOrNot S (Insert row) x y (Ok true)
insertion-logged {S} row x y room is =
    was-logged (Insert row) x y (subst (IsSameShell x) (sym is) (record { attribute = refl; from = refl; below = refl; inbox = refl; spare = refl; many = refl }))
    (room, ap (λ (v : AreaState). v.tape) is, ap (λ (v : AreaState). v.boxes) is)

-- a row that goes
pub removal-logged : {U : Type 0} (r : Result U Refusal) (key place at : ℕ) (x y : AreaState) → place < length (joined (rows_by x.attribute x.tape)) → ((d : Row) → (get_or (joined (rows_by x.attribute x.tape)) place d).key ≡ key) → at < length x.boxes → ((d : Held) → IsReady Key x.tape (get_or x.boxes at d)) → MatchResult r (λ _. y ≡ record x { tape = x.tape ++ removed place ∷ [] }) (λ e. (y ≡ x) × (e ≡ NoMemory)) →
    IsSameShell x y × MatchResult r (λ _. IsRemovalLogged key x y) (λ e. (y ≡ x) × (e ≡ NoMemory))
removal-logged (Ok u) key place at x y within own lt ready is = (
  subst (IsSameShell x) (sym is) (record { attribute = refl; from = refl; below = refl; inbox = refl; spare = refl; many = refl }),
  record {
    place = place;
    tape = ap (λ (v : AreaState). v.tape) is;
    within = within;
    own = own;
    maps = subst (AreSameMaps x.boxes) (sym (ap (λ (v : AreaState). v.boxes) is)) (same-refl x.boxes);
    keys = subst (Any (IsReady Key x.tape)) (sym (ap (λ (v : AreaState). v.boxes) is)) (any-at x.boxes at (IsReady Key x.tape) lt ready);
  },
)
removal-logged (Err e) key place at x y within own lt ready is = (shell-same x y is.0, is)

-- after the key map was stepped to the end
pub removal-after : {S : List (Step Row) → Type 0} (key : ℕ) (x m y : AreaState) → length x.tape < 4096 → IsSameButBoxes x m → AreSameMaps x.boxes m.boxes → IsSameShell m y → IsRemovalLogged key m y → IsLoggedOrNot S (Remove key) x y (Ok true)
removal-after {S} key x m y room p maps s w =
    was-logged (Remove key) x y (shell-trans x m y (tape-but_boxes x m p maps).shell s) (
      room,
      record {
        place = w.place;
        tape = w.tape ∙ ap (λ (t : List (Step Row)). t ++ removed w.place ∷ []) p.tape;
        within = subst (λ (a : ℕ). w.place < length (joined (rows_by a x.tape))) p.attribute (subst (λ (t : List (Step Row)). w.place < length (joined (rows_by m.attribute t))) p.tape w.within);
        own = λ d. subst (λ (a : ℕ). (get_or (joined (rows_by a x.tape)) w.place d).key ≡ key) p.attribute (subst (λ (t : List (Step Row)). (get_or (joined (rows_by m.attribute t)) w.place d).key ≡ key) p.tape (w.own d));
        maps = maps-after x.boxes m.boxes y.boxes maps w.maps;
        keys = subst (λ (t : List (Step Row)). Any (IsReady Key t) y.boxes) p.tape w.keys;
      },
    )
