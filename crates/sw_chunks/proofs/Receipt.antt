-- A head receives updates.
use Rattle.std.proofs.Common.{◌≡◌, ◌<◌, ◌+◌, ◌++◌, ℕ, ℤ, zero, suc, List, [], ◌∷◌, filter, fold, map, length, get_or, take, refl, sym, ap, ◌∙◌, arith, subst, All, None, ◌⊎◌, inl, inr}
use Rattle.std.specs.List.{AllByRecursion}
use Rattle.std.proofs.lemmas.List.{append_assoc, append-nil}
use Rattle.std.proofs.lemmas.List.Elements.{All-append}
use Rattle.sw_table.specs.declared.row.Row.{Row}
use Rattle.sw_table.specs.declared.row.Update.{Update}
use Rattle.sw_table.specs.declared.row.Update.TheVariants as update
use Rattle.sw_query.specs.Scan.{cell_of}
use Rattle.sw_table.specs.Updates.{rows_of, rows_then, without}
use Rattle.sw_kernel.proofs.Members.{Mem, mem-either, mem-filtered, mem-last, mem-left}
use Rattle.sw_set.specs.Shelf.{AreReceivable, AreaState, Rises, came_in, came_then, key_of, lies_within, rows_in}
use Rattle.sw_set.proofs.Areas.After.{came-rise, rows-rise}
use Rattle.sw_set.proofs.Areas.Receiving.{all-one}
use Rattle.sw_chunks.specs.Cleared.{AreEach}
use Rattle.sw_chunks.specs.Cuts.{Interval, RiseAbove, intervals}
use Rattle.sw_chunks.specs.Heads.{AreAreasOf, CellsFit, IsSameButInbox, RowFits, StandsFor, interval_of, part_of}
use Rattle.sw_chunks.specs.Places.{IsSent, MayBeSent, find_place, owner_of, owners_of, owners_then, place_by, place_of_row, sent}
use Rattle.sw_chunks.specs.Routing.{CameHere, MayFollow, given_by, routed}
use Rattle.sw_chunks.proofs.Cutting.{one_interval}
use Rattle.sw_chunks.proofs.Fits.{live-came}
use Rattle.sw_chunks.proofs.Handed.{fold-append, handed_stands, may_be_handed}
use Rattle.sw_chunks.proofs.Routes.{came-stays, live-row, place-found, sent-routed}
use Rattle.sw_chunks.proofs.Standing.{map-alike}

get-map : {A B : Type 0} (f : A → B) (xs : List A) (k : ℕ) (d : A) (e : B) → k < length xs → get_or (map f xs) k e ≡ f (get_or xs k d)
get-map f [] k d e lt = absurd (omega (arith, lt))
get-map f (x ∷ xs) zero d e lt = refl
get-map f (x ∷ xs) (suc k) d e lt = get-map f xs k d e (omega (arith, lt))

map-length : {A B : Type 0} (f : A → B) (xs : List A) → length (map f xs) ≡ length xs
map-length f [] = refl
map-length f (x ∷ xs) = ap suc (map-length f xs)

map-two : {A B C : Type 0} (f : A → C) (g : B → C) (xs : List A) (ys : List B) → length ys ≡ length xs → ((k : ℕ) (d : A) (e : B) → k < length xs → f (get_or xs k d) ≡ g (get_or ys k e)) → map f xs ≡ map g ys
map-two f g [] [] m each = refl
map-two f g [] (y ∷ ys) m each = absurd (omega (arith, m))
map-two f g (x ∷ xs) [] m each = absurd (omega (arith, m))
map-two f g (x ∷ xs) (y ∷ ys) m each =
    ap (λ b. b ∷ map f xs) (each 0 x y (omega arith)) ∙ ap (λ l. g y ∷ l) (map-two f g xs ys (omega (arith, m)) (λ k d e lt. each (suc k) d e (omega (arith, lt))))

-- there are as many areas as intervals
pub areas-many : (a : ℕ) (cuts : List ℤ) (xs : List AreaState) → AreAreasOf a cuts xs → length xs ≡ length (intervals cuts)
areas-many a cuts xs w = sym (map-length interval_of xs) ∙ ap length w.intervals_are

-- the interval and the rows of the area at a place
its-interval : (a : ℕ) (cuts : List ℤ) (xs : List AreaState) (k : ℕ) (d : AreaState) (e : Interval) → AreAreasOf a cuts xs → k < length xs → get_or (intervals cuts) k e ≡ interval_of (get_or xs k d)
its-interval a cuts xs k d e w lt = ap (λ l. get_or l k e) (sym w.intervals_are) ∙ get-map interval_of xs k d e lt

its-rows : (us : List Update) (a : ℕ) (cuts : List ℤ) (xs : List AreaState) (k : ℕ) (d : AreaState) → AreAreasOf a cuts xs → StandsFor us a cuts xs → k < length xs → rows_in (get_or xs k d) ≡ part_of a (rows_of us) (interval_of (get_or xs k d))
its-rows us a cuts xs k d w s lt =
    let here : k < length (intervals cuts) = let m = areas-many a cuts xs w in omega (arith, lt, m) in
    sym (get-map rows_in xs k d [] lt)
    ∙ (ap (λ l. get_or l k []) s.parts
    ∙ (get-map (part_of a (rows_of us)) (intervals cuts) k (interval_of d) [] here ∙ ap (part_of a (rows_of us)) (its-interval a cuts xs k d (interval_of d) w lt)))

live-sub : (us : List Update) (r : Row) → Mem r (rows_of us) → Mem r (given_by us)
live-sub us r m = of-all (rows_of us) (live-came (λ (x : Row). Mem x (given_by us)) [] [] us (λ all. all) (all-self (given_by us))) m
  where
    all-self : (xs : List Row) → All (λ (x : Row). Mem x xs) xs
    all-self [] k d lt = absurd (omega (arith, lt))
    all-self (x ∷ xs) zero d lt = inl refl
    all-self (x ∷ xs) (suc k) d lt = inr (all-self xs k d (omega (arith, lt)))

    of-all : (xs : List Row) → All (λ (x : Row). Mem x (given_by us)) xs → Mem r xs → Mem r (given_by us)
    of-all [] h m = absurd m
    of-all (x ∷ xs) h (inl e) = subst (λ (t : Row). Mem t (given_by us)) (sym e) (h 0 x (omega arith))
    of-all (x ∷ xs) h (inr m) = of-all xs (λ k d lt. h (suc k) d (omega (arith, lt))) m

-- the rows that came by updates and by more are those that came before, with those that come by these
pub given-more : (us vs : List Update) → given_by (us ++ vs) ≡ fold came_then (given_by us) vs
given-more us vs = fold-append came_then [] us vs

-- ---- the list of rows and their areas
pub owners-more : (a : ℕ) (cuts : List ℤ) (rows : List Row) (vs : List Update) → fold (owners_then a cuts) (owners_of a cuts rows) vs ≡ owners_of a cuts (fold came_then rows vs)
owners-more a cuts rows [] = refl
owners-more a cuts rows (update.Insert r ∷ vs) = ap (λ l. fold (owners_then a cuts) l vs) (sym (map-last rows r)) ∙ owners-more a cuts (rows ++ r ∷ []) vs
  where
    map-last : (rows : List Row) (r : Row) → owners_of a cuts (rows ++ r ∷ []) ≡ owners_of a cuts rows ++ owner_of a cuts r ∷ []
    map-last [] r = refl
    map-last (x ∷ rows) r = ap (λ l. owner_of a cuts x ∷ l) (map-last rows r)
owners-more a cuts rows (update.Remove k ∷ vs) = owners-more a cuts rows vs

-- the owners that were there stand before those of rows that come
pub owners-before : (a : ℕ) (cuts : List ℤ) (os : List (ℕ × ℕ)) (vs : List Update) → take (length os) (fold (owners_then a cuts) os vs) ≡ os
owners-before a cuts os vs = let more = longer os vs in ap (take (length os)) more.1 ∙ taken os more.0
  where
    longer : (os : List (ℕ × ℕ)) (vs : List Update) → (ps : List (ℕ × ℕ)) × (fold (owners_then a cuts) os vs ≡ os ++ ps)
    longer os [] = ([], sym (append-nil os))
    longer os (update.Insert r ∷ vs) = let rest = longer (os ++ owner_of a cuts r ∷ []) vs in (owner_of a cuts r ∷ rest.0, rest.1 ∙ append_assoc os (owner_of a cuts r ∷ []) rest.0)
    longer os (update.Remove k ∷ vs) = longer os vs

    taken : (os ps : List (ℕ × ℕ)) → take (length os) (os ++ ps) ≡ os
    taken [] ps = refl
    taken (o ∷ os) ps = ap (λ l. o ∷ l) (taken os ps)

-- the owners of rows with rising keys rise by key
pub owners-rise : (a : ℕ) (cuts : List ℤ) (rows : List Row) → Rises key_of rows → Rises (λ (o : ℕ × ℕ). o.0) (owners_of a cuts rows)
owners-rise a cuts [] r = tt
owners-rise a cuts (x ∷ rows) r = (above x.key rows r.0, owners-rise a cuts rows r.1)
  where
    above : (n : ℕ) (rows : List Row) → AllByRecursion (λ (y : Row). n < y.key) rows → AllByRecursion (λ (o : ℕ × ℕ). n < o.0) (owners_of a cuts rows)
    above n [] h = tt
    above n (y ∷ rows) h = (h.0, above n rows h.1)

-- ---- what goes where
one-more : {A : Type 0} (P : A → Type 0) (x : A) (xs : List A) → P x → All P xs → All P (x ∷ xs)
one-more P x xs here rest zero d lt = here
one-more P x xs here rest (suc k) d lt = rest k d (omega (arith, lt))

sub-more : (came live : List Row) (r : Row) → ((x : Row) → Mem x live → Mem x came) → (x : Row) → Mem x (live ++ r ∷ []) → Mem x (came ++ r ∷ [])
sub-more came live r sub x m = of_side (mem-either live r x m)
  where
    of_side : Mem x live ⊎ (x ≡ r) → Mem x (came ++ r ∷ [])
    of_side (inl l) = mem-left came (r ∷ []) x (sub x l)
    of_side (inr e) = mem-last came r x e

-- every place is that of an area
within : (a : ℕ) (cuts : List ℤ) (came live : List Row) (vs : List Update) → RiseAbove None cuts → AreReceivable a None None came live vs → Rises key_of (fold came_then came vs) → ((r : Row) → Mem r live → Mem r came) → All (λ (p : ℕ). p < length (intervals cuts)) (map (place_by a cuts (owners_of a cuts (fold came_then came vs))) vs)
within a cuts came live [] rise w all_rise sub = λ k d lt. absurd (omega (arith, lt))
within a cuts came live (update.Insert r ∷ vs) rise w all_rise sub =
    let os : List (ℕ × ℕ) = owners_of a cuts (fold came_then (came ++ r ∷ []) vs) in
    one-more (λ (p : ℕ). p < length (intervals cuts)) (place_of_row a cuts r) (map (place_by a cuts os) vs) (one_interval cuts (cell_of a r) rise).0
    (within a cuts (came ++ r ∷ []) (live ++ r ∷ []) vs rise w.1 all_rise (sub-more came live r sub))
within a cuts came live (update.Remove k ∷ vs) rise w all_rise sub =
    let os : List (ℕ × ℕ) = owners_of a cuts (fold came_then came vs) in
    let found = live-row k live w.0 in
    let place : find_place k os ≡ place_of_row a cuts found.0 = ap (λ (n : ℕ). find_place n os) (sym found.2) ∙ place-found a cuts (fold came_then came vs) found.0 all_rise (came-stays came vs found.0 (sub found.0 found.1)) in
    one-more (λ (p : ℕ). p < length (intervals cuts)) (find_place k os) (map (place_by a cuts os) vs) (subst (λ (p : ℕ). p < length (intervals cuts)) (sym place) (one_interval cuts (cell_of a found.0) rise).0)
    (within a cuts came (without k live) vs rise w.1 all_rise (λ x m. sub x (mem-filtered _ live x m).0))

-- ---- all of it
pub given-rise : (us vs : List Update) (a : ℕ) → MayFollow a us vs → Rises key_of (given_by us) → Rises key_of (given_by (us ++ vs))
given-rise us vs a may rise = subst (Rises key_of) (sym (given-more us vs)) (came-rise a None None (given_by us) (rows_of us) vs may rise)

-- each update that may follow goes to the place of an area
pub all-within : (us vs : List Update) (a : ℕ) (cuts : List ℤ) (xs : List AreaState) → AreAreasOf a cuts xs → MayFollow a us vs → Rises key_of (given_by us) → All (λ (p : ℕ). p < length xs) (map (place_by a cuts (owners_of a cuts (given_by (us ++ vs)))) vs)
all-within us vs a cuts xs w may rise =
    rw (areas-many a cuts xs w, given-more us vs)
    (within a cuts (given_by us) (rows_of us) vs w.rising may (came-rise a None None (given_by us) (rows_of us) vs may rise) (live-sub us))

-- what is sent to an area is what is routed to it
sent-is : (us vs : List Update) (a : ℕ) (cuts : List ℤ) (xs : List AreaState) (k : ℕ) (d : AreaState) → AreAreasOf a cuts xs → StandsFor us a cuts xs → MayFollow a us vs → Rises key_of (given_by us) → k < length xs → sent k (map (place_by a cuts (owners_of a cuts (given_by (us ++ vs)))) vs) vs ≡ routed (lies_within a (get_or xs k d).from (get_or xs k d).below) (rows_in (get_or xs k d)) vs
sent-is us vs a cuts xs k d w s may rise lt =
    let i : Interval = interval_of (get_or xs k d) in
    let here : k < length (intervals cuts) = let m = areas-many a cuts xs w in omega (arith, lt, m) in
    ap (λ l. sent k (map (place_by a cuts (owners_of a cuts l)) vs) vs) (given-more us vs)
    ∙ (sent-routed a k cuts i (given_by us) (rows_of us) vs w.rising here (its-interval a cuts xs k d i w lt) may (came-rise a None None (given_by us) (rows_of us) vs may rise) s.rise (live-sub us)
    ∙ ap (λ l. routed (lies_within a i.0 i.1) l vs) (sym (its-rows us a cuts xs k d w s lt)))

-- the area at a place, as the laws of one area ask of it
attribute-at : (a : ℕ) (cuts : List ℤ) (xs : List AreaState) (k : ℕ) (d : AreaState) → AreAreasOf a cuts xs → k < length xs → (get_or xs k d).attribute ≡ a
attribute-at a cuts xs k d w lt = w.attributes k d lt

rows-at : (us : List Update) (a : ℕ) (cuts : List ℤ) (xs : List AreaState) (k : ℕ) (d : AreaState) → AreAreasOf a cuts xs → StandsFor us a cuts xs → k < length xs → rows_in (get_or xs k d) ≡ filter (lies_within (get_or xs k d).attribute (get_or xs k d).from (get_or xs k d).below) (rows_of us)
rows-at us a cuts xs k d w s lt = its-rows us a cuts xs k d w s lt ∙ ap (λ n. filter (lies_within n (get_or xs k d).from (get_or xs k d).below) (rows_of us)) (sym (attribute-at a cuts xs k d w lt))

-- each area may receive those of the updates that are sent to its place
pub may-be-sent : (us vs : List Update) (a : ℕ) (cuts : List ℤ) (xs : List AreaState) → AreAreasOf a cuts xs → StandsFor us a cuts xs → MayFollow a us vs → Rises key_of (given_by us) → (k : ℕ) (d : AreaState) → k < length xs → MayBeSent k (map (place_by a cuts (owners_of a cuts (given_by (us ++ vs)))) vs) vs (get_or xs k d)
may-be-sent us vs a cuts xs w s may rise k d lt =
    let x : AreaState = get_or xs k d in let e = attribute-at a cuts xs k d w lt in
    subst (AreReceivable x.attribute x.from x.below (came_in x) (rows_in x))
    (ap (λ n. routed (lies_within n x.from x.below) (rows_in x) vs) e ∙ sym (sent-is us vs a cuts xs k d w s may rise lt))
    (may_be_handed us vs x (subst (λ (n : ℕ). MayFollow n us vs) (sym e) may) (rows-at us a cuts xs k d w s lt) (s.came k d lt))

-- each area then has the rows of all updates that lie in its interval
stands-at : (us vs : List Update) (a : ℕ) (cuts : List ℤ) (xs ys : List AreaState) → AreAreasOf a cuts xs → StandsFor us a cuts xs → MayFollow a us vs → Rises key_of (given_by us) → ((k : ℕ) (d e : AreaState) → k < length xs → IsSent k (map (place_by a cuts (owners_of a cuts (given_by (us ++ vs)))) vs) vs (get_or xs k d) (get_or ys k e)) → (k : ℕ) (d e : AreaState) → k < length xs → (rows_in (get_or ys k e) ≡ filter (lies_within (get_or xs k d).attribute (get_or xs k d).from (get_or xs k d).below) (rows_of (us ++ vs))) × CameHere (given_by (us ++ vs)) (came_in (get_or ys k e))
stands-at us vs a cuts xs ys w s may rise was k d e lt =
    let x : AreaState = get_or xs k d in let y : AreaState = get_or ys k e in let q = attribute-at a cuts xs k d w lt in
    handed_stands us vs x y (subst (λ (n : ℕ). MayFollow n us vs) (sym q) may) (rows-at us a cuts xs k d w s lt) (s.came k d lt)
    (was k d e lt ∙ ap (λ l. record x { inbox = x.inbox ++ l; spare = y.spare }) (sent-is us vs a cuts xs k d w s may rise lt ∙ ap (λ n. routed (lies_within n x.from x.below) (rows_in x) vs) (sym q)))

-- areas to which updates were sent stand for all updates, and but for what waits they are as they were
pub received : (us vs : List Update) (a : ℕ) (cuts : List ℤ) (xs ys : List AreaState) → AreAreasOf a cuts xs → StandsFor us a cuts xs → MayFollow a us vs → Rises key_of (given_by us) → length ys ≡ length xs → ((k : ℕ) (d e : AreaState) → k < length xs → IsSent k (map (place_by a cuts (owners_of a cuts (given_by (us ++ vs)))) vs) vs (get_or xs k d) (get_or ys k e)) → AreAreasOf a cuts ys × StandsFor (us ++ vs) a cuts ys × AreEach IsSameButInbox xs ys
received us vs a cuts xs ys w s may rise m was = (
  record {
    attribute = w.attribute;
    rising = w.rising;
    few = w.few;
    attributes = λ k d lt. ap (λ (t : AreaState). t.attribute) (was k d d (shorter k lt)) ∙ w.attributes k d (shorter k lt);
    intervals_are = map-alike interval_of xs ys m (λ k d e lt. sym (ap interval_of (was k d e lt))) ∙ w.intervals_are;
  },
  record {
    rise = subst (Rises key_of) (sym (fold-append rows_then [] us vs)) (rows-rise a None None (given_by us) (rows_of us) vs may (λ n h. live-came (λ (r : Row). r.key < n) [] [] us (λ all. all) h) s.rise);
    parts =
        map-two rows_in (λ (x : AreaState). part_of a (rows_of (us ++ vs)) (interval_of x)) ys xs (sym m) (λ k e d lt. rows k d e (shorter k lt))
        ∙ (sym (map-map (part_of a (rows_of (us ++ vs))) interval_of xs) ∙ ap (map (part_of a (rows_of (us ++ vs)))) w.intervals_are);
    came = λ k d lt. (stands-at us vs a cuts xs ys w s may rise was k d d (shorter k lt)).1;
  },
  (m, λ k d e lt. same (get_or xs k d) (get_or ys k e) (sent k (map (place_by a cuts (owners_of a cuts (given_by (us ++ vs)))) vs) vs) (was k d e lt)),
)
  where
    shorter : (k : ℕ) → k < length ys → k < length xs
    shorter k lt = omega (arith, lt, m)

    rows : (k : ℕ) (d e : AreaState) → k < length xs → rows_in (get_or ys k e) ≡ part_of a (rows_of (us ++ vs)) (interval_of (get_or xs k d))
    rows k d e lt = (stands-at us vs a cuts xs ys w s may rise was k d e lt).0 ∙ ap (λ n. filter (lies_within n (get_or xs k d).from (get_or xs k d).below) (rows_of (us ++ vs))) (attribute-at a cuts xs k d w lt)

    map-map : {A B C : Type 0} (g : B → C) (f : A → B) (xs : List A) → map g (map f xs) ≡ map (λ x. g (f x)) xs
    map-map g f [] = refl
    map-map g f (x ∷ xs) = ap (λ l. g (f x) ∷ l) (map-map g f xs)

    same : (x y : AreaState) (l : List Update) → y ≡ record x { inbox = x.inbox ++ l; spare = y.spare } → IsSameButInbox x y
    same x y l e =
        record {
          attribute = ap (λ (t : AreaState). t.attribute) e;
          from = ap (λ (t : AreaState). t.from) e;
          below = ap (λ (t : AreaState). t.below) e;
          tape = ap (λ (t : AreaState). t.tape) e;
          boxes = ap (λ (t : AreaState). t.boxes) e;
        }

-- ---- rows of their types
pub fit-more : (us vs : List Update) (a : ℕ) → MayFollow a us vs → All (λ (u : Update). CellsFit u) vs → All RowFits (given_by us) → All RowFits (given_by (us ++ vs))
fit-more us vs a may fit h = subst (All RowFits) (sym (given-more us vs)) (go (given_by us) (rows_of us) vs may fit h)
  where
    go : (came live : List Row) (vs : List Update) → AreReceivable a None None came live vs → All (λ (u : Update). CellsFit u) vs → All RowFits came → All RowFits (fold came_then came vs)
    go came live [] w f h = h
    go came live (update.Insert r ∷ vs) w f h =
        go (came ++ r ∷ []) (live ++ r ∷ []) vs w.1 (λ k d lt. f (suc k) d (omega (arith, lt)))
        (All-append RowFits came (r ∷ []) h (all-one RowFits r (record { key = w.0.1; cells = f 0 (update.Insert r) (omega arith) })))
    go came live (update.Remove k ∷ vs) w f h = go came (without k live) vs w.1 (λ j d lt. f (suc j) d (omega (arith, lt))) h
