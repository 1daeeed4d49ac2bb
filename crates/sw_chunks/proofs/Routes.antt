-- The updates whose place is an area's are those that are routed to it.
use Rattle.std.proofs.Common.{◌≡◌, ◌≢◌, ◌<◌, ◌+◌, ◌++◌, ◌==◌, ◌||◌, ℕ, ℤ, zero, suc, Bool, true, false, true≢false, cond, List, [], ◌∷◌, filter, fold, map, length, get_or, refl, sym, ap, ◌∙◌, arith, subst, All, None, ◌⊎◌, inl, inr}
use Rattle.std.specs.List.{AllByRecursion}
use Rattle.std.proofs.lemmas.Bool.Decides.{nat_tests}
use Rattle.std.proofs.lemmas.List.{append-nil}
use Rattle.sw_table.specs.declared.row.Row.{Row}
use Rattle.sw_table.specs.declared.row.Update.{Update}
use Rattle.sw_table.specs.declared.row.Update.TheVariants as update
use Rattle.sw_query.specs.Scan.{cell_of}
use Rattle.sw_table.specs.Updates.{has_key, without}
use Rattle.sw_kernel.proofs.Members.{Mem, all-mem, mem-either, mem-filtered, mem-last, mem-left}
use Rattle.sw_set.specs.Shelf.{AreReceivable, Rises, came_then, key_of, lies_within}
use Rattle.sw_set.proofs.Areas.Longer.{rises-last, rises-without}
use Rattle.sw_chunks.specs.Cuts.{Interval, RiseAbove, intervals}
use Rattle.sw_chunks.specs.Places.{find_place, owners_of, place_by, place_of_row, sent}
use Rattle.sw_chunks.specs.Routing.{routed}
use Rattle.sw_chunks.proofs.Cutting.{one_interval}
use Rattle.sw_table.proofs.LiveLaws.{without-none}
use Rattle.sw_chunks.proofs.Routed.{filter-push, filter-without}

-- ---- the place beside a row's key
same-key : (j k : ℕ) → j ≡ k → (j == k) ≡ true
same-key j k e = grind (arith, nat_tests, e)

other-key : (j k : ℕ) → j < k → (j == k) ≡ false
other-key j k lt = grind (arith, nat_tests, lt)

other-key-up : (j k : ℕ) → j < k → (k == j) ≡ false
other-key-up j k lt = grind (arith, nat_tests, lt)

turned : (j k : ℕ) → (j == k) ≡ (k == j)
turned j k = grind (arith, nat_tests)

-- among rows with rising keys the place to be found for a row's key is that of the row
pub place-found : (a : ℕ) (cuts : List ℤ) (rows : List Row) (r : Row) → Rises key_of rows → Mem r rows → find_place r.key (owners_of a cuts rows) ≡ place_of_row a cuts r
place-found a cuts [] r rise m = absurd m
place-found a cuts (x ∷ rows) r rise (inl e) = rw (same-key x.key r.key (ap key_of (sym e))) (ap (place_of_row a cuts) (sym e))
place-found a cuts (x ∷ rows) r rise (inr m) = rw (other-key x.key r.key (all-mem (λ (y : Row). x.key < y.key) rows r rise.0 m)) (place-found a cuts rows r rise.1 m)

-- ---- whether a part has a row of the key
none-has : (p : Row → Bool) (k : ℕ) (rows : List Row) → AllByRecursion (λ (y : Row). k < y.key) rows → has_key k (filter p rows) ≡ false
none-has p k [] h = refl
none-has p k (x ∷ rows) h = by (p x) (none-has p k rows h.1)
  where
    by : (b : Bool) → has_key k (filter p rows) ≡ false → has_key k (cond b (x ∷ filter p rows) (filter p rows)) ≡ false
    by true rest = rw (other-key k x.key h.0) rest
    by false rest = rest

has-part : (p : Row → Bool) (rows : List Row) (r : Row) → Rises key_of rows → Mem r rows → has_key r.key (filter p rows) ≡ p r
has-part p [] r rise m = absurd m
has-part p (x ∷ rows) r rise (inl e) = by (p x) refl
  where
    by : (b : Bool) → p x ≡ b → has_key r.key (filter p (x ∷ rows)) ≡ p r
    by true q = rw q (rw (same-key r.key x.key (ap key_of e)) (sym (ap p e ∙ q)))
    by false q = rw q (ap (λ (k : ℕ). has_key k (filter p rows)) (ap key_of e) ∙ (none-has p x.key rows rise.0 ∙ sym (ap p e ∙ q)))
has-part p (x ∷ rows) r rise (inr m) = by (p x) refl (has-part p rows r rise.1 m)
  where
    above : x.key < r.key
    above = all-mem (λ (y : Row). x.key < y.key) rows r rise.0 m

    by : (b : Bool) → p x ≡ b → has_key r.key (filter p rows) ≡ p r → has_key r.key (filter p (x ∷ rows)) ≡ p r
    by true q rest = rw q (rw (other-key-up x.key r.key above) rest)
    by false q rest = rw q rest

-- a key that rows have is that of one of them
pub live-row : (k : ℕ) (rows : List Row) → has_key k rows ≡ true → (r : Row) × Mem r rows × (r.key ≡ k)
live-row k [] h = absurd (true≢false (sym h))
live-row k (x ∷ rows) h = by (k == x.key) refl (live-row k rows)
  where
    same : (j k : ℕ) → (j == k) ≡ true → k ≡ j
    same j k q = grind (arith, nat_tests, q)

    by : (b : Bool) → (k == x.key) ≡ b → (has_key k rows ≡ true → (r : Row) × Mem r rows × (r.key ≡ k)) → (r : Row) × Mem r (x ∷ rows) × (r.key ≡ k)
    by true q more = (x, inl refl, same k x.key q)
    by false q more = let rest = more (sym (ap (λ t. t || has_key k rows) q) ∙ h) in (rest.0, inr rest.1, rest.2)

-- ---- rows that came stay among those that came
pub came-stays : (came : List Row) (us : List Update) (r : Row) → Mem r came → Mem r (fold came_then came us)
came-stays came [] r m = m
came-stays came (update.Insert x ∷ us) r m = came-stays (came ++ x ∷ []) us r (mem-left came (x ∷ []) r m)
came-stays came (update.Remove k ∷ us) r m = came-stays came us r m

all-of-mem : (n : ℕ) (came live : List Row) → ((r : Row) → Mem r live → Mem r came) → All (λ (r : Row). r.key < n) came → All (λ (r : Row). r.key < n) live
all-of-mem n came live sub h = λ k d lt. below came h (get_or live k d) (sub (get_or live k d) (at live k d lt))
  where
    at : (xs : List Row) (k : ℕ) (d : Row) → k < length xs → Mem (get_or xs k d) xs
    at [] k d lt = absurd (omega (arith, lt))
    at (x ∷ xs) zero d lt = inl refl
    at (x ∷ xs) (suc k) d lt = inr (at xs k d (omega (arith, lt)))

    below : (xs : List Row) → All (λ (r : Row). r.key < n) xs → (r : Row) → Mem r xs → r.key < n
    below [] h r m = absurd m
    below (x ∷ xs) h r (inl e) = subst (λ (t : Row). t.key < n) (sym e) (h 0 x (omega arith))
    below (x ∷ xs) h r (inr m) = below xs (λ k d lt. h (suc k) d (omega (arith, lt))) r m

-- the updates that are sent to an interval's place are those that are routed to its rows
pub sent-routed : (a j : ℕ) (cuts : List ℤ) (i : Interval) (came live : List Row) (vs : List Update) → RiseAbove None cuts → j < length (intervals cuts) → get_or (intervals cuts) j i ≡ i → AreReceivable a None None came live vs → Rises key_of (fold came_then came vs) → Rises key_of live → ((r : Row) → Mem r live → Mem r came) → sent j (map (place_by a cuts (owners_of a cuts (fold came_then came vs))) vs) vs ≡ routed (lies_within a i.0 i.1) (filter (lies_within a i.0 i.1) live) vs
sent-routed a j cuts i came live [] rise lt at w all_rise live_rise sub = refl
sent-routed a j cuts i came live (update.Insert r ∷ vs) rise lt at w all_rise live_rise sub = by (lies_within a i.0 i.1 r) refl
    (sent-routed a j cuts i (came ++ r ∷ []) (live ++ r ∷ []) vs rise lt at w.1 all_rise (rises-last key_of live r live_rise (all-of-mem r.key came live sub w.0.0)) sub_more)
  where
    P : Row → Bool
    P = lies_within a i.0 i.1

    os : List (ℕ × ℕ)
    os = owners_of a cuts (fold came_then (came ++ r ∷ []) vs)

    sub_more : (x : Row) → Mem x (live ++ r ∷ []) → Mem x (came ++ r ∷ [])
    sub_more x m = of_side (mem-either live r x m)
      where
        of_side : Mem x live ⊎ (x ≡ r) → Mem x (came ++ r ∷ [])
        of_side (inl l) = mem-left came (r ∷ []) x (sub x l)
        of_side (inr e) = mem-last came r x e

    here : P r ≡ (place_of_row a cuts r == j)
    here = ap (λ (t : Interval). lies_within a t.0 t.1 r) (sym at) ∙ (((one_interval cuts (cell_of a r) rise).1 j i lt) ∙ turned j (place_of_row a cuts r))

    by : (b : Bool) → P r ≡ b → sent j (map (place_by a cuts os) vs) vs ≡ routed P (filter P (live ++ r ∷ [])) vs → sent j (map (place_by a cuts os) (update.Insert r ∷ vs)) (update.Insert r ∷ vs) ≡ routed P (filter P live) (update.Insert r ∷ vs)
    by true q rest =
        rw (q, sym here ∙ q) (ap (λ l. update.Insert r ∷ l) (rest ∙ ap (λ l. routed P l vs) (filter-push P live r ∙ ap (λ b. filter P live ++ cond b (r ∷ []) []) q)))
    by false q rest =
        rw (q, sym here ∙ q) (rest ∙ ap (λ l. routed P l vs) (filter-push P live r ∙ (ap (λ b. filter P live ++ cond b (r ∷ []) []) q ∙ append-nil (filter P live))))
sent-routed a j cuts i came live (update.Remove k ∷ vs) rise lt at w all_rise live_rise sub = by (has_key k (filter P live)) refl
    (sent-routed a j cuts i came (without k live) vs rise lt at w.1 all_rise (rises-without k live live_rise) (λ x m. sub x (mem-filtered _ live x m).0))
  where
    P : Row → Bool
    P = lies_within a i.0 i.1

    os : List (ℕ × ℕ)
    os = owners_of a cuts (fold came_then came vs)

    found : (r : Row) × Mem r live × (r.key ≡ k)
    found = live-row k live w.0

    place : find_place k os ≡ place_of_row a cuts found.0
    place = ap (λ (n : ℕ). find_place n os) (sym found.2) ∙ place-found a cuts (fold came_then came vs) found.0 all_rise (came-stays came vs found.0 (sub found.0 found.1))

    here : has_key k (filter P live) ≡ (find_place k os == j)
    here =
        ap (λ (n : ℕ). has_key n (filter P live)) (sym found.2)
        ∙ (has-part P live found.0 live_rise found.1
        ∙ (ap (λ (t : Interval). lies_within a t.0 t.1 found.0) (sym at)
        ∙ ((one_interval cuts (cell_of a found.0) rise).1 j i lt
        ∙ (turned j (place_of_row a cuts found.0) ∙ ap (λ (n : ℕ). n == j) (sym place)))))

    by : (b : Bool) → has_key k (filter P live) ≡ b → sent j (map (place_by a cuts os) vs) vs ≡ routed P (filter P (without k live)) vs → sent j (map (place_by a cuts os) (update.Remove k ∷ vs)) (update.Remove k ∷ vs) ≡ routed P (filter P live) (update.Remove k ∷ vs)
    by true q rest = rw (q, sym here ∙ q) (ap (λ l. update.Remove k ∷ l) (rest ∙ ap (λ l. routed P l vs) (filter-without P k live)))
    by false q rest = rw (q, sym here ∙ q) (rest ∙ ap (λ l. routed P l vs) (filter-without P k live ∙ without-none k (filter P live) q))
