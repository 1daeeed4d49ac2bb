-- A head opened with rows is lawful.
use Rattle.std.proofs.Common.{◌≡◌, ◌<◌, ◌≤◌, ◌++◌, ◌^◌, ℕ, ℤ, zero, suc, List, [], ◌∷◌, fold, map, length, refl, sym, ap, ◌∙◌, arith, subst, All, None}
use Rattle.std.proofs.lemmas.List.{append_assoc, append-nil}
use Rattle.sw_table.specs.declared.row.Row.{Row}
use Rattle.sw_table.specs.declared.row.Update.{Update}
use Rattle.sw_table.specs.declared.row.Update.TheVariants as update
use Rattle.sw_query.specs.Scan.{cell_of}
use Rattle.sw_table.specs.Updates.{rows_of, rows_then}
use Rattle.sw_set.specs.Shelf.{AreaState, Rises, came_in, came_then, key_of, rows_in}
use Rattle.sw_chunks.specs.Cuts.{Interval, RiseAbove, intervals}
use Rattle.sw_chunks.specs.Heads.{AreAreasOf, HeadState, IsCell, IsHeadLawful, RowFits, StandsFor, interval_of, opened, opened_area, part_of}
use Rattle.sw_chunks.specs.Places.{owners_kept}
use Rattle.sw_chunks.specs.Routing.{CameHere, given_by}
use Rattle.sw_chunks.proofs.Dealt.{part-keys}
use Rattle.sw_chunks.specs.declared.places.TheConstants.{MOST_CUTS}

rows-after : (rows live : List Row) → fold rows_then live (map update.Insert rows) ≡ live ++ rows
rows-after [] live = sym (append-nil live)
rows-after (r ∷ rows) live = rows-after rows (live ++ r ∷ []) ∙ append_assoc live (r ∷ []) rows

came-after : (rows came : List Row) → fold came_then came (map update.Insert rows) ≡ came ++ rows
came-after [] came = sym (append-nil came)
came-after (r ∷ rows) came = came-after rows (came ++ r ∷ []) ∙ append_assoc came (r ∷ []) rows

-- rows as insertions are the rows, and no others came
pub rows-opened : (rows : List Row) → rows_of (map update.Insert rows) ≡ rows
rows-opened rows = rows-after rows []

-- the rows that came by the insertions of rows are these rows
pub given-opened : (rows : List Row) → given_by (map update.Insert rows) ≡ rows
given-opened rows = came-after rows []

all-map : (f : Interval → AreaState) (P : AreaState → Type 0) (is : List Interval) → ((i : Interval) → P (f i)) → All P (map f is)
all-map f P [] h k d lt = absurd (omega (arith, lt))
all-map f P (i ∷ is) h zero d lt = h i
all-map f P (i ∷ is) h (suc k) d lt = all-map f P is h k d (omega (arith, lt))

its-intervals : (a : ℕ) (rows : List Row) (is : List Interval) → map interval_of (map (opened_area a rows) is) ≡ is
its-intervals a rows [] = refl
its-intervals a rows (i ∷ is) = ap (λ l. i ∷ l) (its-intervals a rows is)

its-parts : (a : ℕ) (rows : List Row) (is : List Interval) → map rows_in (map (opened_area a rows) is) ≡ map (part_of a rows) is
its-parts a rows [] = refl
its-parts a rows (i ∷ is) = ap (λ l. part_of a rows i ∷ l) (its-parts a rows is)

came-here : (a : ℕ) (rows : List Row) (i : Interval) → CameHere rows (came_in (opened_area a rows i))
came-here a rows i n h = subst (λ (l : List Row). All (λ (r : Row). r.key < n) l) (sym (append-nil (part_of a rows i))) (part-keys a rows i (λ (r : Row). r.key < n) h)

-- what is asked of the rows and the cuts that a head is opened with
pub record MayOpen (a : ℕ) (cuts : List ℤ) (rows : List Row) : Type 0 where
  pub attribute : a < 8
  pub rising : RiseAbove None cuts
  pub few : length cuts ≤ MOST_CUTS
  pub keys : All (λ (r : Row). r.key < 2 ^ 63) rows
  pub rise : Rises key_of rows
  pub fit : All (λ (r : Row). (n : ℕ) → IsCell (cell_of n r)) rows

areas-opened : (a : ℕ) (cuts : List ℤ) (rows : List Row) → MayOpen a cuts rows → AreAreasOf a cuts (map (opened_area a rows) (intervals cuts))
areas-opened a cuts rows m =
    record {
      attribute = m.attribute;
      rising = m.rising;
      few = m.few;
      attributes = all-map (opened_area a rows) (λ (x : AreaState). x.attribute ≡ a) (intervals cuts) (λ i. refl);
      intervals_are = its-intervals a rows (intervals cuts);
    }

stands-opened : (a : ℕ) (cuts : List ℤ) (rows : List Row) → MayOpen a cuts rows → StandsFor (map update.Insert rows) a cuts (map (opened_area a rows) (intervals cuts))
stands-opened a cuts rows m =
    record {
      rise = subst (Rises key_of) (sym (rows-opened rows)) m.rise;
      parts = its-parts a rows (intervals cuts) ∙ ap (λ l. map (part_of a l) (intervals cuts)) (sym (rows-opened rows));
      came = all-map (opened_area a rows) (λ (x : AreaState). CameHere (given_by (map update.Insert rows)) (came_in x)) (intervals cuts) (λ i. subst (λ (l : List Row). CameHere l (came_in (opened_area a rows i))) (sym (given-opened rows)) (came-here a rows i));
    }

lawful-opened : (a : ℕ) (cuts : List ℤ) (rows : List Row) → MayOpen a cuts rows → IsHeadLawful (opened a cuts rows)
lawful-opened a cuts rows m =
    record {
      areas_of = areas-opened a cuts rows m;
      stands = stands-opened a cuts rows m;
      fit = subst (All RowFits) (sym (given-opened rows)) (λ k d lt. record { key = m.keys k d lt; cells = m.fit k d lt });
      came_rise = subst (Rises key_of) (sym (given-opened rows)) m.rise;
    }

abbrev state-of : ℕ → List ℤ → List Update → List AreaState → HeadState
state-of a cuts us xs = record { attribute = a; cuts = cuts; updates = us; areas = xs }

-- such a head, by its parts
pub head-opened : (a : ℕ) (cuts : List ℤ) (rows : List Row) (cs : List ℤ) (us : List Update) (xs : List AreaState) (os : List (ℕ × ℕ)) → MayOpen a cuts rows → cs ≡ cuts → us ≡ map update.Insert rows → xs ≡ map (opened_area a rows) (intervals cuts) → os ≡ owners_kept a cuts rows → IsHeadLawful (state-of a cs us xs) × (os ≡ owners_kept a cs (given_by us))
head-opened a cuts rows cs us xs os m ec eu ex eo = (
  subst (λ (c : List ℤ). IsHeadLawful (state-of a c us xs)) (sym ec)
      (subst (λ (u : List Update). IsHeadLawful (state-of a cuts u xs)) (sym eu)
      (subst (λ (x : List AreaState). IsHeadLawful (state-of a cuts (map update.Insert rows) x)) (sym ex) (lawful-opened a cuts rows m))),
  eo ∙ ap (λ (c : List ℤ). owners_kept a c rows) (sym ec) ∙ ap (λ (l : List Row). owners_kept a cs l) (sym (ap given_by eu ∙ given-opened rows)),
)
