-- What merging makes of areas that are written out.
use Rattle.std.proofs.Common.{◌≡◌, ◌<◌, ◌∷◌, [], List, ℕ, zero, suc, length, get_or, true≢false, None, refl, ap, sym, subst, inl, inr, arith, ◌∙◌, All, Any}
use Rattle.std.proofs.lemmas.List.Elements.{All-from_recursion}
use Rattle.sw_table.specs.declared.row.Row.{Row}
use Rattle.sw_table.specs.declared.row.Update.TheVariants.{Insert, Remove}
use Rattle.sw_rows.specs.Examples.{four_rows}
use Rattle.sw_kernel.specs.Arrangement.{joined}
use Rattle.sw_kernel.specs.Partition.{left_part, right_part}
use Rattle.sw_kernel.specs.Replay.{Step, loaded, inserted, removed, ranged}
use Rattle.sw_map.specs.declared.tail.Tail.TheVariants.{Key, Cell}
use Rattle.sw_map.specs.Held.{Held, blank}
use Rattle.sw_map.specs.Lawful.{rows_by}
use Rattle.sw_set.specs.Merged.{IsBehind, IsMerged, LacksKeys}
use Rattle.sw_set.specs.Shelf.{AreReceivable}
use Rattle.sw_set.proofs.Areas.Boxes.{same-refl}
use Rattle.test_areas.specs.Examples.{begun_area, cleared_area, cracked_tape, fifth_row, key_map, lagging_area, lagging_map, longer_tape, mapped_area, none_refused, old_row, second_map, shorter_tape, some_refused, strayed_tape, three_rows}

-- a row that comes is logged
pub comes_merged : IsMerged none_refused (Insert fifth_row) mapped_area (record mapped_area { tape = longer_tape })
comes_merged = record { logged = λ _. (refl, refl); restarted = λ full. absurd (omega (arith, full)) }

-- a row that goes is logged at its place
pub goes_merged : IsMerged none_refused (Remove 2) mapped_area (record mapped_area { tape = shorter_tape })
unfolding left_part right_part
goes_merged = inl (
  omega arith,
  record {
    place = 0;
    tape = refl;
    within = omega arith;
    own = λ d. refl;
    maps = same-refl (key_map ∷ second_map ∷ []);
    keys = (0, key_map, omega arith, refl, record { begun = refl; tail_is = refl; at_end = refl });
  },
)

-- the place that the last of three entries removes
abbrev place_of_step : Step Row → ℕ
place_of_step (loaded rows) = 0
place_of_step (inserted row) = 0
place_of_step (removed place) = place
place_of_step (ranged lower upper) = 0

abbrev third_place : List (Step Row) → ℕ
third_place tape = place_of_step (get_or tape 2 (removed 0))

key_there : (place : ℕ) → 1 ≡ place → ((d : Row) → (get_or (joined (rows_by 0 cracked_tape)) place d).key ≡ 2) → ⊥
unfolding left_part right_part
key_there place is own =
    let no : 1 ≡ 2 = subst (λ (n : ℕ). (get_or (joined (rows_by 0 cracked_tape)) n fifth_row).key ≡ 2) (sym is) (own fifth_row) in
    absurd (omega (arith, no))

-- another place is no merge
pub another_place_refused : IsMerged some_refused (Remove 2) mapped_area (record mapped_area { tape = strayed_tape }) → ⊥
another_place_refused (inl w) = key_there w.1.place (ap third_place w.1.tape) w.1.own
another_place_refused (inr w) = let no : 3 ≡ 1 = ap length w.1.tape in absurd (omega (arith, no))

no_keys : LacksKeys cleared_area
no_keys zero d lt = λ keys. absurd (true≢false keys.0)
no_keys (suc zero) d lt = λ keys. let e : Cell 1 ≡ Key = keys.1 in cc
no_keys (suc (suc k)) d lt = absurd (omega (arith, lt))

all_blank : All (λ (m : Held). m ≡ blank) (blank ∷ blank ∷ [])
all_blank zero d lt = refl
all_blank (suc zero) d lt = refl
all_blank (suc (suc k)) d lt = absurd (omega (arith, lt))

-- without a key map the area restarts
pub restarts_merged : IsMerged none_refused (Remove 2) cleared_area begun_area
unfolding left_part right_part
restarts_merged = inr (inr (inl no_keys), record { tape = refl; boxes = all_blank })

-- with one that can tell, it may not restart
pub restart_refused : IsMerged some_refused (Remove 2) mapped_area begun_area → ⊥
restart_refused (inl w) = let no : 1 ≡ 3 = ap length w.1.tape in absurd (omega (arith, no))
restart_refused (inr (inl full, w)) = let no : 2 ≡ 4096 = full in absurd (omega (arith, no))
restart_refused (inr (inr (inl lacks), w)) = let no : 64 < 4 = lacks 0 key_map (omega arith) (refl, refl) in absurd (omega (arith, no))
restart_refused (inr (inr (inr stalled), w)) = none_behind stalled.0
  where
    none_behind : Any (IsBehind cracked_tape) (key_map ∷ second_map ∷ []) → ⊥
    none_behind (zero, m, lt, is, behind) = let no : 2 < 2 = subst (λ (v : Held). v.cursor < 2) (sym is) behind.behind in absurd (omega (arith, no))
    none_behind (suc zero, m, lt, is, behind) = let e : Cell 1 ≡ Key = ap (λ (v : Held). v.tail) is ∙ behind.tail_is in cc
    none_behind (suc (suc k), m, lt, is, behind) = absurd (omega (arith, lt))

-- nor with one that lags, where no step was refused
pub restart_refused_lagging : IsMerged none_refused (Remove 2) lagging_area begun_area → ⊥
restart_refused_lagging (inl w) = let no : 1 ≡ 3 = ap length w.1.tape in absurd (omega (arith, no))
restart_refused_lagging (inr (inl full, w)) = let no : 2 ≡ 4096 = full in absurd (omega (arith, no))
restart_refused_lagging (inr (inr (inl lacks), w)) = let no : 64 < 4 = lacks 0 lagging_map (omega arith) (refl, refl) in absurd (omega (arith, no))
restart_refused_lagging (inr (inr (inr stalled), w)) = stalled.1

-- where one was, it restarts
pub restarts_refused_step : IsMerged some_refused (Remove 2) lagging_area begun_area
unfolding left_part right_part
restarts_refused_step = inr (inr (inr ((0, lagging_map, omega arith, refl, record { begun = refl; tail_is = refl; room = omega arith; behind = omega arith }), tt)), record { tape = refl; boxes = all_blank })

-- a row that lives may go
pub removal_received : AreReceivable 0 None None four_rows four_rows (Remove 2 ∷ [])
removal_received = (refl, tt)

-- and not twice
pub removed_twice : AreReceivable 0 None None four_rows four_rows (Remove 2 ∷ Remove 2 ∷ []) → ⊥
removed_twice w = absurd (true≢false (sym w.1.0))

-- a row may come and go
pub insertion_received : AreReceivable 0 None None four_rows four_rows (Insert fifth_row ∷ Remove 5 ∷ [])
insertion_received = ((All-from_recursion (λ (c : Row). c.key < 5) four_rows (omega arith, (omega arith, (omega arith, (omega arith, tt)))), omega arith, refl), (refl, tt))

-- a key that came before may not come
pub old_key_refused : AreReceivable 0 None None four_rows three_rows (Insert old_row ∷ []) → ⊥
old_key_refused w = let no : 3 < 2 = w.0.0 2 fifth_row (omega arith) in absurd (omega (arith, no))
