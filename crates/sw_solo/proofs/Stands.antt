-- Seats beside a history that grows, and sessions that wait for nothing.
use Rattle.std.proofs.Common.{◌≡◌, ◌≢◌, ◌<◌, ◌≤◌, ◌+◌, ◌++◌, ◌∙◌, ℕ, List, [], ◌∷◌, length, take, slice_index_or, None, Result, Ok, Err, OnOk, OnErr, refl, sym, ap, subst, arith, length-append, append-nil, ⊎_elim}
use Rattle.std.proofs.lemmas.Bool.Decides.{eqb_tells, leb_tells}
use Rattle.std.proofs.lemmas.List.{take-append-le, length-map}
use Rattle.std.proofs.Math.ListN.{get_or-append}
use Rattle.std.proofs.Math.Seq.{get_or-append_seam, take-length}
use Rattle.sw_rows.specs.Header.{Column}
use Rattle.sw_table.specs.declared.row.Row.{Row}
use Rattle.sw_table.specs.declared.row.Update.{Update}
use Rattle.sw_table.specs.declared.row.Update.TheVariants as update
use Rattle.sw_lang.specs.Cuts.{CutLists}
use Rattle.sw_spine.specs.Table.{opened}
use Rattle.sw_spine.specs.Books.{Books, KeepsOthers, new_books, updates, waits_for, with_columns}
use Rattle.sw_solo.specs.Called.{AllRest, solo_of}
use Rattle.sw_solo.specs.Called.{with_columns as solo_with_columns}
use Rattle.sw_solo.specs.Seats.{AreNewSeats, AreSeated, AreTableCuts, IsSeated, SeatState, new_seat, received_or}

-- one visit leaves all others at rest
pub rest_kept : (s : ℕ) (b f : Books) → AllRest b → KeepsOthers s b f → waits_for s f ≡ None → AllRest f
rest_kept s b f all others rest k =
    ⊎_elim (λ p. subst (λ (n : ℕ). waits_for n f ≡ None) (sym p.1) rest) (λ p. others.waits k p.1 ∙ all k) (eqb_tells k s)

-- a seat stays where updates come to the history's end
seat_more : (b f : Books) (more : List Update) (k : ℕ) (s : SeatState) → f.rows ≡ b.rows → updates f ≡ updates b ++ more → IsSeated b k s → IsSeated f k s
seat_more b f more k s rows us w =
    let low : length b.rows ≤ s.taken = w.count.low in
    let high : s.taken ≤ length (updates b) = w.count.high in
    let many : length f.rows ≡ length b.rows = ap length rows in
    let longer : length (updates f) ≡ length (updates b) + length more = ap length us ∙ length-append (updates b) more in
    record {
      place_is = w.place_is;
      count = record { low = omega (arith, low, many); high = omega (arith, high, longer) };
      received = ap (λ (rs : List Row). received_or rs s) rows ∙ (w.received ∙ (sym (take-append-le s.taken (updates b) more high) ∙ ap (take s.taken) (sym us)));
    }

-- heads stand by a history with more updates
pub seats_more : (b f : Books) (more : List Update) (ss : List SeatState) → f.columns ≡ b.columns → f.rows ≡ b.rows → updates f ≡ updates b ++ more → AreSeated b ss → AreSeated f ss
seats_more b f more ss columns rows us a = record {
  many = a.many ∙ ap length (sym columns);
  each = λ k d lt. seat_more b f more k (slice_index_or ss k d) rows us (a.each k d lt);
}

-- heads stand by a history with the same updates
pub seats_same : (b f : Books) (ss : List SeatState) → f.columns ≡ b.columns → f.rows ≡ b.rows → updates f ≡ updates b → AreSeated b ss → AreSeated f ss
seats_same b f ss columns rows us a = seats_more b f [] ss columns rows (us ∙ sym (append-nil (updates b))) a

-- so do the cuts
pub cuts_same : (b f : Books) (cuts : CutLists) → f.columns ≡ b.columns → AreTableCuts b cuts → AreTableCuts f cuts
cuts_same b f cuts columns a = record {
  lists = a.lists ∙ ap length (sym columns);
  lawful = λ k lt. a.lawful k (subst (λ (cs : List Column). k < length cs) columns lt);
}

-- one new seat more
pub seats_push : (taken n : ℕ) (xs : List SeatState) (s : SeatState) → AreNewSeats taken n xs → s ≡ new_seat taken n → AreNewSeats taken (n + 1) (xs ++ s ∷ [])
seats_push taken n xs s are new =
    let many : length xs ≡ n = are.0 in
    let one : length (xs ++ s ∷ []) ≡ length xs + 1 = length-append xs (s ∷ []) in
    let last : (d : SeatState) → slice_index_or (xs ++ s ∷ []) n d ≡ new_seat taken n = λ d. ap (λ m. slice_index_or (xs ++ s ∷ []) m d) (sym many) ∙ (get_or-append_seam xs s [] d ∙ new) in (
      omega (arith, many, one),
      λ k d lt. ⊎_elim
          (λ p. let is : k ≡ n = omega (arith, p.1, lt) in subst (λ (m : ℕ). slice_index_or (xs ++ s ∷ []) m d ≡ new_seat taken m) (sym is) (last d))
          (λ p. get_or-append xs (s ∷ []) d k (omega (arith, p.1, many)) ∙ are.1 k d p.1)
          (leb_tells n k),
    )

-- new seats beside a history without entries
pub seats_new : (columns : List Column) (rows : List Row) (limit n taken : ℕ) (ss : List SeatState) → AreNewSeats taken n ss → n ≡ length columns → taken ≡ length (opened rows) → AreSeated (new_books columns rows limit) ss
seats_new columns rows limit n taken ss new many all =
    let opening : length (opened rows) ≡ length rows = length-map rows (λ r. update.Insert r) in
    let seat : (k : ℕ) → IsSeated (new_books columns rows limit) k (new_seat taken k) = λ k. record {
      place_is = refl;
      count = record { low = omega (arith, all, opening); high = omega (arith, all) };
      received = sym (ap (λ m. take m (opened rows)) all ∙ take-length (opened rows));
    } in record {
      many = new.0 ∙ many;
      each = λ k d lt. let n_is = new.0 in subst (IsSeated (new_books columns rows limit) k) (sym (new.1 k d (omega (arith, lt, n_is)))) (seat k);
    }

-- one seat of them is another
pub seat_set : (b : Books) (ss ts : List SeatState) (p : ℕ) (s : SeatState) → AreSeated b ss → length ts ≡ length ss → ((d : SeatState) → slice_index_or ts p d ≡ s) → ((k : ℕ) (d : SeatState) → k ≢ p → slice_index_or ts k d ≡ slice_index_or ss k d) → IsSeated b p s → AreSeated b ts
seat_set b ss ts p s a many here there is = record {
  many = many ∙ a.many;
  each = λ k d lt. ⊎_elim
      (λ q. subst (λ (n : ℕ). IsSeated b n (slice_index_or ts n d)) (sym q.1) (subst (IsSeated b p) (sym (here d)) is))
      (λ q. subst (IsSeated b k) (sym (there k d q.1)) (a.each k d (omega (arith, lt, many))))
      (eqb_tells k p);
}

-- ---- other texts

columns_seated : (cs : List Column) (b : Books) (ss : List SeatState) → length cs ≡ length b.columns → AreSeated b ss → AreSeated (with_columns cs b) ss
columns_seated cs b ss wide a = record {
  many = a.many ∙ sym wide;
  each = λ k d lt. let w = a.each k d lt in record { place_is = w.place_is; count = record { low = w.count.low; high = w.count.high }; received = w.received };
}

columns_cuts : (cs : List Column) (b : Books) (cuts : CutLists) → length cs ≡ length b.columns → AreTableCuts b cuts → AreTableCuts (with_columns cs b) cuts
columns_cuts cs b cuts wide a = record {
  lists = a.lists ∙ sym wide;
  lawful = λ k lt. a.lawful k (subst (λ (n : ℕ). k < n) wide lt);
}

-- what stands beside a history: heads that rest, and cuts and sessions that are its own
abbrev pub Stand : Books → List SeatState → CutLists → ℕ → Type 0
Stand b ss cuts n = AllRest b × AreSeated b ss × AreTableCuts b cuts × (n ≡ b.sessions)

-- what stands beside a history stands beside it over other texts
pub columns_stand : {A E : Type 0} (r : Result A E) (cs : List Column) (b f : Books) (ss : List SeatState) (cuts : CutLists) (n : ℕ) → OnOk r (f ≡ with_columns cs b) → OnErr r (f ≡ b)
    → length f.columns ≡ length b.columns → Stand b ss cuts n → Stand f ss cuts n
columns_stand (Ok x) cs b f ss cuts n is same wide a =
    let w : length cs ≡ length b.columns = ap (λ (x : Books). length x.columns) (sym is) ∙ wide in
    subst (λ (x : Books). Stand x ss cuts n) (sym is) (a.0, columns_seated cs b ss w a.1, columns_cuts cs b cuts w a.2, a.3)
columns_stand (Err e) cs b f ss cuts n is same wide a = subst (λ (x : Books). Stand x ss cuts n) (sym same) a

-- it stands there where the texts are others
pub columns_left : (cs : List Column) (b f : Books) (ss : List SeatState) (cuts : CutLists) (n : ℕ) → f ≡ with_columns cs b → length f.columns ≡ length b.columns → Stand b ss cuts n → Stand f ss cuts n
columns_left cs b f ss cuts n is wide a = columns_stand {A = Unit {0}} {E = Unit {0}} (Ok tt) cs b f ss cuts n is tt wide a

-- other texts of a history are those of the engine
pub solo_columns : (cs : List Column) (b f : Books) → f ≡ with_columns cs b → solo_of f ≡ solo_with_columns cs (solo_of b)
solo_columns cs b f is = ap solo_of is
