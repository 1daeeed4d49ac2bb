-- What is read of a table, and what the table writes.
use Rattle.std.proofs.Common.{◌≡◌, ◌∙◌, ap, sym, refl, ℕ, ℤ, ◌+◌, ◌<◌, ◌≤◌, min, List, [], ◌∷◌, ◌++◌, length, Option, Some, None, Ok, Err, nat_lt, nat_eq, arith, append-nil, append_assoc, length-append, ltb-false, ltb-true, eqb-true, subst}
use Rattle.std.proofs.lemmas.Bool.{cond-true, cond-false, le-ltb, lt-ltb, eq-eqb}
use Rattle.csv.specs.Reading.{default_config, records, strip_bom}
use Rattle.sw_rows.specs.Cells.{cell_value}
use Rattle.sw_rows.specs.Header.{Column, Fault, bad_table, too_many, header_of, kinds_of}
use Rattle.sw_rows.specs.Spelling.{WriteCells, WriteRows, WritesTable}
use Rattle.sw_rows.specs.Tables.{Table, ◌>>=◌, bytes_within, cells_after, cells_of, fault_at, or_bad, seeing, table_with, padded, row_of, rows_after, table_in, table_of, table_of_records, then_padded}
use Rattle.sw_rows.specs.Domains.{Domain}
use Rattle.sw_rows.specs.declared.loading.TheConstants.{MOST_BYTES}
use Rattle.sw_rows.specs.declared.table.TheConstants.{MOST_ROWS}
use Rattle.sw_table.specs.declared.row.Row.{Row}
use Rattle.sw_rows.proofs.Tables.CellSpelling.{cell_spelled, cell_read_back}
use Rattle.sw_rows.proofs.Schemas.HeaderSpelling.{header_spelled, header_read_back}
use Rattle.sw_rows.proofs.Options.{err-ok, if_ok, same_Ok, then_ok, unless_ok}

-- ---- the cells of a record

abbrev CellsFrom : List ℤ → List Domain → List (List ℕ) → List ℤ → Type 0
CellsFrom done ks ts all = (zs : List ℤ) × (all ≡ done ++ zs) × WriteCells ks ts zs

-- fields that are read as further cells write these
pub cells_more : (rec : ℕ) (done : List ℤ) (ks : List Domain) (ts : List (List ℕ)) (all : List ℤ) → length ts ≡ length ks → cells_after rec done ks ts ≡ Ok all → CellsFrom done ks ts all
cells_more rec done [] [] all e h = ([], sym (same_Ok done all h) ∙ sym (append-nil done), tt)
cells_more rec done [] (t ∷ ts) all e h = absurd (omega arith)
cells_more rec done (k ∷ ks) [] all e h = absurd (omega arith)
cells_more rec done (k ∷ ks) (t ∷ ts) all e h = by_cell (fault_at rec (length done + 1) k t) (cell_value k t) refl (λ z. cells_more rec (done ++ z ∷ []) ks ts all (omega arith)) h
  where
    by_cell : (fault : Fault) (o : Option ℤ) → cell_value k t ≡ o → ((z : ℤ) → cells_after rec (done ++ z ∷ []) ks ts ≡ Ok all → CellsFrom (done ++ z ∷ []) ks ts all) → or_bad fault o (λ z. cells_after rec (done ++ z ∷ []) ks ts) ≡ Ok all → CellsFrom done (k ∷ ks) (t ∷ ts) all
    by_cell fault None q go r = absurd (err-ok fault all r)
    by_cell fault (Some z) q go r =
        let rest = go z r in
        (z ∷ rest.0, rest.1 ∙ append_assoc done (z ∷ []) rest.0, (cell_spelled k t z q, rest.2))

-- fields that write further cells are read as these
pub cells_again : (rec : ℕ) (done : List ℤ) (ks : List Domain) (ts : List (List ℕ)) (zs : List ℤ) → WriteCells ks ts zs → (length ts ≡ length ks) × (cells_after rec done ks ts ≡ Ok (done ++ zs))
cells_again rec done [] [] [] w = (refl, ap (λ (zs : List ℤ). Ok zs) (sym (append-nil done)))
cells_again rec done [] [] (z ∷ zs) w = absurd w
cells_again rec done [] (t ∷ ts) zs w = absurd w
cells_again rec done (k ∷ ks) [] zs w = absurd w
cells_again rec done (k ∷ ks) (t ∷ ts) [] w = absurd w
cells_again rec done (k ∷ ks) (t ∷ ts) (z ∷ zs) w =
    let rest = cells_again rec (done ++ z ∷ []) ks ts zs w.1 in
    let long = rest.0 in
    (omega arith, ap (λ o. or_bad (fault_at rec (length done + 1) k t) o (λ y. cells_after rec (done ++ y ∷ []) ks ts)) (cell_read_back k t z w.0) ∙ rest.1 ∙ ap (λ (ys : List ℤ). Ok ys) (append_assoc done (z ∷ []) zs))

-- ---- rows

row_found : (n : ℕ) (ks : List Domain) (t : List (List ℕ)) (cells : List ℤ) → then_padded (cells_of n ks t) ≡ Ok cells → (zs : List ℤ) × WriteCells ks t zs × (cells ≡ padded zs)
row_found n ks t cells h =
    let step = then_ok (cells_of n ks t) (λ zs. Ok (padded zs)) cells h in
    let long = if_ok (nat_eq (length t) (length ks)) (cells_after n [] ks t) (bad_table n (min (length t) (length ks) + 1)) step.0 step.1 in
    let found = cells_more n [] ks t step.0 (eqb-true (length t) (length ks) long.0) long.1 in
    (step.0, subst (WriteCells ks t) (sym found.1) found.2, sym (same_Ok (padded step.0) cells step.2))

row_again : (n : ℕ) (ks : List Domain) (t : List (List ℕ)) (zs : List ℤ) → WriteCells ks t zs → then_padded (cells_of n ks t) ≡ Ok (padded zs)
row_again n ks t zs w =
    let again = cells_again n [] ks t zs w in
    ap then_padded (cond-true (nat_eq (length t) (length ks)) (cells_after n [] ks t) (Err (bad_table n (min (length t) (length ks) + 1))) (eq-eqb (length t) (length ks) again.0) ∙ again.1)

-- records that are read as further rows write these
pub rows_more : (ks : List Domain) (done : List Row) (ts : List (List (List ℕ))) (all : List Row) → length done ≤ MOST_ROWS → rows_after ks done ts ≡ Ok all → (rs : List Row) × (all ≡ done ++ rs) × WriteRows ks (length done + 1) ts rs × (length done + length ts ≤ MOST_ROWS)
rows_more ks done [] all few h = ([], sym (same_Ok done all h) ∙ sym (append-nil done), tt, omega arith)
rows_more ks done (t ∷ ts) all few h =
    let fits = if_ok (nat_lt (length done) MOST_ROWS) (then_padded (cells_of (length done + 1) ks t) >>= λ cells. rows_after ks (done ++ row_of (length done + 1) cells ∷ []) ts) (too_many MOST_ROWS) all h in
    let step = then_ok (then_padded (cells_of (length done + 1) ks t)) (λ cells. rows_after ks (done ++ row_of (length done + 1) cells ∷ []) ts) all fits.1 in
    let row = row_found (length done + 1) ks t step.0 step.1 in
    let r : Row = row_of (length done + 1) step.0 in
    let longer : length (done ++ r ∷ []) ≡ length done + 1 = length-append done (r ∷ []) in
    let below : length done < MOST_ROWS = ltb-true (length done) MOST_ROWS fits.0 in
    let rest = rows_more ks (done ++ r ∷ []) ts all (omega arith) step.2 in
    let sum = rest.3 in (
      r ∷ rest.0,
      rest.1 ∙ append_assoc done (r ∷ []) rest.0,
      ((row.0, row.1, ap (row_of (length done + 1)) row.2), subst (λ n. WriteRows ks (n + 1) ts rest.0) longer rest.2),
      omega arith,
    )

-- records that write further rows are read as these
pub rows_again : (ks : List Domain) (done : List Row) (ts : List (List (List ℕ))) (rs : List Row) → length done + length ts ≤ MOST_ROWS → WriteRows ks (length done + 1) ts rs → rows_after ks done ts ≡ Ok (done ++ rs)
rows_again ks done [] [] few w = ap (λ (rs : List Row). Ok rs) (sym (append-nil done))
rows_again ks done [] (r ∷ rs) few w = absurd w
rows_again ks done (t ∷ ts) [] few w = absurd w
rows_again ks done (t ∷ ts) (r ∷ rs) few w =
    let row = w.0 in
    let made : Row = row_of (length done + 1) (padded row.0) in
    let longer : length (done ++ made ∷ []) ≡ length done + 1 = length-append done (made ∷ []) in
    let more = λ (cells : List ℤ). rows_after ks (done ++ row_of (length done + 1) cells ∷ []) ts in
    cond-true (nat_lt (length done) MOST_ROWS) (then_padded (cells_of (length done + 1) ks t) >>= more) (Err (too_many MOST_ROWS)) (lt-ltb (length done) MOST_ROWS (omega arith))
    ∙ ap (λ read. read >>= more) (row_again (length done + 1) ks t row.0 row.1)
    ∙ rows_again ks (done ++ made ∷ []) ts rs (omega arith) (subst (λ n. WriteRows ks (n + 1) ts rs) (sym longer) w.1)
    ∙ ap (λ (all : List Row). Ok all) (append_assoc done (made ∷ []) rs ∙ ap (λ x. done ++ x ∷ rs) (sym row.2))

-- ---- tables

records_spelled : (bytes : List ℕ) (rs : List (List (List ℕ))) (t : Table) → length bytes ≤ MOST_BYTES → records default_config (strip_bom bytes) ≡ rs → table_of_records rs ≡ Ok t → WritesTable bytes t
records_spelled bytes [] t few e k = absurd (err-ok (bad_table 0 0) t k)
records_spelled bytes (h ∷ rs) t few e k =
    let head = then_ok (header_of h) (λ columns. table_with (seeing columns rs) rs) t k in
    let columns : List Column = seeing head.0 rs in
    let body = then_ok (rows_after (kinds_of columns) [] rs) (λ rows. Ok (record { columns = columns; rows = rows })) t head.2 in
    let made : Table = record { columns = columns; rows = body.0 } in
    let same : made ≡ t = same_Ok made t body.2 in
    let found = rows_more (kinds_of columns) [] rs body.0 (omega arith) body.1 in
    let count = found.3 in
    subst (WritesTable bytes) same (record {
      few_bytes = few;
      header = h;
      others = rs;
      split = e;
      named = head.0;
      header_is = header_spelled h head.0 head.1;
      columns_are = refl;
      few_rows = omega arith;
      rows_are = subst (WriteRows (kinds_of columns) 1 rs) (sym found.1) found.2;
    })

-- bytes that are read as a table write it
pub table_spelled : (bytes : List ℕ) (t : Table) → table_of bytes ≡ Ok t → WritesTable bytes t
table_spelled bytes t h =
    let step = then_ok (bytes_within MOST_BYTES bytes) table_in t h in
    let few = unless_ok (nat_lt MOST_BYTES (length bytes)) (Ok bytes) (too_many MOST_BYTES) step.0 step.1 in
    let same : bytes ≡ step.0 = same_Ok bytes step.0 few.1 in
    records_spelled bytes (records default_config (strip_bom bytes)) t (ltb-false MOST_BYTES (length bytes) few.0) refl (ap table_in same ∙ step.2)

-- bytes that write a table are read as it
pub table_read_back : (bytes : List ℕ) (t : Table) → WritesTable bytes t → table_of bytes ≡ Ok t
table_read_back bytes t w =
    ap (λ read. read >>= table_in) (cond-false (nat_lt MOST_BYTES (length bytes)) (Err (too_many MOST_BYTES)) (Ok bytes) (le-ltb MOST_BYTES (length bytes) w.few_bytes))
    ∙ ap table_of_records w.split
    ∙ ap (λ read. read >>= λ columns. table_with (seeing columns w.others) w.others) (header_read_back w.header w.named w.header_is)
    ∙ ap (λ columns. table_with columns w.others) (sym w.columns_are)
    ∙ ap (λ read. read >>= λ rows. Ok (record { columns = t.columns; rows = rows })) (rows_again (kinds_of t.columns) [] w.others t.rows (let few = w.few_rows in omega arith) w.rows_are)
