-- Columns, row by row.
use Rattle.std.proofs.Common.{◌≡◌, ◌∙◌, ◌<◌, ◌≤◌, ◌+◌, ◌-◌, ◌*◌, ◌++◌, ℕ, zero, suc, ℤ, pos, true, false, eqb, is_some, nat_lt, List, [], ◌∷◌, length, get_or, set, take, drop, map, slice_get, unwrap_or, Option, None, Some, Ok, refl, sym, ap, arith, length-append, subst, Bool, if◌then◌else◌}
use Rattle.std.proofs.lemmas.Bool.{false≢true, ltb-false}
use Rattle.std.proofs.lemmas.Bool.Decides.{nat_tests}
use Rattle.std.specs.List.{range_with_len}
use Rattle.std.proofs.Math.Nat.{suc-mul}
use Rattle.std.proofs.lemmas.List.FromFn.{length-range_with_len}
use Rattle.std.proofs.lemmas.List.{drop-map, drop-replicate, drop_all, drop_more, length-map, map_push, take_all, take_more}
use Rattle.std.proofs.lemmas.Nat.{mul-le}
use Rattle.sw_rows.specs.Domains.{Domain}
use Rattle.sw_rows.specs.Domains as kind
use Rattle.sw_rows.specs.Faults.{bad_table, too_many}
use Rattle.sw_rows.specs.Header.{Column, header_after, header_of}
use Rattle.sw_table.specs.Packed as packed
use Rattle.sw_table.specs.Packed.{zeros}
use Rattle.sw_table.proofs.KeyLists.{numbers-split}
use Rattle.sw_table.proofs.Packing.{rows-push}
use Rattle.sw_table.specs.declared.row.Row.{Row}
use Rattle.sw_lang.specs.Replies.{kind_at}
use Rattle.sw_arrays.specs.Columns.{HasCell, HaveCells, cell_in, cells_at, columns_in, field_of, first_lacking, flat_cells, has_last, is_cell_there, is_of_numbers, lacking_in, or_later, row_cells, rows_in}
use Rattle.sw_rows.proofs.Options.{err-ok, unless_ok}
use Rattle.sw_arrays.specs.Columns as specs
use Rattle.sw_arrays.specs.declared.columns.Cells.{Cells}
use Rattle.sw_arrays.specs.declared.columns.Place.{Place}
use Rattle.sw_arrays.specs.declared.header.Attribute.{Attribute}
use Rattle.sw_arrays.proofs.Blocks.{part_filled, set_next}

-- ---- a row's cells

-- one more cell stands in its place
pub row_next : (columns : List Cells) (row n : ℕ) (d : Cells) (cells : List ℤ) (z : ℤ) → n < length columns → length columns ≤ 8
    → z ≡ unwrap_or (cell_in (get_or columns n d) row) (pos 0) → cells ≡ part_filled n (row_cells columns row) zeros → set cells n z ≡ part_filled (n + 1) (row_cells columns row) zeros
row_next columns row n d cells z lt few value so =
    let f = λ (x : Cells). unwrap_or (cell_in x row) (pos 0) in
    let on : n + 1 ≡ suc n = omega arith in
    let rest : drop n (row_cells columns row) ≡ f (get_or columns n d) ∷ map f (drop (n + 1) columns) = drop-map f n columns ∙ ap (map f) (drop_more columns n d lt) in
    let within : n < length zeros = omega (arith, lt, few) in
    ap (λ o. set o n z) so ∙ (ap (λ y. set (part_filled n (row_cells columns row) zeros) n y) value
    ∙ (set_next n (row_cells columns row) zeros (f (get_or columns n d)) (map f (drop (n + 1) columns)) rest within ∙ ap (λ m. part_filled m (row_cells columns row) zeros) (sym on)))

-- all cells stand in their places
pub row_whole : (columns : List Cells) (row : ℕ) (cells : List ℤ) → length columns ≤ 8 → cells ≡ part_filled (length columns) (row_cells columns row) zeros → cells ≡ cells_at columns row
row_whole columns row cells few so =
    let f = λ (x : Cells). unwrap_or (cell_in x row) (pos 0) in
    let len : length (row_cells columns row) ≡ length columns = length-map columns f in
    so ∙ (ap (λ n. take n (row_cells columns row) ++ drop n zeros) (sym len)
    ∙ (ap (λ zs. zs ++ drop (length (row_cells columns row)) zeros) (take_all (length (row_cells columns row)) (row_cells columns row) (omega arith))
    ∙ ap (λ zs. row_cells columns row ++ zs) (drop-replicate (length (row_cells columns row)) 8 (pos 0))))

-- the cells of one more column
pub cells_more : (columns : List Cells) (row i : ℕ) (d : Cells) → i < length columns
    → row_cells (take i columns) row ++ unwrap_or (cell_in (get_or columns i d) row) (pos 0) ∷ [] ≡ row_cells (take (i + 1) columns) row
cells_more columns row i d lt =
    let f = λ (x : Cells). unwrap_or (cell_in x row) (pos 0) in
    sym (ap (map f) (take_more columns i d lt) ∙ map_push f (take i columns) (get_or columns i d))

-- as many cells as the columns have in so many rows
pub flat_long : (columns : List Cells) (many : ℕ) → length (flat_cells columns many) ≡ many * length columns
flat_long columns zero = omega arith
flat_long columns (suc many) =
    let len : length (row_cells columns many) ≡ length columns = length-map columns (λ (x : Cells). unwrap_or (cell_in x many) (pos 0)) in
    omega (arith, length-append (flat_cells columns many) (row_cells columns many), flat_long columns many, len, suc-mul many (length columns))

-- the rows of these cells
pub flat_rows : (columns : List Cells) (many : ℕ) → length columns ≤ 8
    → packed.rows_in (length columns) (range_with_len 1 many) (flat_cells columns many) ≡ rows_in columns many
flat_rows columns zero few = refl
flat_rows columns (suc many) few =
    let n = length columns in let xs = row_cells columns many in let ks = range_with_len 1 many in
    let long : length (flat_cells columns many) ≡ length ks * n = flat_long columns many ∙ ap (λ m. m * n) (sym (length-range_with_len 1 many)) in
    let keys : range_with_len 1 (suc many) ≡ ks ++ (1 + many) ∷ [] = ap (range_with_len 1) (let e : suc many ≡ many + 1 = omega arith in e) ∙ numbers-split 1 many 1 in
    let key : 1 + many ≡ many + 1 = omega arith in
    let last : packed.row_of n (1 + many) xs ≡ record { key = many + 1; cells = cells_at columns many } =
    ap (λ k. packed.row_of n k xs) key ∙ ap (λ (zs : List ℤ). let r : Row = record { key = many + 1; cells = zs } in r) (row_whole columns many (take n xs ++ drop n zeros) few refl) in
    ap (λ (v : List ℕ). packed.rows_in n v (flat_cells columns (suc many))) keys
    ∙ rows-push n ks (flat_cells columns many) (1 + many) xs long
    ∙ ap (λ (r : Row). packed.rows_in n ks (flat_cells columns many) ++ r ∷ []) last
    ∙ ap (λ (rs : List Row). rs ++ record { key = many + 1; cells = cells_at columns many } ∷ []) (flat_rows columns many few)

-- ---- rows that lack a cell

left_more : (row many : ℕ) → row < many → many - row ≡ suc (many - (row + 1))
left_more row many lt = omega (arith, lt)

-- a row that has a cell of the kind is passed
pub lacking_goes : (d : Domain) (c : Cells) (row many : ℕ) (whole : Option ℕ) → row < many → is_cell_there d (cell_in c row) ≡ true
    → first_lacking d c row (many - row) ≡ whole → first_lacking d c (row + 1) (many - (row + 1)) ≡ whole
lacking_goes d c row many whole lt there so = rw there at (rw (left_more row many lt) at so)

-- a row that has none is the first that lacks one; rows count from 1
pub lacking_ends : (d : Domain) (c : Cells) (row many : ℕ) (whole : Option ℕ) → row < many → is_cell_there d (cell_in c row) ≡ false
    → first_lacking d c row (many - row) ≡ whole → whole ≡ Some (row + 1)
lacking_ends d c row many whole lt lacks so = sym (rw lacks at (rw (left_more row many lt) at so))

-- behind the last row none that lacks one is found
pub lacking_none : (d : Domain) (c : Cells) (many : ℕ) (whole : Option ℕ) → first_lacking d c many (many - many) ≡ whole → whole ≡ None
lacking_none d c many whole so = let none : many - many ≡ 0 = omega arith in sym (rw none at so)

-- a number is a cell of numbers
number_there : (d : Domain) (o : Option ℤ) → is_of_numbers d ≡ true → is_some o ≡ true → is_cell_there d o ≡ true
number_there kind.Int (Some z) h k = refl
number_there (kind.Fix places) (Some z) h k = refl
number_there kind.Flag (Some z) h k = absurd (false≢true h)
number_there (kind.Text texts) (Some z) h k = absurd (false≢true h)
number_there d None h k = absurd (false≢true k)

none_lacking : (d : Domain) (c : Cells) (row many : ℕ) → is_of_numbers d ≡ true → ((k : ℕ) → k < row + many → is_some (cell_in c k) ≡ true) → first_lacking d c row many ≡ None
none_lacking d c row zero h there = refl
none_lacking d c row (suc many) h there =
    let first : is_cell_there d (cell_in c row) ≡ true = number_there d (cell_in c row) h (there row (omega arith)) in
    rw first (none_lacking d c (row + 1) many h (λ k lt. there k (omega (arith, lt))))

some_within : {A : Type 0} (xs : List A) (k : ℕ) → is_some (slice_get xs k) ≡ true → k < length xs
some_within [] k h = absurd (false≢true h)
some_within (x ∷ xs) zero h = omega arith
some_within (x ∷ xs) (suc k) h = let less = some_within xs k h in omega (arith, less)

within_some : {A : Type 0} (xs : List A) (k : ℕ) → k < length xs → is_some (slice_get xs k) ≡ true
within_some [] k lt = absurd (omega (arith, lt))
within_some (x ∷ xs) zero lt = refl
within_some (x ∷ xs) (suc k) lt = within_some xs k (omega (arith, lt))

-- a cell that is there
pub cell_is : (c : Cells) (row : ℕ) (d : ℤ) → row * c.stride < length c.cells.now → get_or c.cells.now (row * c.stride) d ≡ unwrap_or (cell_in c row) (pos 0)
cell_is c row d lt = at c.cells.now (row * c.stride) lt
  where
    at : (xs : List ℤ) (k : ℕ) → k < length xs → get_or xs k d ≡ unwrap_or (slice_get xs k) (pos 0)
    at [] k small = absurd (omega (arith, small))
    at (x ∷ xs) zero small = refl
    at (x ∷ xs) (suc k) small = at xs k (omega (arith, small))

-- where the last row has a cell, each one before it has
pub numbers_there : (d : Domain) (c : Cells) (many : ℕ) → is_of_numbers d ≡ true → has_last c many ≡ true → first_lacking d c 0 many ≡ None
numbers_there d c zero h last = refl
numbers_there d c (suc many) h last =
    let some : eqb (suc many) 0 ≡ false = grind (arith, nat_tests) in
    let less_one : suc many - 1 ≡ many = omega arith in
    let end : is_some (cell_in c many) ≡ true = rw (some, less_one) at last in
    let less : many * c.stride < length c.cells.now = some_within c.cells.now (many * c.stride) end in
    none_lacking d c 0 (suc many) h (λ k lt.
    let before : k * c.stride ≤ many * c.stride = mul-le k c.stride many c.stride (omega (arith, lt)) (omega arith) in
    within_some c.cells.now (k * c.stride) (omega (arith, less, before)))

-- ---- columns that lack none

if_none : (b : Bool) (later : Option ℕ) (n : ℕ) → (if b then later else Some n) ≡ None → (b ≡ true) × (later ≡ None)
if_none true later n h = (refl, h)
if_none false later n h = absurd cc

some_there : (d : Domain) (o : Option ℤ) → is_cell_there d o ≡ true → is_some o ≡ true
some_there d None h = absurd (false≢true h)
some_there d (Some z) h = refl

row_there : (d : Domain) (c : Cells) (from many k : ℕ) → first_lacking d c from many ≡ None → k < many → is_some (cell_in c (from + k)) ≡ true
row_there d c from zero k h lt = absurd (omega (arith, lt))
row_there d c from (suc many) zero h lt =
    let both = if_none (is_cell_there d (cell_in c from)) (first_lacking d c (from + 1) many) (from + 1) h in
    subst (λ n. is_some (cell_in c n) ≡ true) (let e : from ≡ from + 0 = omega arith in e) (some_there d (cell_in c from) both.0)
row_there d c from (suc many) (suc k) h lt =
    let both = if_none (is_cell_there d (cell_in c from)) (first_lacking d c (from + 1) many) (from + 1) h in
    subst (λ n. is_some (cell_in c n) ≡ true) (let e : from + 1 + k ≡ from + suc k = omega arith in e) (row_there d c (from + 1) many k both.1 (omega (arith, lt)))

later_none : (attr : ℕ) (later : Option Place) (o : Option ℕ) → or_later attr later o ≡ None → (o ≡ None) × (later ≡ None)
later_none attr later None h = (refl, h)
later_none attr later (Some row) h = absurd cc

column_there : (schema : List Column) (many attr : ℕ) (cs : List Cells) (row i : ℕ) (x : Cells) → lacking_in schema many attr cs ≡ None → row < many → i < length cs → HasCell row (get_or cs i x)
column_there schema many attr [] row i x h few lt = absurd (omega (arith, lt))
column_there schema many attr (c ∷ cs) row zero x h few lt =
    let both = later_none attr (lacking_in schema many (attr + 1) cs) (first_lacking (kind_at schema attr) c 0 many) h in
    some_within c.cells.now (row * c.stride) (subst (λ n. is_some (cell_in c n) ≡ true) (let e : 0 + row ≡ row = omega arith in e) (row_there (kind_at schema attr) c 0 many row both.0 few))
column_there schema many attr (c ∷ cs) row (suc i) x h few lt =
    let both = later_none attr (lacking_in schema many (attr + 1) cs) (first_lacking (kind_at schema attr) c 0 many) h in
    column_there schema many (attr + 1) cs row i x both.1 few (omega (arith, lt))

none_is : (o : Option Place) → specs.none_lacking o ≡ Ok tt → o ≡ None
none_is None h = refl
none_is (Some p) h = absurd (err-ok (bad_table p.row p.column) tt h)

-- columns that lack none have a cell of each row
pub all_there : (schema : List Column) (columns : List Cells) (many : ℕ) → specs.none_lacking (lacking_in schema many 0 columns) ≡ Ok tt → HaveCells many columns
all_there schema columns many h row few i x lt = column_there schema many 0 columns row i x (none_is (lacking_in schema many 0 columns) h) few lt

-- ---- columns one after another

next_column : (cs : List Cells) (i : ℕ) (c : Cells) → i < length cs → c ≡ get_or cs i c → drop i cs ≡ c ∷ drop (i + 1) cs
next_column cs i c lt is = drop_more cs i c lt ∙ ap (λ (x : Cells). x ∷ drop (i + 1) cs) (sym is)

-- a column that lacks no cell is passed
pub column_goes : (schema : List Column) (many i : ℕ) (cs : List Cells) (c : Cells) (whole : Option Place) → i < length cs → c ≡ get_or cs i c
    → first_lacking (kind_at schema i) c 0 many ≡ None → lacking_in schema many i (drop i cs) ≡ whole → lacking_in schema many (i + 1) (drop (i + 1) cs) ≡ whole
column_goes schema many i cs c whole lt is none so = rw none at (rw (next_column cs i c lt is) at so)

-- the first cell that a column lacks is the first of all that are left; columns count from 1
pub column_ends : (schema : List Column) (many i row : ℕ) (cs : List Cells) (c : Cells) (whole : Option Place) → i < length cs → c ≡ get_or cs i c
    → first_lacking (kind_at schema i) c 0 many ≡ Some row → lacking_in schema many i (drop i cs) ≡ whole → whole ≡ Some (record { row = row; column = i + 1 })
column_ends schema many i row cs c whole lt is some so = sym (rw some at (rw (next_column cs i c lt is) at so))

-- behind the last column none that lacks one is found
pub columns_done : (schema : List Column) (many : ℕ) (cs : List Cells) (whole : Option Place) → lacking_in schema many (length cs) (drop (length cs) cs) ≡ whole → whole ≡ None
columns_done schema many cs whole so = sym (rw (drop_all (length cs) cs (omega arith)) at so)

-- ---- the attributes of a header

-- a header has one to eight fields
fields_many : (ts : List (List ℕ)) (cs : List Column) → header_of ts ≡ Ok cs → (1 ≤ length ts) × (length ts ≤ 8)
fields_many [] cs h = absurd (err-ok (bad_table 0 0) cs h)
fields_many (t ∷ ts) cs h =
    let step = unless_ok (nat_lt 8 (length (t ∷ ts))) (header_after (t ∷ ts) []) (too_many 8) cs h in
    (omega arith, ltb-false 8 (length (t ∷ ts)) step.0)

fields_length : (gs : List Attribute) → length (map field_of gs) ≡ length (columns_in gs)
fields_length gs = length-map gs field_of ∙ sym (length-map gs (λ a. a.cells))

-- where attributes make a header, there is a column at least
pub some_columns : (gs : List Attribute) (cs : List Column) → header_of (map field_of gs) ≡ Ok cs → 1 ≤ length (columns_in gs)
some_columns gs cs h = let many = fields_many (map field_of gs) cs h in omega (arith, many.0, fields_length gs)

-- and there are eight at most
pub few_columns : (gs : List Attribute) (cs : List Column) → header_of (map field_of gs) ≡ Ok cs → length (columns_in gs) ≤ 8
few_columns gs cs h = let many = fields_many (map field_of gs) cs h in omega (arith, many.1, fields_length gs)
