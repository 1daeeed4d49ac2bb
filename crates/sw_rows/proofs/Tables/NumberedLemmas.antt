-- Rows that are numbered from 1.
use Rattle.std.proofs.Common.{◌≡◌, ◌∙◌, ap, sym, ℕ, ℤ, ◌+◌, ◌*◌, List, [], ◌∷◌, ◌++◌, drop, length, take, arith}
use Rattle.std.proofs.lemmas.List.{map-id}
use Rattle.std.proofs.lemmas.List.FromFn.{length-range_with_len, map-range_with_len_more}
use Rattle.std.specs.List.{range_with_len}
use Rattle.sw_rows.specs.Tables.{row_of}
use Rattle.sw_table.proofs.Packing.{row-within, rows-many, rows-push}
use Rattle.sw_table.specs.Packed.{rows_in, zeros}
use Rattle.sw_table.specs.declared.row.Row.{Row}

-- one more number
numbers_more : (many : ℕ) → range_with_len 1 (many + 1) ≡ range_with_len 1 many ++ (many + 1) ∷ []
numbers_more many =
    sym (map-id (range_with_len 1 (many + 1))) ∙ map-range_with_len_more (λ n. n) 1 many (many + 1) (omega arith) ∙ ap (λ ns. ns ++ (many + 1) ∷ []) (map-id (range_with_len 1 many))

-- one more row, of eight cells of which those from the n-th on are 0
pub rows_more : (n many : ℕ) (cs xs : List ℤ) → length cs ≡ many * n → drop n xs ≡ drop n zeros
    → rows_in n (range_with_len 1 (many + 1)) (cs ++ take n xs) ≡ rows_in n (range_with_len 1 many) cs ++ row_of (length (rows_in n (range_with_len 1 many) cs) + 1) xs ∷ []
rows_more n many cs xs whole within =
    let ks = range_with_len 1 many in
    let row : Row = record { key = many + 1; cells = xs } in
    let long = length-range_with_len 1 many in
    ap (λ ns. rows_in n ns (cs ++ take n xs)) (numbers_more many)
    ∙ rows-push n ks cs (many + 1) (take n xs) (whole ∙ ap (λ m. m * n) (sym long))
    ∙ ap (λ (r : Row). rows_in n ks cs ++ r ∷ []) (row-within n row within)
    ∙ ap (λ m. rows_in n ks cs ++ row_of (m + 1) xs ∷ []) (sym (rows-many n ks cs ∙ long))
