-- Rows as one flat list of cells: a row at a place, one more row, and a row's cell.
use Rattle.std.proofs.Common.{◌≡◌, ◌≢◌, All, MatchOption, Option, None, Some, ◌∙◌, ap, sym, refl, ℕ, zero, suc, ◌+◌, ◌*◌, ◌<◌, ◌≤◌, ◌-◌, Bool, true, false, Decides, List, [], ◌∷◌, ◌++◌, length, map, get_or, take, drop, replicate, ℤ, pos, arith, length-append, length-drop}
use Rattle.std.proofs.Math.Nat.{add-mul, suc-mul}
use Rattle.std.proofs.lemmas.Nat.{mul-le}
use Rattle.std.proofs.lemmas.List.{drop-append-le, drop-drop, get_or-drop, get_or-take, get_or_append_left, get_or-append_right, length-take-le, nil_from_length, take-append-drop, take-append-le, take-take, take_rest, take_at, drop_at, drop-take}
use Rattle.sw_table.specs.Rows.{cell_of}
use Rattle.sw_table.specs.declared.row.Row.{Row}
use Rattle.std.specs.List.{AllByRecursion}
use Rattle.sw_table.specs.Kept.{kept, kept_parts}
use Rattle.sw_table.specs.Live.{Rises, key_of}
use Rattle.sw_table.specs.Packed.{IsWhole, IsWithin, row_behind, row_of, rows_in, zeros}

-- there are as many rows as keys
pub rows-many : (n : ℕ) (ks : List ℕ) (cs : List ℤ) → length (rows_in n ks cs) ≡ length ks
rows-many n [] cs = refl
rows-many n (k ∷ ks) cs = ap (λ m. suc m) (rows-many n ks (drop n cs))

-- the i-th row has the i-th key, and the n cells from the cell i * n on
pub rows-at : (n : ℕ) (ks : List ℕ) (cs : List ℤ) (i e : ℕ) (d : Row) → i < length ks → get_or (rows_in n ks cs) i d ≡ row_of n (get_or ks i e) (drop (i * n) cs)
rows-at n [] cs i e d lt = absurd (omega (arith, lt))
rows-at n (k ∷ ks) cs zero e d lt = ap (λ m. row_of n k (drop m cs)) (let same : 0 ≡ 0 * n = omega arith in same)
rows-at n (k ∷ ks) cs (suc i) e d lt =
    let same : n + i * n ≡ suc i * n = omega (arith, suc-mul i n) in
    rows-at n ks (drop n cs) i e d (omega (arith, lt)) ∙ ap (row_of n (get_or ks i e)) (drop-drop (i * n) n cs ∙ ap (λ m. drop m cs) same)

-- one more key, and its cells behind the others, is one more row behind the others
pub rows-push : (n : ℕ) (ks : List ℕ) (cs : List ℤ) (k : ℕ) (xs : List ℤ) → length cs ≡ length ks * n → rows_in n (ks ++ k ∷ []) (cs ++ xs) ≡ rows_in n ks cs ++ row_of n k xs ∷ []
rows-push n [] cs k xs long = let none : cs ≡ [] = nil_from_length cs (long ∙ omega arith) in ap (λ v. row_of n k (v ++ xs) ∷ []) none
rows-push n (j ∷ ks) cs k xs long =
    let more : length cs ≡ length ks * n + n = long ∙ suc-mul (length ks) n in
    let least : n ≤ length cs = omega (arith, more) in
    let rest : length (drop n cs) ≡ length ks * n = omega (arith, more, length-drop n cs) in
    rw (take-append-le n cs xs least, drop-append-le n cs xs least) (ap (λ v. row_of n j cs ∷ v) (rows-push n ks (drop n cs) k xs rest))

-- the cells of a row that fits
pub row-within : (n : ℕ) (r : Row) → IsWithin n r → row_of n r.key (take n r.cells) ≡ r
row-within n r is =
    let e : take n (take n r.cells) ++ drop n zeros ≡ r.cells = rw (take-take n n r.cells (omega arith), ← is) (take-append-drop n r.cells) in
    ap (λ (v : List ℤ). let x : Row = record { key = r.key; cells = v } in x) e

-- a cell below the width, and one past it
cell-below : (n k : ℕ) (cs : List ℤ) (a : ℕ) → n ≤ length cs → a < n → cell_of a (row_of n k cs) ≡ get_or cs a (pos 0)
cell-below n k cs a le lt =
    let long = length-take-le n cs le in
    get_or_append_left (take n cs) (drop n zeros) (pos 0) a (omega (arith, long, lt)) ∙ get_or-take n cs a (pos 0) lt

all-zero : (m i : ℕ) → get_or (replicate m (pos 0)) i (pos 0) ≡ pos 0
all-zero zero i = refl
all-zero (suc m) zero = refl
all-zero (suc m) (suc i) = all-zero m i

-- the cells that fill up a row from its width on are 0
pub zero-at : (n a : ℕ) → get_or (drop n zeros) a (pos 0) ≡ pos 0
zero-at n a = get_or-drop n zeros a (pos 0) ∙ at (n + a)
  where
    at : (i : ℕ) → get_or zeros i (pos 0) ≡ pos 0
    at i = all-zero 8 i

cell-past : (n k : ℕ) (cs : List ℤ) (a : ℕ) → n ≤ length cs → n ≤ a → cell_of a (row_of n k cs) ≡ pos 0
cell-past n k cs a le past = get_or-append_right (take n cs) (drop n zeros) n a (pos 0) (length-take-le n cs le) past ∙ zero-at n _

-- ---- places

-- the place of a row is the place of a key
pub place-inside : (n : ℕ) (ks : List ℕ) (cs : List ℤ) (rs : List Row) (i : ℕ) → rows_in n ks cs ≡ rs → i < length rs → i < length ks
place-inside n ks cs rs i is lt = let e : length ks ≡ length rs = sym (rows-many n ks cs) ∙ ap length is in omega (arith, e, lt)

-- where each row has its cells, those of the row at a place lie within the list
pub stretch-inside : (n : ℕ) (ks : List ℕ) (cs : List ℤ) (i : ℕ) → IsWhole n ks cs → i < length ks → i * n + n ≤ length cs
stretch-inside n ks cs i whole lt = omega (arith, suc-mul i n, mul-le (suc i) n (length ks) n (omega (arith, lt)) (omega arith), whole.whole)

-- with one more key and n more cells each row still has its cells
pub pushed-whole : (n : ℕ) (ks : List ℕ) (cs : List ℤ) (k : ℕ) (xs : List ℤ) → IsWhole n ks cs → length xs ≡ n → IsWhole n (ks ++ k ∷ []) (cs ++ xs)
pushed-whole n ks cs k xs whole long =
    let more : length (ks ++ k ∷ []) ≡ suc (length ks) = length-append ks (k ∷ []) ∙ omega arith in
    record {
      some = whole.some;
      most = whole.most;
      whole = rw (more, suc-mul (length ks) n) (omega (arith, length-append cs xs, whole.whole, long));
    }

-- whether the 8 - n cells from the n-th on are 0 is whether a row of 8 cells is within n
pub fits-Decides : (r : Bool) (n : ℕ) (xs : List ℤ) → length xs ≡ 8 → Decides r (take (8 - n) (drop n xs) ≡ take (8 - n) (drop n zeros)) → Decides r (drop n xs ≡ drop n zeros)
fits-Decides r n xs long d =
    let one : take (8 - n) (drop n xs) ≡ drop n xs = ap (λ m. take (m - n) (drop n xs)) (sym long) ∙ take_rest xs n in
    let other : take (8 - n) (drop n zeros) ≡ drop n zeros = take_rest zeros n in
    (λ t. sym one ∙ d.0 t ∙ other, λ p. d.1 (one ∙ p ∙ sym other))

-- a cell of the row at a place
pub cell-at : (n : ℕ) (ks : List ℕ) (cs : List ℤ) (i a : ℕ) (d : Row) → IsWhole n ks cs → i < length ks → a < n → get_or cs (i * n + a) (pos 0) ≡ cell_of a (get_or (rows_in n ks cs) i d)
cell-at n ks cs i a d whole lt below =
    let enough = stretch-inside n ks cs i whole lt in
    sym (get_or-drop (i * n) cs a (pos 0))
    ∙ sym (cell-below n (get_or ks i 0) (drop (i * n) cs) a (omega (arith, length-drop (i * n) cs, enough)) below)
    ∙ sym (ap (cell_of a) (rows-at n ks cs i 0 d lt))

-- a row's cell of an attribute past the width is 0
pub no-cell-at : (n : ℕ) (ks : List ℕ) (cs : List ℤ) (i a : ℕ) (d : Row) → IsWhole n ks cs → i < length ks → n ≤ a → pos 0 ≡ cell_of a (get_or (rows_in n ks cs) i d)
no-cell-at n ks cs i a d whole lt past =
    let enough = stretch-inside n ks cs i whole lt in
    sym (cell-past n (get_or ks i 0) (drop (i * n) cs) a (omega (arith, length-drop (i * n) cs, enough)) past)
    ∙ sym (ap (cell_of a) (rows-at n ks cs i 0 d lt))

-- ---- keys

keys-above : (m n : ℕ) (ks : List ℕ) (cs : List ℤ) → AllByRecursion (λ (r : Row). m < key_of r) (rows_in n ks cs) → AllByRecursion (λ (k : ℕ). m < k) ks
keys-above m n [] cs a = tt
keys-above m n (k ∷ ks) cs a = (a.0, keys-above m n ks (drop n cs) a.1)

-- where the keys of the rows rise, the list of keys rises
pub keys-rise : (n : ℕ) (ks : List ℕ) (cs : List ℤ) → Rises key_of (rows_in n ks cs) → Rises (λ (k : ℕ). k) ks
keys-rise n [] cs r = tt
keys-rise n (k ∷ ks) cs r = (keys-above k n ks (drop n cs) r.0, keys-rise n ks (drop n cs) r.1)

-- the place of a key is the place of its row, and a key that is nowhere is the key of no row
pub rows-found : (r : Option ℕ) (n : ℕ) (ks : List ℕ) (cs : List ℤ) (key : ℕ) → MatchOption r (All (λ (k : ℕ). k ≢ key) ks) (λ p. (p < length ks) × ((d : ℕ) → get_or ks p d ≡ key)) → MatchOption r (All (λ (x : Row). x.key ≢ key) (rows_in n ks cs)) (λ p. (p < length (rows_in n ks cs)) × ((d : Row) → (get_or (rows_in n ks cs) p d).key ≡ key))
rows-found None n ks cs key none = λ i d lt is. (let inside : i < length ks = omega (arith, lt, rows-many n ks cs) in none i 0 inside (sym (ap key_of (rows-at n ks cs i 0 d inside)) ∙ is))
rows-found (Some p) n ks cs key at = (omega (arith, at.0, rows-many n ks cs), λ d. ap key_of (rows-at n ks cs p 0 d at.0) ∙ at.1 0)

-- ---- rows that are kept

parts-many : {X : Type 0} (n : ℕ) (bs : List Bool) (ks : List ℕ) (xs : List X) → length bs ≡ length ks → length xs ≡ length ks * n → length (kept_parts n bs xs) ≡ length (kept bs ks) * n
parts-many n [] ks xs same long = omega arith
parts-many n (b ∷ bs) [] xs same long = absurd (omega (arith, same))
parts-many n (true ∷ bs) (k ∷ ks) xs same long =
    let all : length xs ≡ length ks * n + n = long ∙ suc-mul (length ks) n in
    let rest : length (drop n xs) ≡ length ks * n = omega (arith, all, length-drop n xs) in
    let first : length (take n xs) ≡ n = length-take-le n xs (omega (arith, all)) in
    let more = parts-many n bs ks (drop n xs) (omega (arith, same)) rest in
    length-append (take n xs) (kept_parts n bs (drop n xs)) ∙ (let e : length (take n xs) + length (kept_parts n bs (drop n xs)) ≡ length (kept bs ks) * n + n = omega (arith, first, more) in e) ∙ sym (suc-mul (length (kept bs ks)) n)
parts-many n (false ∷ bs) (k ∷ ks) xs same long =
    let all : length xs ≡ length ks * n + n = long ∙ suc-mul (length ks) n in
    let rest : length (drop n xs) ≡ length ks * n = omega (arith, all, length-drop n xs) in
    parts-many n bs ks (drop n xs) (omega (arith, same)) rest

-- the keys that are kept, with the cells that are kept, are the rows that are kept
pub rows-kept : (n : ℕ) (bs : List Bool) (ks : List ℕ) (cs : List ℤ) → length bs ≡ length ks → length cs ≡ length ks * n → rows_in n (kept bs ks) (kept_parts n bs cs) ≡ kept bs (rows_in n ks cs)
rows-kept n [] ks cs same long = refl
rows-kept n (b ∷ bs) [] cs same long = refl
rows-kept n (true ∷ bs) (k ∷ ks) cs same long =
    let all : length cs ≡ length ks * n + n = long ∙ suc-mul (length ks) n in
    let rest : length (drop n cs) ≡ length ks * n = omega (arith, all, length-drop n cs) in
    let first : length (take n cs) ≡ n = length-take-le n cs (omega (arith, all)) in
    let more = kept_parts n bs (drop n cs) in
    rw (take_at (take n cs) more n first, drop_at (take n cs) more n first) (ap (λ v. row_of n k cs ∷ v) (rows-kept n bs ks (drop n cs) (omega (arith, same)) rest))
rows-kept n (false ∷ bs) (k ∷ ks) cs same long =
    let all : length cs ≡ length ks * n + n = long ∙ suc-mul (length ks) n in
    let rest : length (drop n cs) ≡ length ks * n = omega (arith, all, length-drop n cs) in
    rows-kept n bs ks (drop n cs) (omega (arith, same)) rest

-- each row that is kept has its cells
pub kept-whole : (n : ℕ) (bs : List Bool) (ks : List ℕ) (cs : List ℤ) → length bs ≡ length ks → IsWhole n ks cs → IsWhole n (kept bs ks) (kept_parts n bs cs)
kept-whole n bs ks cs same whole = record { some = whole.some; most = whole.most; whole = parts-many n bs ks cs same whole.whole }

-- ---- the first rows

-- the first m keys, with the first m * n cells, are the first m rows
pub rows-cut : (n m : ℕ) (ks : List ℕ) (cs : List ℤ) → length cs ≡ length ks * n → m ≤ length ks → rows_in n (take m ks) (take (m * n) cs) ≡ take m (rows_in n ks cs)
rows-cut n zero ks cs long le = refl
rows-cut n (suc m) [] cs long le = refl
rows-cut n (suc m) (k ∷ ks) cs long le =
    let all : length cs ≡ length ks * n + n = long ∙ suc-mul (length ks) n in
    let rest : length (drop n cs) ≡ length ks * n = omega (arith, all, length-drop n cs) in
    let size : suc m * n ≡ n + m * n = omega (arith, suc-mul m n) in
    let more : drop n (take (n + m * n) cs) ≡ take (m * n) (drop n cs) = drop-take n (m * n) cs in
    let head : take n (take (n + m * n) cs) ≡ take n cs = take-take n (n + m * n) cs (omega arith) in
    rw (size, head, more) (ap (λ v. row_of n k cs ∷ v) (rows-cut n m ks (drop n cs) rest (omega (arith, le))))

cut-whole : (n m : ℕ) (ks : List ℕ) (cs : List ℤ) → m ≤ length ks → IsWhole n ks cs → IsWhole n (take m ks) (take (m * n) cs)
cut-whole n m ks cs le whole =
    let short = length-take-le m ks le in
    let within = mul-le m n (length ks) n le (omega arith) in
    record {
      some = whole.some;
      most = whole.most;
      whole = length-take-le (m * n) cs (omega (arith, within, whole.whole)) ∙ ap (λ k. k * n) (sym short);
    }

-- ---- a part of the rows, and rows after others

rows-dropped : (n i : ℕ) (ks : List ℕ) (cs : List ℤ) → rows_in n (drop i ks) (drop (i * n) cs) ≡ drop i (rows_in n ks cs)
rows-dropped n zero ks cs = ap (λ m. rows_in n ks (drop m cs)) (let same : 0 * n ≡ 0 = omega arith in same)
rows-dropped n (suc i) [] cs = refl
rows-dropped n (suc i) (k ∷ ks) cs =
    let same : n + i * n ≡ suc i * n = omega (arith, suc-mul i n) in
    ap (rows_in n (drop i ks)) (sym (drop-drop (i * n) n cs ∙ ap (λ m. drop m cs) same)) ∙ rows-dropped n i ks (drop n cs)

dropped-whole : (n i : ℕ) (ks : List ℕ) (cs : List ℤ) → IsWhole n ks cs → i ≤ length ks → IsWhole n (drop i ks) (drop (i * n) cs)
dropped-whole n i ks cs whole le =
    let both : (i + (length ks - i)) * n ≡ i * n + (length ks - i) * n = add-mul i (length ks - i) n in
    let all : (i + (length ks - i)) * n ≡ length ks * n = ap (λ m. m * n) (let e : i + (length ks - i) ≡ length ks = omega (arith, le) in e) in
    record {
      some = whole.some;
      most = whole.most;
      whole = length-drop (i * n) cs ∙ (let e : length cs - i * n ≡ (length ks - i) * n = omega (arith, both, all, whole.whole) in e) ∙ ap (λ m. m * n) (sym (length-drop i ks));
    }

-- the cells of m rows from the i-th on lie within the list
pub part-inside : (n i m : ℕ) (ks : List ℕ) (cs : List ℤ) → IsWhole n ks cs → i + m ≤ length ks → i * n + m * n ≤ length cs
part-inside n i m ks cs whole le =
    let both = add-mul i m n in
    let within = mul-le (i + m) n (length ks) n le (omega arith) in
    omega (arith, both, within, whole.whole)

-- each row of a stretch of the rows has its cells
pub part-whole : (n i m : ℕ) (ks : List ℕ) (cs : List ℤ) → IsWhole n ks cs → i + m ≤ length ks → IsWhole n (take m (drop i ks)) (take (m * n) (drop (i * n) cs))
part-whole n i m ks cs whole le = cut-whole n m (drop i ks) (drop (i * n) cs) (omega (arith, le, length-drop i ks)) (dropped-whole n i ks cs whole (omega (arith, le)))

-- a stretch of the keys, with the cells of that stretch, is the same stretch of the rows
pub rows-part : (n i m : ℕ) (ks : List ℕ) (cs : List ℤ) → IsWhole n ks cs → i + m ≤ length ks → rows_in n (take m (drop i ks)) (take (m * n) (drop (i * n) cs)) ≡ take m (drop i (rows_in n ks cs))
rows-part n i m ks cs whole le =
    rows-cut n m (drop i ks) (drop (i * n) cs) (dropped-whole n i ks cs whole (omega (arith, le))).whole (omega (arith, le, length-drop i ks)) ∙ ap (take m) (rows-dropped n i ks cs)

-- keys behind others, with their cells behind the others', are the rows behind the others
pub rows-joined : (n : ℕ) (ks ls : List ℕ) (cs ds : List ℤ) → length cs ≡ length ks * n → rows_in n (ks ++ ls) (cs ++ ds) ≡ rows_in n ks cs ++ rows_in n ls ds
rows-joined n [] ls cs ds long = let none : cs ≡ [] = nil_from_length cs (long ∙ omega arith) in ap (λ v. rows_in n ls (v ++ ds)) none
rows-joined n (k ∷ ks) ls cs ds long =
    let more : length cs ≡ length ks * n + n = long ∙ suc-mul (length ks) n in
    let least : n ≤ length cs = omega (arith, more) in
    let rest : length (drop n cs) ≡ length ks * n = omega (arith, more, length-drop n cs) in
    rw (take-append-le n cs ds least, drop-append-le n cs ds least) (ap (λ v. row_of n k cs ∷ v) (rows-joined n ks ls (drop n cs) ds rest))

-- where each row of two lists has its cells, so has each row of both together
pub joined-whole : (n : ℕ) (ks ls : List ℕ) (cs ds : List ℤ) → IsWhole n ks cs → IsWhole n ls ds → IsWhole n (ks ++ ls) (cs ++ ds)
joined-whole n ks ls cs ds one other = record {
  some = one.some;
  most = one.most;
  whole = rw (length-append ks ls, length-append cs ds, one.whole, other.whole) (sym (add-mul (length ks) (length ls) n));
}

-- the rows of raised keys
pub rows-raised : (n m : ℕ) (ks : List ℕ) (cs : List ℤ) → rows_in n (map (λ (k : ℕ). m + k) ks) cs ≡ map (row_behind m) (rows_in n ks cs)
rows-raised n m [] cs = refl
rows-raised n m (k ∷ ks) cs = ap (λ v. row_of n (m + k) cs ∷ v) (rows-raised n m ks (drop n cs))
