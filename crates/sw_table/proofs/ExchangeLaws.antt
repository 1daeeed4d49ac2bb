-- Rows of a flat list whose cells are exchanged one after another.
use Rattle.std.proofs.Common.{◌≡◌, ◌∙◌, ap, sym, refl, ℕ, zero, suc, ◌+◌, ◌*◌, ◌<◌, ◌≤◌, List, [], ◌∷◌, ◌++◌, length, map, get_or, take, drop, ℤ, pos, arith, length-drop}
use Rattle.std.proofs.Math.ListN.{set}
use Rattle.std.proofs.Math.Nat.{suc-mul}
use Rattle.std.proofs.Math.Seq.{take-set-lt}
use Rattle.std.proofs.lemmas.List.{drop-set-add, drop-set-lt, get_or-drop, get_or-take, get_or_append_left, length-take-le, set-append_left, take-set-le}
use Rattle.sw_table.specs.Exchanged.{exchanged, with_exchanged}
use Rattle.sw_table.specs.declared.row.Row.{Row}
use Rattle.sw_table.specs.Packed.{row_of, rows_in, zeros}

-- f of the first rows, and the others
abbrev pub partly : (Row → Row) → ℕ → List Row → List Row
partly f zero rs = rs
partly f (suc i) [] = []
partly f (suc i) (r ∷ rs) = f r ∷ partly f i rs

-- f of the row at a place
abbrev at_place : (Row → Row) → ℕ → List Row → List Row
at_place f i [] = []
at_place f zero (r ∷ rs) = f r ∷ rs
at_place f (suc i) (r ∷ rs) = r ∷ at_place f i rs

one_further : (f : Row → Row) (i : ℕ) (rs : List Row) → at_place f i (partly f i rs) ≡ partly f (suc i) rs
one_further f zero [] = refl
one_further f zero (r ∷ rs) = refl
one_further f (suc i) [] = refl
one_further f (suc i) (r ∷ rs) = ap (λ v. f r ∷ v) (one_further f i rs)

-- where as many first rows are changed as there are, all of them are
pub all_of : (f : Row → Row) (i : ℕ) (rs : List Row) → i ≡ length rs → partly f i rs ≡ map f rs
all_of f zero [] h = refl
all_of f zero (r ∷ rs) h = absurd (omega (arith, h))
all_of f (suc i) [] h = refl
all_of f (suc i) (r ∷ rs) h = ap (λ v. f r ∷ v) (all_of f i rs (omega (arith, h)))

-- the cell of a row that lies first
first_exchanged : (n k a : ℕ) (cs : List ℤ) (codes : List ℤ) → a < n → n ≤ length cs
    → row_of n k (set cs a (exchanged codes (get_or cs a (pos 0)))) ≡ with_exchanged a codes (row_of n k cs)
first_exchanged n k a cs codes lt le =
    let long = length-take-le n cs le in
    let inside : a < length (take n cs) = omega (arith, long, lt) in
    let same : get_or (take n cs ++ drop n zeros) a (pos 0) ≡ get_or cs a (pos 0) = get_or_append_left (take n cs) (drop n zeros) (pos 0) a inside ∙ get_or-take n cs a (pos 0) lt in
    let x = exchanged codes (get_or cs a (pos 0)) in
    ap (λ (v : List ℤ). let r : Row = record { key = k; cells = v } in r)
    (ap (λ v. v ++ drop n zeros) (take-set-lt n cs a x lt) ∙ sym (set-append_left (take n cs) (drop n zeros) a x inside) ∙ ap (λ z. set (take n cs ++ drop n zeros) a (exchanged codes z)) (sym same))

row_exchanged : (n : ℕ) (ks : List ℕ) (cs : List ℤ) (i a : ℕ) (codes : List ℤ) → a < n → length cs ≡ length ks * n → i < length ks
    → rows_in n ks (set cs (i * n + a) (exchanged codes (get_or cs (i * n + a) (pos 0)))) ≡ at_place (with_exchanged a codes) i (rows_in n ks cs)
row_exchanged n [] cs i a codes lt long inside = absurd (omega (arith, inside))
row_exchanged n (k ∷ ks) cs zero a codes lt long inside =
    let more : length cs ≡ length ks * n + n = long ∙ suc-mul (length ks) n in
    let here : 0 * n + a ≡ a = omega arith in
    rw here (ap (λ rs. row_of n k (set cs a (exchanged codes (get_or cs a (pos 0)))) ∷ rs) (ap (rows_in n ks) (drop-set-lt n cs a (exchanged codes (get_or cs a (pos 0))) lt)) ∙ ap (λ r. r ∷ rows_in n ks (drop n cs)) (first_exchanged n k a cs codes lt (omega (arith, more))))
row_exchanged n (k ∷ ks) cs (suc i) a codes lt long inside =
    let more : length cs ≡ length ks * n + n = long ∙ suc-mul (length ks) n in
    let rest : length (drop n cs) ≡ length ks * n = omega (arith, more, length-drop n cs) in
    let there : suc i * n + a ≡ n + (i * n + a) = omega (arith, suc-mul i n) in
    let x = exchanged codes (get_or cs (n + (i * n + a)) (pos 0)) in
    let same : get_or (drop n cs) (i * n + a) (pos 0) ≡ get_or cs (n + (i * n + a)) (pos 0) = get_or-drop n cs (i * n + a) (pos 0) in
    ap (λ j. rows_in n (k ∷ ks) (set cs j (exchanged codes (get_or cs j (pos 0))))) there
    ∙ ap (λ v. record { key = k; cells = v ++ drop n zeros } ∷ rows_in n ks (drop n (set cs (n + (i * n + a)) x))) (take-set-le n cs (n + (i * n + a)) x (omega arith))
    ∙ ap (λ v. row_of n k cs ∷ rows_in n ks v) (drop-set-add n cs (i * n + a) x ∙ ap (λ z. set (drop n cs) (i * n + a) (exchanged codes z)) (sym same))
    ∙ ap (λ v. row_of n k cs ∷ v) (row_exchanged n ks (drop n cs) i a codes lt rest (omega (arith, inside)))

-- one more row is done
pub rows_further : (n : ℕ) (ks : List ℕ) (cs start : List ℤ) (i a : ℕ) (codes : List ℤ) → a < n → length cs ≡ length ks * n → i < length ks
    → rows_in n ks cs ≡ partly (with_exchanged a codes) i (rows_in n ks start)
    → rows_in n ks (set cs (i * n + a) (exchanged codes (get_or cs (i * n + a) (pos 0)))) ≡ partly (with_exchanged a codes) (i + 1) (rows_in n ks start)
rows_further n ks cs start i a codes lt long inside h =
    let next : suc i ≡ i + 1 = omega arith in
    row_exchanged n ks cs i a codes lt long inside ∙ ap (at_place (with_exchanged a codes) i) h ∙ one_further (with_exchanged a codes) i (rows_in n ks start) ∙ ap (λ m. partly (with_exchanged a codes) m (rows_in n ks start)) next
