-- The rows of a flat list of cells: one row more, and what stands at their heads.
use Rattle.std.proofs.Common.{◌≡◌, ap, sym, refl, ℕ, ℤ, ◌+◌, ◌≤◌, List, [], ◌∷◌, ◌++◌, length, take, drop, arith}
use Rattle.std.proofs.lemmas.List.{take_all, take-append-le, drop-append-le, length-drop, nil_from_length}
use Rattle.sw_query.specs.declared.reply.ReplyRow.{ReplyRow}
use Rattle.sw_query.specs.Replies.{first_key, first_label, reply_row, rows_in, shown_by}

-- a row more is one more at the end
pub rows-pushed : (ls : List (ℕ × ℕ)) (cs xs : List ℤ) (key many : ℕ) → shown_by ls ≡ length cs → length xs ≡ many → rows_in (ls ++ (key, many) ∷ []) (cs ++ xs) ≡ rows_in ls cs ++ reply_row key xs ∷ []
rows-pushed [] cs xs key many all long =
    let none : cs ≡ [] = nil_from_length cs (sym all) in
    rw none (ap (λ (v : List ℤ). reply_row key v ∷ []) (take_all many xs (omega (arith, long))))
rows-pushed (l ∷ ls) cs xs key many all long =
    let least : l.1 ≤ length cs = omega (arith, all) in
    let rest : shown_by ls ≡ length (drop l.1 cs) = omega (arith, all, length-drop l.1 cs) in
    rw (take-append-le l.1 cs xs least, drop-append-le l.1 cs xs least) (ap (λ (v : List ReplyRow). reply_row l.0 (take l.1 cs) ∷ v) (rows-pushed ls (drop l.1 cs) xs key many rest long))

-- and so many cells more are shown
pub shown-pushed : (ls : List (ℕ × ℕ)) (key many : ℕ) → shown_by (ls ++ (key, many) ∷ []) ≡ shown_by ls + many
shown-pushed [] key many = omega arith
shown-pushed (l ∷ ls) key many = let rest = shown-pushed ls key many in omega (arith, rest)

-- there are as many rows as labels
pub rows-many : (ls : List (ℕ × ℕ)) (cs : List ℤ) → length (rows_in ls cs) ≡ length ls
rows-many [] cs = refl
rows-many (l ∷ ls) cs = let rest = rows-many ls (drop l.1 cs) in omega (arith, rest)

-- the first label has the key of the first row
pub first-shown : (ls : List (ℕ × ℕ)) (cs : List ℤ) → first_label ls ≡ first_key (rows_in ls cs)
first-shown [] cs = refl
first-shown (l ∷ ls) cs = refl
