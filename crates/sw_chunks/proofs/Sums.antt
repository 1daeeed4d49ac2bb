-- Sums over areas.
use Rattle.std.proofs.Common.{◌≡◌, ◌∙◌, sym, ap, subst, refl, ℕ, ◌+◌, ◌<◌, List, [], ◌∷◌, ◌++◌, arith, get_or, length, take}
use Rattle.std.proofs.lemmas.List.{take_more}
use Rattle.sw_tape.specs.Bounds.{HasPieces}
use Rattle.sw_set.specs.Figures.{capped}
use Rattle.sw_set.specs.Shelf.{AreaState}
use Rattle.sw_chunks.specs.Figures.{HavePieces, SumPieces}

pieces_push : (xs : List AreaState) (x : AreaState) (n k : ℕ) → SumPieces xs n → HasPieces k x.tape → SumPieces (xs ++ x ∷ []) (n + k)
pieces_push [] x n k s h = (k, 0, h, refl, omega (arith, s))
pieces_push (y ∷ xs) x n k s h =
    let rest = pieces_push xs x s.1 k s.3 h in
    (s.0, s.1 + k, s.2, rest, let e = s.4 in omega (arith, e))

-- one area more
pub pieces_more : (xs : List AreaState) (i : ℕ) (x : AreaState) (n k m : ℕ) → i < length xs → x ≡ get_or xs i x → HavePieces (take i xs) n → HasPieces k x.tape → m ≡ capped (n + k) → HavePieces (take (i + 1) xs) m
pieces_more xs i x n k m lt is h p e =
    let front : take (i + 1) xs ≡ take i xs ++ x ∷ [] = take_more xs i x lt ∙ ap (λ y. take i xs ++ y ∷ []) (sym is) in
    (h.0 + k, subst (λ l. SumPieces l (h.0 + k)) (sym front) (pieces_push (take i xs) x h.0 k h.1 p), let t = h.2 in omega (arith, e, t))
