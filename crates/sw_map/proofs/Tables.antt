-- Two lists and marks, as a table of pairs.
use Rattle.std.proofs.Common.{◌≡◌, ℕ, ◌<◌, ◌+◌, ℤ, pos, List, [], ◌∷◌, ◌++◌, length, map, zip, get_or, refl, sym, ap, ◌∙◌, arith, subst}
use Rattle.sw_table.specs.declared.row.Row.{Row}
use Rattle.sw_query.specs.Scan.{cell_of}
use Rattle.sw_kernel.specs.declared.mark.Mark.{Mark}
use Rattle.sw_kernel.specs.Arrangement.{Arrangement, joined, bounds}
use Rattle.sw_kernel.specs.Replay.{load}
use Rattle.sw_kernel.specs.Flat.{Become, InOrder}
use Rattle.sw_kernel.specs.Tapes.{IsRising}
use Rattle.sw_map.specs.declared.tail.Tail.{Tail}
use Rattle.sw_map.specs.Held.{pair_in, tail_value}
use Rattle.sw_map.specs.Pieces.{IsLaidOut, bounds_of, pieces_between}
use Rattle.sw_map.proofs.Layouts.{is-flat, laid-out, pieces-joined, pieces-loaded, rising-flat, zip-append, zip-at, zip-long}

-- a table of two lists of one length has as many pairs as there are heads
pub table-length : (hs ts : List ℤ) (ms : List Mark) → length hs ≡ length ts → length (joined (pieces_between 0 (zip hs ts) ms)) ≡ length hs
table-length hs ts ms same = ap length (pieces-joined 0 (zip hs ts) ms) ∙ zip-long hs ts same

-- the pair at a place of a table is the head and the tail at that place
pub table-at : (hs ts : List ℤ) (ms : List Mark) (k : ℕ) → length hs ≡ length ts → k < length hs → get_or (joined (pieces_between 0 (zip hs ts) ms)) k (pos 0, pos 0) ≡ (get_or hs k (pos 0), get_or ts k (pos 0))
table-at hs ts ms k same lt = ap (λ (l : List (ℤ × ℤ)). get_or l k (pos 0, pos 0)) (pieces-joined 0 (zip hs ts) ms) ∙ zip-at hs ts k same lt

-- a move that keeps the bounds
pub rippled : (f : Arrangement (ℤ × ℤ) → Arrangement (ℤ × ℤ)) (zs zs' : List (ℤ × ℤ)) (ms ms' : List Mark) → InOrder 0 (length zs) ms → IsRising (bounds_of ms) → ((a : Arrangement (ℤ × ℤ)) → bounds (f a) ≡ bounds a) → Become f zs ms zs' ms' → IsLaidOut (f (pieces_between 0 zs ms)) zs' ms'
rippled f zs zs' ms ms' o r same become =
    let a : Arrangement (ℤ × ℤ) = pieces_between 0 zs ms in
    laid-out (f a) zs' ms' (become a (is-flat zs ms o)) (subst IsRising (sym (same a)) (rising-flat zs ms o r))

zip-rows : (head : ℕ) (tail : Tail) (rows : List Row) → zip (map (cell_of head) rows) (map (tail_value tail) rows) ≡ map (pair_in head tail) rows
zip-rows head tail [] = refl
zip-rows head tail (r ∷ rs) = ap (λ l. pair_in head tail r ∷ l) (zip-rows head tail rs)

-- the pairs of rows come to the end of the last piece
pub table-loaded : (hs ts : List ℤ) (ms : List Mark) (head : ℕ) (tail : Tail) (rows : List Row) → length hs ≡ length ts → InOrder 0 (length hs) ms → pieces_between 0 (zip (hs ++ map (cell_of head) rows) (ts ++ map (tail_value tail) rows)) ms ≡ load (map (pair_in head tail) rows) (pieces_between 0 (zip hs ts) ms)
table-loaded hs ts ms head tail rows same o =
    let n : 0 + length (zip hs ts) ≡ length hs = let z = zip-long hs ts same in omega (arith, z) in
    ap (λ (l : List (ℤ × ℤ)). pieces_between 0 l ms) (zip-append hs (map (cell_of head) rows) ts (map (tail_value tail) rows) same ∙ ap (λ (l : List (ℤ × ℤ)). zip hs ts ++ l) (zip-rows head tail rows))
    ∙ pieces-loaded 0 (length hs) (zip hs ts) (map (pair_in head tail) rows) ms n o
