-- What may come to an area whose next key is above all that came, and what then came.
use Rattle.std.proofs.Common.{◌≡◌, ◌∙◌, ◌<◌, ◌+◌, ◌^◌, ◌++◌, ◌∷◌, [], ℕ, List, All, None, true, fold, sym, subst, ap, refl, arith, zero, suc}
use Rattle.std.proofs.lemmas.List.Elements.{All-append}
use Rattle.std.proofs.lemmas.List.Sums.{fold-append}
use Rattle.sw_table.specs.declared.row.Row.{Row}
use Rattle.sw_table.specs.declared.row.Update.{Update}
use Rattle.sw_table.specs.declared.row.Update.TheVariants.{Insert, Remove}
use Rattle.sw_table.specs.Updates.{has_key}
use Rattle.sw_kernel.specs.Tapes.{brought}
use Rattle.sw_set.specs.Outcomes.{CameToWait}
use Rattle.sw_set.specs.Shelf.{AreaState, MayReceiveAll, came_in, came_then, rows_in}
use Rattle.sw_set.proofs.Areas.Receiving.{IsBelow, all-one}

-- a row whose key is above all that came may come
pub may_come : (x : AreaState) (r : Row) → IsBelow r.key (came_in x) → r.key < 2 ^ 63 → x.from ≡ None → x.below ≡ None → MayReceiveAll (Insert r ∷ []) x
may_come x r came fits from below = rw (from, below) ((came, fits, refl), tt)

-- a row that lives may go
pub may_go : (x : AreaState) (key : ℕ) → has_key key (rows_in x) ≡ true → MayReceiveAll (Remove key ∷ []) x
may_go x key has = (has, tt)

waited : (x y : AreaState) (u : Update) → CameToWait (u ∷ []) x y → came_in y ≡ came_then (came_in x) u
waited x y u is = ap (λ (z : AreaState). came_in z) is.0 ∙ fold-append came_then (brought x.tape) x.inbox (u ∷ [])

-- after a row more the next key is above all that came
pub came_more : (x y : AreaState) (r : Row) (n : ℕ) → IsBelow n (came_in x) → r.key ≡ n → CameToWait (Insert r ∷ []) x y → IsBelow (n + 1) (came_in y)
came_more x y r n came key is =
    subst (IsBelow (n + 1)) (sym (waited x y (Insert r) is))
    (All-append (λ (c : Row). c.key < n + 1) (came_in x) (r ∷ []) (λ k d lt. let p = came k d lt in omega (arith, p)) (all-one (λ (c : Row). c.key < n + 1) r (omega (arith, key))))

-- a removal leaves what came
pub came_same : (x y : AreaState) (key n : ℕ) → IsBelow n (came_in x) → CameToWait (Remove key ∷ []) x y → IsBelow n (came_in y)
came_same x y key n came is = subst (IsBelow n) (sym (waited x y (Remove key) is)) came

-- a list and no more
pub with_none : (n : ℕ) (rs : List Row) → IsBelow n rs → IsBelow n (rs ++ [])
with_none n [] h k d lt = h k d lt
with_none n (r ∷ rs) h zero d lt = h 0 d (omega arith)
with_none n (r ∷ rs) h (suc k) d lt = with_none n rs (λ j e l. h (suc j) e (omega (arith, l))) k d (omega (arith, lt))
