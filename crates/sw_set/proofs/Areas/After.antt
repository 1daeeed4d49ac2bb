-- What holds of the rows that came, and of the live ones, after updates that may be received.
use Rattle.std.proofs.Common.{◌≡◌, ℕ, zero, suc, ℤ, ◌<◌, ◌^◌, true, List, [], ◌∷◌, ◌++◌, fold, take, All, Option}
use Rattle.std.proofs.lemmas.List.Elements.{All-append}
use Rattle.sw_table.specs.declared.row.Row.{Row}
use Rattle.sw_table.specs.declared.row.Update.{Update}
use Rattle.sw_table.specs.declared.row.Update.TheVariants.{Insert, Remove}
use Rattle.sw_table.specs.Updates.{rows_then}
use Rattle.sw_set.specs.Shelf.{AreReceivable, Rises, came_then, key_of, lies_within}
use Rattle.sw_set.proofs.Areas.Longer.{all-without, rises-last, rises-without}
use Rattle.sw_set.proofs.Areas.Receiving.{IsBelow, all-one, less-then}

-- what holds of the live rows and of those that may come
pub after-all : (P : Row → Type 0) (a : ℕ) (f b : Option ℤ) (came live : List Row) (us : List Update) → AreReceivable a f b came live us → ((r : Row) → r.key < 2 ^ 63 → lies_within a f b r ≡ true → P r) → All P live → All P (fold rows_then live us)
after-all P a f b came live [] w may h = h
after-all P a f b came live (Insert r ∷ us) w may h = after-all P a f b (came ++ r ∷ []) (live ++ r ∷ []) us w.1 may (All-append P live (r ∷ []) h (all-one P r (may r w.0.1 w.0.2)))
after-all P a f b came live (Remove k ∷ us) w may h = after-all P a f b came (rows_then live (Remove k)) us w.1 may (all-without P k live h)

-- rows that came by rising keys still do after updates that may be received
pub came-rise : (a : ℕ) (f b : Option ℤ) (came live : List Row) (us : List Update) → AreReceivable a f b came live us → Rises key_of came → Rises key_of (fold came_then came us)
came-rise a f b came live [] w h = h
came-rise a f b came live (Insert r ∷ us) w h = came-rise a f b (came ++ r ∷ []) (live ++ r ∷ []) us w.1 (rises-last key_of came r h w.0.0)
came-rise a f b came live (Remove k ∷ us) w h = came-rise a f b came (rows_then live (Remove k)) us w.1 h

-- live rows still rise by key after updates that may be received, if none exceeds all that came
pub rows-rise : (a : ℕ) (f b : Option ℤ) (came live : List Row) (us : List Update) → AreReceivable a f b came live us → ((n : ℕ) → IsBelow n came → IsBelow n live) → Rises key_of live → Rises key_of (fold rows_then live us)
rows-rise a f b came live [] w less h = h
rows-rise a f b came live (Insert r ∷ us) w less h =
    rows-rise a f b (came ++ r ∷ []) (live ++ r ∷ []) us w.1 (less-then came live (Insert r) less) (rises-last key_of live r h (less r.key w.0.0))
rows-rise a f b came live (Remove k ∷ us) w less h =
    rows-rise a f b came (rows_then live (Remove k)) us w.1 (λ n below. all-without (λ (r : Row). r.key < n) k live (less n below)) (rises-without k live h)

-- the first of them
pub receivable-take : (a : ℕ) (f b : Option ℤ) (came live : List Row) (us : List Update) (n : ℕ) → AreReceivable a f b came live us → AreReceivable a f b came live (take n us)
receivable-take a f b came live us zero w = tt
receivable-take a f b came live [] (suc n) w = tt
receivable-take a f b came live (u ∷ us) (suc n) w = (w.0, receivable-take a f b (came_then came u) (rows_then live u) us n w.1)
