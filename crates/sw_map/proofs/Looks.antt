-- What a purse that comes back from a refused lease shows.
use Rattle.std.proofs.Common.{ℕ, ap, sym, ◌∙◌, Result, Ok, Err, IfErr}
use Rattle.sw_query.specs.declared.refusal.Refusal.{Refusal}
use Rattle.sw_query.specs.declared.refusal.Refusal.TheVariants as refusal
use Rattle.sw_budget.specs.Account.{Account}
use Rattle.sw_map.specs.States.{HasLeasedOr, HasReturned, IsLookOf}

shown : (a : Account) (cells : ℕ) (b : Account) (e : Refusal) → HasReturned a cells b e → IsLookOf b e
shown a cells b refusal.NoMemory w = tt
shown a cells b (refusal.BadTable x y) w = absurd w
shown a cells b (refusal.BadLine x y) w = absurd w
shown a cells b (refusal.UnknownAttribute x) w = absurd w
shown a cells b (refusal.TooMany x) w = absurd w
shown a cells b (refusal.NoBlank x y) w = absurd w
shown a cells b (refusal.Short used want capacity) w =
    (ap (λ (v : Account). v.seen) w.0, ap (λ (v : Account). v.found) w.0, ap (λ (v : Account). v.capacity) w.0 ∙ sym w.2)
shown a cells b (refusal.Contended seen found) w = (ap (λ (v : Account). v.seen) w.0, ap (λ (v : Account). v.found) w.0)
shown a cells b (refusal.SharesOut x y) w = absurd w
shown a cells b (refusal.HistoryFull x) w = absurd w
shown a cells b (refusal.NotLegal x) w = absurd w
shown a cells b refusal.Input w = absurd w
shown a cells b refusal.Output w = absurd w
shown a cells b (refusal.Ahead x y) w = absurd w

-- a lease that is refused tells what its seat saw when it last asked
pub look_shown : {U : Type 0} (r : Result U Refusal) (a : Account) (cells : ℕ) (b : Account) → HasLeasedOr r a cells b → IfErr r (IsLookOf b)
look_shown (Ok u) a cells b w = tt
look_shown (Err e) a cells b w = shown a cells b e w
