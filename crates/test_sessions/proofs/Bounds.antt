-- Conditions that all have a bound.
use Rattle.std.proofs.Common.{◌≡◌, true, List, [], ◌∷◌, All}
use Rattle.std.specs.List.{list_all}
use Rattle.std.proofs.lemmas.Bool.{and_parts}
use Rattle.std.proofs.lemmas.List.Elements.{All-cons, All-nil}
use Rattle.sw_query.specs.declared.query.Cond.{Cond}
use Rattle.sw_lang.specs.Fits.{IsBound, is_bound}

-- from the test over conditions to what a query asks of them
pub all_bound : (cs : List Cond) → list_all (λ (c : Cond). is_bound c.lower c.upper) cs ≡ true → All IsBound cs
all_bound [] h = All-nil IsBound
all_bound (c ∷ cs) h =
    let parts = and_parts (is_bound c.lower c.upper) (list_all (λ (d : Cond). is_bound d.lower d.upper) cs) h in
    All-cons IsBound c cs parts.0 (all_bound cs parts.1)
