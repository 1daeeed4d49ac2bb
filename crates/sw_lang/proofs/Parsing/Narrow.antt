-- Where a term goes among the conditions.
use Rattle.std.proofs.Common.{◌≡◌, ℕ, zero, suc, ◌+◌, ◌<◌, ◌≤◌, Bool, true, false, cond, eqb, ltb, List, [], ◌∷◌, ◌++◌, length, get_or, set, Some, None, refl, ap, ◌∙◌, arith}
use Rattle.std.specs.Prelude.{position}
use Rattle.std.specs.List.{position_or_len}
use Rattle.std.proofs.lemmas.Option.{cond_some}
use Rattle.std.proofs.lemmas.Bool.{ltb-true, ltb-false}
use Rattle.sw_query.specs.declared.query.Cond.{Cond}
use Rattle.sw_lang.specs.declared.reading.term.Term.{Term}
use Rattle.sw_lang.specs.Terms.{cond_of, narrowed, add_term}

-- whether a condition is on the attribute
abbrev pub on : ℕ → Cond → Bool
on a c = eqb c.attr a

new-step : (v : Bool) (c : Cond) (cs : List Cond) (t : Term) → eqb c.attr t.attr ≡ v → length (c ∷ cs) ≤ position_or_len (on t.attr) (c ∷ cs)
    → (length cs ≤ position_or_len (on t.attr) cs → add_term cs t ≡ cs ++ cond_of t ∷ []) → add_term (c ∷ cs) t ≡ (c ∷ cs) ++ cond_of t ∷ []
new-step true c cs t e h ih = let z : length (c ∷ cs) ≤ 0 = rw e at h in absurd (omega arith)
new-step false c cs t e h ih = let z : length (c ∷ cs) ≤ 1 + position_or_len (on t.attr) cs = rw e at h in rw e (ap (λ (x : List Cond). c ∷ x) (ih (omega arith)))

new_last : (cs : List Cond) (t : Term) → length cs ≤ position_or_len (on t.attr) cs → add_term cs t ≡ cs ++ cond_of t ∷ []
new_last [] t h = refl
new_last (c ∷ cs) t h = new-step (eqb c.attr t.attr) c cs t refl h (new_last cs t)

first-step : (v : Bool) (c : Cond) (cs : List Cond) (t : Term) → eqb c.attr t.attr ≡ v → position_or_len (on t.attr) (c ∷ cs) ≡ 0 → add_term (c ∷ cs) t ≡ narrowed c t ∷ cs
first-step true c cs t e h = rw e refl
first-step false c cs t e h = let z : 1 + position_or_len (on t.attr) cs ≡ 0 = rw e at h in absurd (omega arith)

later-step : (v : Bool) (c : Cond) (cs : List Cond) (t : Term) (j : ℕ) → eqb c.attr t.attr ≡ v → position_or_len (on t.attr) (c ∷ cs) ≡ suc j
    → (position_or_len (on t.attr) cs ≡ j) × (add_term (c ∷ cs) t ≡ c ∷ add_term cs t)
later-step true c cs t j e h = let z : 0 ≡ suc j = rw e at h in absurd (omega arith)
later-step false c cs t j e h = let z : 1 + position_or_len (on t.attr) cs ≡ suc j = rw e at h in (omega arith, rw e refl)

set_there : (cs : List Cond) (t : Term) (i : ℕ) (d : Cond) → position_or_len (on t.attr) cs ≡ i → i < length cs → add_term cs t ≡ set cs i (narrowed (get_or cs i d) t)
set_there [] t i d h lt = absurd (omega arith)
set_there (c ∷ cs) t zero d h lt = first-step (eqb c.attr t.attr) c cs t refl h
set_there (c ∷ cs) t (suc j) d h lt =
    let s = later-step (eqb c.attr t.attr) c cs t j refl h in
    s.1 ∙ ap (λ (x : List Cond). c ∷ x) (set_there cs t j d s.0 (omega arith))

past : (v : Bool) (n len : ℕ) → ltb n len ≡ v → cond v (Some n) None ≡ None → len ≤ n
past true n len e h = absurd cc
past false n len e h = ltb-false _ _ e

-- a term on an attribute without a condition makes one at the end
pub at_none : (cs : List Cond) (t : Term) → position (on t.attr) cs ≡ None → add_term cs t ≡ cs ++ cond_of t ∷ []
at_none cs t h = new_last cs t (past (ltb (position_or_len (on t.attr) cs) (length cs)) (position_or_len (on t.attr) cs) (length cs) refl h)

-- a term on an attribute with a condition narrows it in its place
pub at_some : (cs : List Cond) (t : Term) (i : ℕ) (d : Cond) → position (on t.attr) cs ≡ Some i → add_term cs t ≡ set cs i (narrowed (get_or cs i d) t)
at_some cs t i d h =
    let p = cond_some _ _ _ h in
    set_there cs t i d p.1 (let below : position_or_len (on t.attr) cs < length cs = ltb-true _ _ p.0 in omega (arith, p.1))
