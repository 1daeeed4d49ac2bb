-- What is left where a map was refused its cells.
use Rattle.std.proofs.Common.{◌≡◌, ◌≢◌, ℕ, ◌<◌, Bool, true, false, List, length, get_or, set, refl, ap, sym, ◌∙◌, arith, subst, Contains, true≢false, eqb, eqb-true, eq-eqb, Result, Ok, Err, IfErr}
use Rattle.std.specs.Prelude.{IsErrAnd}
use Rattle.std.proofs.Math.ListN.{length-set}
use Rattle.std.proofs.lemmas.List.Elements.{Contains-get_or}
use Rattle.sw_query.specs.declared.refusal.Refusal.{Refusal}
use Rattle.sw_map.specs.declared.tail.Tail.{Tail}
use Rattle.sw_map.specs.Held.{Held, blank}
use Rattle.sw_set.specs.Shelf.{AreaState}
use Rattle.sw_set.specs.Prepared.{ComesFromMap, IsOfBudget}
use Rattle.sw_set.specs.Boxed.{HasGrownAt, IsFreshBut, IsHeld, LacksOne}
use Rattle.sw_set.proofs.Areas.Boxes.{set-each, get_or_any}
use Rattle.sw_set.proofs.Preparing.Trying.{IsTrying, get_or-set_here}

-- a box that is blank now has no map of the tail, and no other box has one
blank_lacks : (ms : List Held) (at : ℕ) (t : Tail) (n : ℕ) → at < length ms → IsFreshBut at t ms → ¬ IsHeld t n (set ms at blank)
unfolding IsFreshBut
blank_lacks ms at t n lt fresh (k, m, l, is, mp) = by (eqb k at) refl
  where
    by : (b : Bool) → eqb k at ≡ b → ⊥
    by true q = true≢false (ap (λ (v : Held). v.is_blank) (sym (get_or-set_here ms at blank m lt) ∙ (ap (λ j. get_or (set ms at blank) j m) (sym (eqb-true k at q)) ∙ is)) ∙ mp.begun)
    by false q =
        let ls = length-set ms at blank in
        let ne : k ≢ at = λ e. absurd (true≢false (sym (eq-eqb k at e) ∙ q)) in
        let same : get_or (set ms at blank) k m ≡ get_or ms k m = set-each (λ (j : ℕ) (v : Held). j ≢ at → v ≡ get_or ms j m) ms at blank (λ no. absurd (no refl)) (λ j e nj lj _. get_or_any ms j e m lj) k m (omega (arith, l, ls)) ne in
        fresh k m (omega (arith, l, ls)) ne (ap (λ (v : Held). v.is_blank) (sym same ∙ is) ∙ mp.begun) (ap (λ (v : Held). v.tail) (sym same ∙ is) ∙ mp.tail)

-- once the box that was tried for a tail is blank, no box has a map of that tail
pub not_held : (at : ℕ) (tails : List Tail) (t : Tail) (n : ℕ) (x0 x y : AreaState) → at < length x0.boxes → y ≡ record x { boxes = set x.boxes at blank } → IsTrying at tails t x0 x → ¬ IsHeld t n y.boxes
not_held at tails t n x0 x y lt is w =
    let many = w.same.many in
    subst (λ (v : AreaState). ¬ IsHeld t n v.boxes) (sym is) (blank_lacks x.boxes at t n (omega (arith, lt, many)) w.fresh)

-- where the only box for a tail was refused its growth, no box has a map of that tail
pub not_grown : (e : Refusal) (at cells : ℕ) (t : Tail) (n : ℕ) (x y : AreaState) → at < length x.boxes → IsFreshBut at t x.boxes → HasGrownAt (Err e) at cells x y → ¬ IsHeld t n y.boxes
not_grown e at cells t n x y lt fresh (m, grew, is) =
    subst (λ (v : AreaState). ¬ IsHeld t n v.boxes) (sym (is ∙ ap (λ (b : Held). record x { boxes = set x.boxes at b }) grew.0)) (blank_lacks x.boxes at t n lt fresh)

-- where the tail at a place has no map of so many cells, one of the tails lacks such a map
pub lacks_one : (tails : List Tail) (i : ℕ) (t : Tail) (n : ℕ) (ms : List Held) → i < length tails → get_or tails i t ≡ t → ¬ IsHeld t n ms → LacksOne tails n ms
lacks_one tails i t n ms lt is gone = (t, subst (Contains tails) is (Contains-get_or tails i t lt), gone)

-- what a map tells of its refusal
pub by_map : {M U : Type 0} (tells : M → Refusal → Type 0) (m : M) (r : Result U Refusal) → IfErr r (tells m) → IfErr r (ComesFromMap tells)
by_map tells m (Ok u) h = tt
by_map tells m (Err e) h = λ b. (m, h)

-- a call hands a refusal on
pub handed_on : {A : Type 0} (P : Refusal → Type 0) (r : Result A Refusal) (e : Refusal) → IsErrAnd r (λ d. d ≡ e) → P e → IfErr r P
handed_on P (Ok x) e h p = absurd h
handed_on P (Err d) e h p = subst P (sym h) p

-- of as many cells, told in other words
pub told_on : {A : Type 0} (tails : List Tail) (n k : ℕ) (ms : List Held) (r : Result A Refusal) (e : Refusal) → IsErrAnd r (λ d. d ≡ e) → (IsOfBudget e → LacksOne tails n ms) → n ≡ k → IfErr r (λ d. IsOfBudget d → LacksOne tails k ms)
told_on tails n k ms r e h p q = handed_on (λ d. IsOfBudget d → LacksOne tails k ms) r e h (λ b. subst (λ (m : ℕ). LacksOne tails m ms) q (p b))
